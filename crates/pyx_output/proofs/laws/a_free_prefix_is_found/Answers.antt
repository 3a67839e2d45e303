use Rattle.std.proofs.Common.{length, arith}
use Rattle.pyx_output.proofs.FirstFree.{bound_before}
use Rattle.pyx_output.proofs.Free.{free}
use Rattle.pyx_output.proofs.laws.a_free_prefix_is_found.Goals as goal

pub returns-clause-free : goal.returns-clause-free
returns-clause-free c = λ bound. free (length bound) 0 bound (omega arith)

pub returns-clause-first : goal.returns-clause-first
returns-clause-first c = bound_before
