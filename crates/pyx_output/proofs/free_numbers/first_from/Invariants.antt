use Rattle.std.proofs.Common.{◌+◌, ◌-◌, length}
use Rattle.xml_names.specs.Bindings.{all_bindings}
use Rattle.pyx_output.specs.FreeNumbers.{IsPast}
use Rattle.pyx_output.proofs.free_numbers.first_from.Given as goal

abbrev pub invariant-loop-next : goal.invariant-loop-next
invariant-loop-next l = IsPast (all_bindings l.fn.scopes.scopes) l.number

abbrev pub decreases-loop-next : goal.decreases-loop-next
decreases-loop-next l = length (all_bindings l.fn.scopes.scopes) + 1 - l.number
