use Rattle.std.proofs.Common.{drop}
use Rattle.xml_names.specs.Bindings.{all_bindings}
use Rattle.pyx_output.specs.FreeNumbers.{Tells}
use Rattle.pyx_output.proofs.free_numbers.FreeNumbers.look_again.Given as goal

abbrev pub invariant-loop-number : goal.invariant-loop-number
invariant-loop-number l = Tells l.self (drop l.number-index l.fn.numbers) (all_bindings l.fn.scopes.scopes)
