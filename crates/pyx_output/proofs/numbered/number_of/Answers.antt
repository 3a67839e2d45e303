use Rattle.std.proofs.Common.{arith}
use Rattle.std.proofs.lemmas.Grind.{common_steps}
use Rattle.pyx_output.proofs.Digits.{decimal_is}
use Rattle.pyx_output.proofs.numbered.number_of.Goals as goal

pub returns-in-110 : goal.returns-in-110
returns-in-110 c = λ k small is. let same = decimal_is k small in c.read_number.ensures k small (grind (arith, common_steps))
