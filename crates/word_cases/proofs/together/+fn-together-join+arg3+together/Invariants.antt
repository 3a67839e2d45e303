use Rattle.std.proofs.Common.{◌+◌, ◌*◌, length}
use Rattle.word_cases.proofs.together.+fn-together-join+arg3+together.Given as goal

abbrev pub decreases-join+arg3 : goal.decreases-join+arg3
decreases-join+arg3 g l = 2 * length l.passes + 1

abbrev pub decreases-together : goal.decreases-together
decreases-together g l = 2 * length l.passes
