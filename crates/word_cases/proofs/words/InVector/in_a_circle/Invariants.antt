use Rattle.std.proofs.Common.{◌≡◌, vec_len}
use Rattle.word_cases.proofs.words.InVector.in_a_circle.Given as goal

abbrev pub invariant-loop-at : goal.invariant-loop-at
invariant-loop-at l = vec_len l.words ≡ l.at
