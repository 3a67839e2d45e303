use Rattle.std.proofs.Common.{◌≡◌}
use Rattle.word_cases.proofs.loads.follow.Given as goal

abbrev pub invariant-loop : goal.invariant-loop
invariant-loop g l = g.W.Words.count l.words ≡ g.W.Words.count l.initial.words
