use Rattle.std.proofs.Common.{◌≡◌}
use Rattle.word_cases.proofs.loads.sum.Given as goal

abbrev pub invariant-loop-step : goal.invariant-loop-step
invariant-loop-step g l = g.W.Words.count l.words ≡ g.W.Words.count l.initial.words
