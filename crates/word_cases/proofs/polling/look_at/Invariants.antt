use Rattle.std.proofs.Common.{◌≡◌}
use Rattle.word_cases.proofs.polling.look_at.Given as goal

abbrev pub invariant-loop-row : goal.invariant-loop-row
invariant-loop-row l = l.pass.mark ≡ l.initial.pass.mark
