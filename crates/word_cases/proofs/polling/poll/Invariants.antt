use Rattle.std.proofs.Common.{◌≡◌}
use Rattle.word_cases.proofs.polling.poll.Given as goal

abbrev pub invariant-loop : goal.invariant-loop
invariant-loop l = l.pass.mark ≡ l.initial.pass.mark
