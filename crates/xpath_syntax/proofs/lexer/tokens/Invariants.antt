use Rattle.std.proofs.Common.{length, ◌-◌}
use Rattle.xpath_syntax.proofs.Steps.{Rest}
use Rattle.xpath_syntax.proofs.lexer.tokens.Given as goal

abbrev pub invariant-loop-at : goal.invariant-loop-at
invariant-loop-at l = Rest l.text l.tokens l.at l.operand

abbrev pub decreases-loop-at : goal.decreases-loop-at
decreases-loop-at l = length l.text - l.at
