use Rattle.std.proofs.Common.{◌≤◌}
use Rattle.xpath_syntax.proofs.expression.Expr.TheLaws.{the_size}
use Rattle.xpath_syntax.proofs.+expression.Given as goal

-- what is left is no larger than what was given
abbrev pub invariant-expression::Expr::drop-loop-self : goal.invariant-expression::Expr::drop-loop-self
invariant-expression::Expr::drop-loop-self l = the_size l.self ≤ the_size l.fn.self
