use Rattle.std.proofs.Common.{◌≡◌}
use Rattle.std.specs.Prelude.{reverse}
use Rattle.xpath_chains.specs.Chains.{chained}
use Rattle.xpath_syntax.specs.declared.expression.Expr.TheVariants as expr
use Rattle.xpath_core.proofs.operations.operations_of.Given as goal

-- the operators passed over make the whole of the operation that is left
abbrev pub invariant-loop-first : goal.invariant-loop-first
invariant-loop-first l = chained (expr.Binary l.innermost l.first l.second) (reverse l.above.items) ≡ expr.Binary l.fn.op l.fn.left l.fn.right
