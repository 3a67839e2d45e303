-- Operators whose operands are copied.
use Rattle.std.specs.Prelude.{List, [], ◌∷◌}
use Rattle.xpath_syntax.specs.declared.expression.Expr.{Expr}
use Rattle.xpath_syntax.specs.declared.expression.Expr.TheVariants as expr
use Rattle.xpath_chains.specs.declared.copies.Copied.{Copied}

-- what the operators make of a first operand, the last one first
abbrev pub joined : Expr → List Copied → Expr
joined first [] = first
joined first (x ∷ above) = expr.Binary x.op (joined first above) x.right
