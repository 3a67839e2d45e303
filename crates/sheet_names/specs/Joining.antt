-- Operators whose operands have their slots.
use Rattle.std.specs.Prelude.{List, [], ◌∷◌}
use Rattle.xpath_syntax.specs.declared.expression.Expr.{Expr}
use Rattle.xpath_syntax.specs.declared.expression.Expr.TheVariants as expr
use Rattle.sheet_names.specs.declared.placing.Operand.{Operand}

-- what the operators make of a first operand, the last one first
abbrev pub joined : Expr → List Operand → Expr
joined first [] = first
joined first (x ∷ above) = expr.Binary x.op (joined first above) x.right
