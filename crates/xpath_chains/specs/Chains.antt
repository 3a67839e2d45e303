-- Chains of operators that group to the left (XPath 1.0, 3.5).
use Rattle.std.specs.Prelude.{◌≡◌, List, [], ◌∷◌}
use Rattle.xpath_syntax.specs.declared.expression.Expr.{Expr}
use Rattle.xpath_syntax.specs.declared.expression.Expr.TheVariants as expr
use Rattle.xpath_syntax.specs.declared.expression.Op.{Op}
use Rattle.xpath_chains.specs.declared.chain.Applied.{Applied}

-- what the operators make of a first operand, one after the other
abbrev pub chained : Expr → List Applied → Expr
chained first [] = first
chained first (x ∷ above) = chained (expr.Binary x.op first x.right.now) above

-- no operation of two
abbrev pub IsOperand : Expr → Type 0
IsOperand e = (op : Op) (left right : Expr) → e ≡ expr.Binary op left right → ⊥
