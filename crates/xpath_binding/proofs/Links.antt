-- Links that are turned round on the way down a chain.
use Rattle.std.proofs.Common.{◌≡◌, refl, sym, ap, ◌∙◌, subst, ℤ, Bool}
use Rattle.xpath_syntax.specs.declared.expression.Op.{Op}
use Rattle.xpath_syntax.specs.declared.expression.Expr.{Expr, out-Expr}
use Rattle.xpath_syntax.specs.declared.expression.Expr.TheOpen.{Expr-F}
use Rattle.xpath_syntax.specs.declared.expression.Expr.TheVariants as e
use Rattle.xpath_syntax.specs.declared.expression.Expr.TheVariants.{outs-Binary, outs-Number}
use Rattle.xpath_syntax.specs.declared.expression.Path.{Path}
use Rattle.xpath_syntax.specs.declared.expression.StepExpr.{StepExpr}
use Rattle.xpath_binding.specs.Marks.{marked}
use Rattle.xpath_binding.proofs.Equations.{marked-Binary}

abbrev pub IsOperand : Expr → Type 0
IsOperand x = (op : Op) (a b : Expr) → x ≡ e.Binary op a b → ⊥

-- put in again as left operands, one after the other, what is above makes the whole of what is below
pub data Closes : Expr → Expr → Expr → Type 0 where
  done : (above at : Expr) → IsOperand above → Closes above at at
  up : (x above at right whole : Expr) (op : Op) → x ≡ e.Binary op above right → Closes above (e.Binary op at right) whole → Closes x at whole

number_is_operand : (z : ℤ) → IsOperand (e.Number z)
number_is_operand z op a b is = let same : ◌≡◌ {A = Expr-F Expr Path StepExpr} (Expr-F.Number z) (Expr-F.Binary op a b) = sym (outs-Number z) ∙ (ap out-Expr is ∙ outs-Binary op a b) in cc

pub closes_nothing : (z : ℤ) (at : Expr) → Closes (e.Number z) at at
closes_nothing z at = done (e.Number z) at (number_is_operand z)

same_parts : (above at right whole other behind : Expr) (op o : Op) → ◌≡◌ {A = Expr-F Expr Path StepExpr} (Expr-F.Binary op above right) (Expr-F.Binary o other behind)
    → Closes above (e.Binary op at right) whole → Closes other (e.Binary o at behind) whole
same_parts above at right whole other behind op o same c =
    let first : op ≡ o = cc in let second : above ≡ other = cc in let third : right ≡ behind = cc in
    subst (λ p. Closes other (e.Binary p at behind) whole) first (subst (λ r. Closes other (e.Binary op at r) whole) third (subst (λ x. Closes x (e.Binary op at right) whole) second c))

-- on the way back
pub opened : (x at whole other behind : Expr) (o : Op) → Closes x at whole → x ≡ e.Binary o other behind → Closes other (e.Binary o at behind) whole
opened x at whole other behind o (done above below not) is = absurd (not o other behind is)
opened x at whole other behind o (up y above below right all op shape c) is =
    same_parts above at right whole other behind op o (sym (outs-Binary op above right) ∙ (ap out-Expr (sym shape ∙ is) ∙ outs-Binary o other behind)) c

pub closed : (x at whole : Expr) → Closes x at whole → IsOperand x → whole ≡ at
closed x at whole (done above below not) n = refl
closed x at whole (up y above below right all op shape c) n = absurd (n op above right shape)

-- on the way down, where the right operand is marked
pub down : (b : Bool) (at above whole l r next dest right : Expr) (op o : Op) → at ≡ e.Binary op l r → Closes above (marked b at) whole → o ≡ op → dest ≡ above
    → right ≡ marked b r → next ≡ l → Closes (e.Binary o dest right) (marked b next) whole
down b at above whole l r next dest right op o is c same_op same_dest same_right same_next =
    let shape : marked b at ≡ e.Binary o (marked b next) right = ap (marked b) is ∙ (marked-Binary b op l r ∙ (ap (λ p. e.Binary p (marked b l) (marked b r)) (sym same_op)
    ∙ (ap (λ x. e.Binary o (marked b x) (marked b r)) (sym same_next) ∙ ap (e.Binary o (marked b next)) (sym same_right)))) in
    up (e.Binary o dest right) dest (marked b next) right whole o refl (subst (λ x. Closes x (e.Binary o (marked b next) right) whole) (sym same_dest)
    (subst (λ x. Closes above x whole) shape c))
