-- The last of the operators is the innermost.
use Rattle.std.proofs.Common.{◌≡◌, refl, sym, ap, ◌∙◌, List, [], ◌∷◌, ◌++◌}
use Rattle.xpath_syntax.specs.declared.expression.Expr.{Expr}
use Rattle.xpath_syntax.specs.declared.expression.Expr.TheVariants as e
use Rattle.sheet_names.specs.declared.placing.Operand.{Operand}
use Rattle.sheet_names.specs.Joining.{joined}
use Rattle.sheet_names.specs.Names.{Name}
use Rattle.sheet_names.specs.Placing.{placed}
use Rattle.sheet_names.proofs.Equations.{placed-Binary}

pub joined_last : (first : Expr) (above : List Operand) (x : Operand) → joined first (above ++ x ∷ []) ≡ joined (e.Binary x.op first x.right) above
joined_last first [] x = refl
joined_last first (y ∷ above) x = ap (λ left. e.Binary y.op left y.right) (joined_last first above x)

-- one operator more is passed over
pub one_more : (G L : List Name) (x a b l r : Expr) (y : Operand) (above more : List Operand) → more ≡ above ++ y ∷ [] → x ≡ e.Binary y.op a b → r ≡ b
    → y.right ≡ placed G L r → l ≡ a → joined (placed G L l) more ≡ joined (placed G L x) above
one_more G L x a b l r y above more pushed is same right next =
    ap (joined (placed G L l)) pushed ∙ joined_last (placed G L l) above y ∙ ap (λ z. joined (e.Binary y.op (placed G L z) y.right) above) next
    ∙ ap (λ z. joined (e.Binary y.op (placed G L a) z) above) (right ∙ ap (placed G L) same)
    ∙ ap (λ z. joined z above) (sym (ap (placed G L) is ∙ placed-Binary G L y.op a b))
