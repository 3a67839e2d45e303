-- The last of the operators is the innermost.
use Rattle.std.proofs.Common.{◌≡◌, refl, sym, ap, ◌∙◌, List, [], ◌∷◌, ◌++◌}
use Rattle.xpath_syntax.specs.declared.expression.Expr.{Expr}
use Rattle.xpath_syntax.specs.declared.expression.Expr.TheVariants as e
use Rattle.xpath_chains.specs.declared.copies.Copied.{Copied}
use Rattle.xpath_chains.specs.Copies.{joined}

pub joined_last : (first : Expr) (above : List Copied) (x : Copied) → joined first (above ++ x ∷ []) ≡ joined (e.Binary x.op first x.right) above
joined_last first [] x = refl
joined_last first (y ∷ above) x = ap (λ left. e.Binary y.op left y.right) (joined_last first above x)

pub binary_joined : (x a b l : Expr) (y : Copied) (above more : List Copied) → more ≡ above ++ y ∷ [] → x ≡ e.Binary y.op a b → y.right ≡ b → l ≡ a
    → joined l more ≡ joined x above
binary_joined x a b l y above more pushed is same next =
    ap (joined l) pushed ∙ joined_last l above y ∙ ap (λ z. joined (e.Binary y.op z y.right) above) next
    ∙ ap (λ z. joined (e.Binary y.op a z) above) same ∙ ap (λ z. joined z above) (sym is)
