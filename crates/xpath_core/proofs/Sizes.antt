-- Parts are smaller than the whole.
use Rattle.std.proofs.Common.{rules, ◌≡◌, sym, ap, ◌∙◌, ◌<◌, ◌≤◌, ℕ, zero, suc, List, [], ◌∷◌, length, get_or, Option, arith}
use Rattle.xpath_chains.specs.Chains.{chained}
use Rattle.xpath_chains.specs.declared.chain.Applied.{Applied}
use Rattle.xpath_syntax.proofs.expression.Expr.TheLaws.{the_size}
use Rattle.xpath_syntax.specs.declared.expression.Expr.{Expr, the_lemmas}
use Rattle.xpath_syntax.specs.declared.expression.Expr.TheVariants as expr
use Rattle.xpath_syntax.specs.declared.expression.Op.{Op}
use Rattle.xpath_syntax.specs.declared.expression.Path.{Path}

left_within : (op : Op) (a b : Expr) → the_size a < the_size (expr.Binary op a b)
left_within op a b = search (rules, the_lemmas)

right_within : (op : Op) (a b : Expr) → the_size b < the_size (expr.Binary op a b)
right_within op a b = search (rules, the_lemmas)

first_within : (first : Expr) (above : List Applied) → the_size first ≤ the_size (chained first above)
first_within first [] = omega arith
first_within first (x ∷ above) = omega (arith, left_within x.op first x.right.now, first_within (expr.Binary x.op first x.right.now) above)

next_within : (first : Expr) (above : List Applied) (i : ℕ) (x : Applied) → i < length above → x ≡ get_or above i x → the_size x.right.now < the_size (chained first above)
next_within first [] i x within at = absurd (omega (arith, within))
next_within first (y ∷ above) zero x within at =
    let same : the_size x.right.now ≡ the_size y.right.now = ap (λ (z : Applied). the_size z.right.now) at in
    omega (arith, same, right_within y.op first y.right.now, first_within (expr.Binary y.op first y.right.now) above)
next_within first (y ∷ above) (suc i) x within at = next_within (expr.Binary y.op first y.right.now) above i x (omega (arith, within)) at

inner_within : (a : Expr) → the_size a < the_size (expr.Minus a)
inner_within a = search (rules, the_lemmas)

primary_within : (a : Expr) (ps : List Expr) (tail : Option Path) → the_size a < the_size (expr.Filter a ps tail)
primary_within a ps tail = search (rules, the_lemmas)

pub binary_size : (e l r a b : Expr) (op : Op) → e ≡ expr.Binary op l r → a ≡ l → b ≡ r → the_size (expr.Binary op a b) ≡ the_size e
binary_size e l r a b op is left right = ap (λ x. the_size (expr.Binary op x b)) left ∙ ap (λ x. the_size (expr.Binary op l x)) right ∙ ap the_size (sym is)

pub minus_size : (e i a : Expr) → e ≡ expr.Minus i → a ≡ i → the_size a < the_size e
minus_size e i a is same = let p = inner_within i in let q = ap the_size is in let s = ap the_size same in omega (arith, p, q, s)

pub innermost_left : (op o : Op) (l r a b : Expr) (above : List Applied) → chained (expr.Binary op l r) above ≡ expr.Binary o a b → the_size l < the_size (expr.Binary o a b)
innermost_left op o l r a b above e = let p = left_within op l r in let q = first_within (expr.Binary op l r) above in let s = ap the_size e in omega (arith, p, q, s)

pub innermost_right : (op o : Op) (l r a b : Expr) (above : List Applied) → chained (expr.Binary op l r) above ≡ expr.Binary o a b → the_size r < the_size (expr.Binary o a b)
innermost_right op o l r a b above e = let p = right_within op l r in let q = first_within (expr.Binary op l r) above in let s = ap the_size e in omega (arith, p, q, s)

pub later_right : (op o : Op) (l r a b : Expr) (above items : List Applied) (i : ℕ) (x : Applied) → chained (expr.Binary op l r) above ≡ expr.Binary o a b → items ≡ above
    → i < length items → x ≡ get_or items i x
    → the_size x.right.now < the_size (expr.Binary o a b)
later_right op o l r a b above items i x e same h is =
    let p = next_within (expr.Binary op l r) items i x h is in let q = ap (λ xs. the_size (chained (expr.Binary op l r) xs)) same in let s = ap the_size e in omega (arith, p, q, s)

pub primary_size : (a : Expr) (ps : List Expr) (tail : Option Path) → the_size a < the_size (expr.Filter a ps tail)
primary_size a ps tail = primary_within a ps tail

pub whole_filter_size : (e p a : Expr) (ps items : List Expr) (tail : Option Path) → e ≡ expr.Filter p ps tail → a ≡ p → items ≡ ps → the_size (expr.Filter a items tail) ≡ the_size e
whole_filter_size e p a ps items tail is same all = ap (λ x. the_size (expr.Filter x items tail)) same ∙ ap (λ xs. the_size (expr.Filter p xs tail)) all ∙ ap the_size (sym is)
