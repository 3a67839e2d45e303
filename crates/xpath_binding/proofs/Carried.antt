-- A chain of operators, bound operand by operand.
use Rattle.std.proofs.Common.{◌≡◌, refl, sym, ap, ◌∙◌, ℕ, zero, suc, ◌+◌, ◌<◌, ◌≤◌, List, [], ◌∷◌, drop, get_or, length, Result, Ok, Err, arith, add-one, rules}
use Rattle.xpath_syntax.proofs.expression.Expr.TheLaws.{the_size}
use Rattle.xpath_syntax.specs.declared.expression.Expr.{Expr, the_lemmas}
use Rattle.xpath_syntax.specs.declared.expression.Expr.TheVariants as e
use Rattle.xpath_syntax.specs.declared.expression.Op.{Op}
use Rattle.xpath_chains.specs.declared.chain.Applied.{Applied}
use Rattle.xpath_chains.specs.Chains.{chained}
use Rattle.xpath_binding.specs.declared.error.BindError.{BindError}
use Rattle.xpath_binding.specs.Names.{◌>>=◌, Answers}
use Rattle.xpath_binding.specs.Scope.{Scope}
use Rattle.xpath_binding.specs.Binding.{bound}
use Rattle.xpath_binding.proofs.Answered.{stops, also}
use Rattle.xpath_binding.proofs.Bounds.{bound-Binary}

-- what the operators give behind what is bound already
abbrev pub carried : Scope → Result Expr BindError → List Applied → Result Expr BindError
carried S m [] = m
carried S m (x ∷ xs) = carried S (m >>= λ a. bound S x.right.now >>= λ b. Ok (e.Binary x.op a b)) xs

pub chain_bound : (S : Scope) (first : Expr) (above : List Applied) → carried S (bound S first) above ≡ bound S (chained first above)
chain_bound S first [] = refl
chain_bound S first (x ∷ above) =
    ap (λ m. carried S m above) (sym (bound-Binary S x.op first x.right.now)) ∙ chain_bound S (e.Binary x.op first x.right.now) above

abbrev then_operand : Scope → Applied → Expr → Result Expr BindError
then_operand S x a = bound S x.right.now >>= λ b. Ok (e.Binary x.op a b)

pub carried_stops : (S : Scope) (xs : List Applied) (m : Result Expr BindError) (err : BindError) → Answers m (Err err) → Answers (carried S m xs) (Err err)
carried_stops S [] m err h = h
carried_stops S (x ∷ xs) m err h = carried_stops S xs (m >>= then_operand S x) err (stops m (then_operand S x) err h)

drop_none : {A : Type 0} (xs : List A) → drop 0 xs ≡ xs
drop_none [] = refl
drop_none (x ∷ xs) = refl

pub starts : (S : Scope) (whole first left : Expr) (above items : List Applied) → items ≡ above → bound S first ≡ Ok left → chained first above ≡ whole
    → carried S (Ok left) (drop 0 items) ≡ bound S whole
starts S whole first left above items same h is =
    ap (carried S (Ok left)) (drop_none items ∙ same) ∙ (ap (λ m. carried S m above) (sym h) ∙ (chain_bound S first above ∙ ap (bound S) is))

next : {A : Type 0} (xs : List A) (i : ℕ) (x : A) → i < length xs → x ≡ get_or xs i x → drop i xs ≡ x ∷ drop (suc i) xs
next [] i x within at = absurd (omega (arith, within))
next (a ∷ xs) zero x within at = ap (λ z. z ∷ xs) (sym at)
next (a ∷ xs) (suc i) x within at = next xs i x (omega (arith, within)) at

-- the first operand is refused, or the next
pub first_refused : (S : Scope) (whole first : Expr) (above : List Applied) (err : BindError) → chained first above ≡ whole
    → Answers (bound S first) (Err err) → Answers (bound S whole) (Err err)
first_refused S whole first above err is h =
    also (bound S whole) (carried S (bound S first) above) (Err err) (sym (chain_bound S first above ∙ ap (bound S) is))
    (carried_stops S above (bound S first) err h)

pub next_refused : (S : Scope) (whole left : Expr) (above : List Applied) (i : ℕ) (x : Applied) (err : BindError) → i < length above → x ≡ get_or above i x
    → carried S (Ok left) (drop i above) ≡ bound S whole → Answers (bound S x.right.now) (Err err) → Answers (bound S whole) (Err err)
next_refused S whole left above i x err within at so_far h =
    also (bound S whole) (carried S (then_operand S x left) (drop (suc i) above)) (Err err) (sym so_far ∙ ap (carried S (Ok left)) (next above i x within at))
    (carried_stops S (drop (suc i) above) (then_operand S x left) err (stops (bound S x.right.now) (λ b. Ok (e.Binary x.op left b)) err h))

pub next_bound : (S : Scope) (whole left right : Expr) (above : List Applied) (i : ℕ) (x : Applied) → i < length above → x ≡ get_or above i x
    → carried S (Ok left) (drop i above) ≡ bound S whole → bound S x.right.now ≡ Ok right
    → carried S (Ok (e.Binary x.op left right)) (drop (i + 1) above) ≡ bound S whole
next_bound S whole left right above i x within at so_far h = rw add-one
    (ap (λ (m : Result Expr BindError). carried S (m >>= λ b. Ok (e.Binary x.op left b)) (drop (suc i) above)) (sym h)
    ∙ (sym (ap (carried S (Ok left)) (next above i x within at)) ∙ so_far))

pub all_bound : (S : Scope) (whole left : Expr) (above : List Applied) (i : ℕ) → length above ≤ i → carried S (Ok left) (drop i above) ≡ bound S whole → bound S whole ≡ Ok left
all_bound S whole left [] zero past so_far = sym so_far
all_bound S whole left [] (suc i) past so_far = sym so_far
all_bound S whole left (x ∷ above) zero past so_far = absurd (omega (arith, past))
all_bound S whole left (x ∷ above) (suc i) past so_far = all_bound S whole left above i (omega (arith, past)) so_far

left_within : (op : Op) (a b : Expr) → the_size a < the_size (e.Binary op a b)
left_within op a b = search (rules, the_lemmas)

right_within : (op : Op) (a b : Expr) → the_size b < the_size (e.Binary op a b)
right_within op a b = search (rules, the_lemmas)

pub first_within : (first : Expr) (above : List Applied) → the_size first ≤ the_size (chained first above)
first_within first [] = omega arith
first_within first (x ∷ above) = omega (arith, left_within x.op first x.right.now, first_within (e.Binary x.op first x.right.now) above)

pub next_within : (first : Expr) (above : List Applied) (i : ℕ) (x : Applied) → i < length above → x ≡ get_or above i x
    → the_size x.right.now < the_size (chained first above)
next_within first [] i x within at = absurd (omega (arith, within))
next_within first (y ∷ above) zero x within at =
    let same : the_size x.right.now ≡ the_size y.right.now = ap (λ (z : Applied). the_size z.right.now) at in
    omega (arith, same, right_within y.op first y.right.now, first_within (e.Binary y.op first y.right.now) above)
next_within first (y ∷ above) (suc i) x within at = next_within (e.Binary y.op first y.right.now) above i x (omega (arith, within)) at
