-- A list whose items are changed one after the other.
use Rattle.std.proofs.Common.{◌≡◌, refl, sym, ap, ◌∙◌, ℕ, zero, suc, ◌+◌, List, [], ◌∷◌, ◌++◌, map, take, drop, Some, add-one}
use Rattle.std.specs.Prelude.{slice_get, slice_set}

set_at : {A : Type 0} (f : A → A) (xs : List A) (i : ℕ) (x y : A) → slice_get (map f (take i xs) ++ drop i xs) i ≡ Some x → y ≡ f x
    → slice_set (map f (take i xs) ++ drop i xs) i y ≡ map f (take (suc i) xs) ++ drop (suc i) xs
set_at f [] zero x y g e = refl
set_at f [] (suc i) x y g e = refl
set_at f (a ∷ xs) zero x y g e = let same : a ≡ x = cc in ap (λ z. z ∷ xs) (e ∙ ap f (sym same))
set_at f (a ∷ xs) (suc i) x y g e = ap (λ l. f a ∷ l) (set_at f xs i x y g e)

pub set_turn : {A : Type 0} (f : A → A) (xs ys : List A) (i : ℕ) (x y : A) → ys ≡ map f (take i xs) ++ drop i xs → slice_get ys i ≡ Some x → y ≡ f x
    → slice_set ys i y ≡ map f (take (i + 1) xs) ++ drop (i + 1) xs
set_turn f xs ys i x y is g e = rw add-one (ap (λ l. slice_set l i y) is ∙ set_at f xs i x y (sym (ap (λ l. slice_get l i) is) ∙ g) e)
