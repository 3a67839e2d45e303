-- The next item of a list, and those behind it.
use Rattle.std.proofs.Common.{◌≡◌, refl, ap, subst, ℕ, zero, suc, List, [], ◌∷◌, drop, slice_get, Option, Some, None}
use Rattle.xpath_laws.specs.Sound.{Each}

pub none_left : {A : Type 0} (xs : List A) (k : ℕ) → slice_get xs k ≡ None → drop k xs ≡ []
none_left [] zero e = refl
none_left [] (suc k) e = refl
none_left (x ∷ xs) zero e = absurd (let no : ◌≡◌ {A = Option _} (Some x) None = e in cc)
none_left (x ∷ xs) (suc k) e = none_left xs k e

pub one_next : {A : Type 0} (xs : List A) (k : ℕ) (x : A) → slice_get xs k ≡ Some x → drop k xs ≡ x ∷ drop (suc k) xs
one_next [] k x e = absurd (let no : ◌≡◌ {A = Option _} None (Some x) = e in cc)
one_next (y ∷ ys) zero x e = ap (λ a. a ∷ ys) (let same : Some y ≡ Some x = e in let is : y ≡ x = cc in is)
one_next (y ∷ ys) (suc k) x e = one_next ys k x e

pub each_get : {A : Type 0} (P : A → Type 0) (xs : List A) (k : ℕ) (x : A) → Each P xs → slice_get xs k ≡ Some x → P x
each_get P [] k x h e = absurd (let no : ◌≡◌ {A = Option _} None (Some x) = e in cc)
each_get P (y ∷ ys) zero x h e = subst P (let same : Some y ≡ Some x = e in let is : y ≡ x = cc in is) h.0
each_get P (y ∷ ys) (suc k) x h e = each_get P ys k x h.1 e
