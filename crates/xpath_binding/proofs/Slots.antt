-- The last place in two lists, one behind the other.
use Rattle.std.proofs.Common.{◌≡◌, refl, ap, ◌∙◌, ℕ, ◌+◌, List, [], ◌∷◌, ◌++◌, length, Bool, true, false, Option, Some, None, arith}
use Rattle.xpath_binding.specs.Places.{or_here, last_from, last_place}

here_stays : (k at : ℕ) (b : Bool) → or_here (Some k) b at ≡ Some k
here_stays k at b = refl

pub behind : {A : Type 0} (f : A → Bool) (xs ys : List A) (at n k : ℕ) → n ≡ at + length xs → last_from f n ys ≡ Some k → last_from f at (xs ++ ys) ≡ Some k
behind f [] ys at n k e is = ap (λ m. last_from f m ys) (let h : at ≡ n = omega (arith, e) in h) ∙ is
behind f (x ∷ xs) ys at n k e is = ap (λ o. or_here o (f x) at) (behind f xs ys (at + 1) n k (omega (arith, e)) is)

pub before : {A : Type 0} (f : A → Bool) (xs ys : List A) (at n : ℕ) → n ≡ at + length xs → last_from f n ys ≡ None → last_from f at (xs ++ ys) ≡ last_from f at xs
before f [] ys at n e is = ap (λ m. last_from f m ys) (let h : at ≡ n = omega (arith, e) in h) ∙ is
before f (x ∷ xs) ys at n e is = ap (λ o. or_here o (f x) at) (before f xs ys (at + 1) n (omega (arith, e)) is)

abbrev moved : ℕ → Option ℕ → Option ℕ
moved n None = None
moved n (Some k) = Some (n + k)

or_moved : (n at : ℕ) (o : Option ℕ) (b : Bool) → or_here (moved n o) b (n + at) ≡ moved n (or_here o b at)
or_moved n at None true = refl
or_moved n at None false = refl
or_moved n at (Some k) b = refl

shifted : {A : Type 0} (f : A → Bool) (xs : List A) (n at m : ℕ) → m ≡ n + at → last_from f m xs ≡ moved n (last_from f at xs)
shifted f [] n at m e = refl
shifted f (x ∷ xs) n at m e =
    ap (λ o. or_here o (f x) m) (shifted f xs n (at + 1) (m + 1) (omega (arith, e)))
    ∙ (ap (or_here (moved n (last_from f (at + 1) xs)) (f x)) e ∙ or_moved n at (last_from f (at + 1) xs) (f x))

pub last_of_both : {A : Type 0} (f : A → Bool) (xs ys : List A) (k : ℕ) → last_place f ys ≡ Some k → last_place f (xs ++ ys) ≡ Some (length xs + k)
last_of_both f xs ys k is =
    behind f xs ys 0 (length xs) (length xs + k) (omega arith) (shifted f ys (length xs) 0 (length xs) (omega arith) ∙ ap (moved (length xs)) is)

pub last_of_first : {A : Type 0} (f : A → Bool) (xs ys : List A) → last_place f ys ≡ None → last_place f (xs ++ ys) ≡ last_place f xs
last_of_first f xs ys is =
    before f xs ys 0 (length xs) (omega arith) (shifted f ys (length xs) 0 (length xs) (omega arith) ∙ ap (moved (length xs)) is)
