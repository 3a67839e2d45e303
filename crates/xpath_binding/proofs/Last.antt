-- The last place of a list's front, one item longer.
use Rattle.std.proofs.Common.{◌≡◌, ap, ◌∙◌, ℕ, zero, suc, ◌+◌, ◌<◌, List, [], ◌∷◌, length, take, get_or, Bool, true, false, Some, None, arith}
use Rattle.xpath_binding.specs.Places.{or_here, last_from, last_place}

shorter : {A : Type 0} (f : A → Bool) (xs : List A) (x : A) (at k n : ℕ) → n ≡ suc k → k < length xs → f (get_or xs k x) ≡ false → last_from f at (take n xs) ≡ last_from f at (take k xs)
shorter f [] x at k n e within fails = absurd (omega (arith, within))
shorter f (y ∷ xs) x at zero (suc zero) e within fails = ap (λ b. or_here None b at) fails
shorter f (y ∷ xs) x at (suc k) (suc n) e within fails = ap (λ o. or_here o (f y) at) (shorter f xs x (at + 1) k n (omega (arith, e)) (omega (arith, within)) fails)
shorter f (y ∷ xs) x at zero zero e within fails = absurd (omega (arith, e))
shorter f (y ∷ xs) x at zero (suc (suc n)) e within fails = absurd (omega (arith, e))
shorter f (y ∷ xs) x at (suc k) zero e within fails = absurd (omega (arith, e))

ends : {A : Type 0} (f : A → Bool) (xs : List A) (x : A) (at k n : ℕ) → n ≡ suc k → k < length xs → f (get_or xs k x) ≡ true → last_from f at (take n xs) ≡ Some (at + k)
ends f [] x at k n e within holds = absurd (omega (arith, within))
ends f (y ∷ xs) x at zero (suc zero) e within holds = ap (λ b. or_here None b at) holds ∙ ap Some (omega arith)
ends f (y ∷ xs) x at (suc k) (suc n) e within holds =
    ap (λ o. or_here o (f y) at) (ends f xs x (at + 1) k n (omega (arith, e)) (omega (arith, within)) holds) ∙ ap Some (omega arith)
ends f (y ∷ xs) x at zero zero e within holds = absurd (omega (arith, e))
ends f (y ∷ xs) x at zero (suc (suc n)) e within holds = absurd (omega (arith, e))
ends f (y ∷ xs) x at (suc k) zero e within holds = absurd (omega (arith, e))

-- the last item of a front doesn't hold, or holds
pub last_fails : {A : Type 0} (f : A → Bool) (xs : List A) (x : A) (k n : ℕ) → n ≡ suc k → k < length xs → f (get_or xs k x) ≡ false
    → last_place f (take n xs) ≡ last_place f (take k xs)
last_fails f xs x k n e within fails = shorter f xs x 0 k n e within fails

pub last_holds : {A : Type 0} (f : A → Bool) (xs : List A) (x : A) (k n : ℕ) → n ≡ suc k → k < length xs → f (get_or xs k x) ≡ true
    → last_place f (take n xs) ≡ Some k
last_holds f xs x k n e within holds = ends f xs x 0 k n e within holds ∙ ap Some (omega arith)
