-- The digits of a number, counted up, are those that are printed.
use Rattle.std.proofs.Common.{◌≡◌, ℕ, zero, suc, ◌+◌, ◌/◌, ◌%◌, ◌<◌, ◌≤◌, ◌^◌, ◌==◌, List, [], ◌∷◌, ◌++◌, Bool, true, false, if◌then◌else◌, reverse, refl, sym, ap, subst, arith, inl, inr}
use Rattle.std.specs.Fmt.{decimal}
use Rattle.std.proofs.lemmas.Fmt.{decimal_by_steps}
use Rattle.std.proofs.lemmas.Bool.{cases_lt, eqb-true}
use Rattle.std.proofs.lemmas.Bool.Decides.{nat_tests}
use Rattle.std.proofs.lemmas.List.{reverse-append}
use Rattle.pyx_output.specs.Numbered.{next_digits, digits_back}

small : (n : ℕ) → n < 10 → digits_back n ≡ (48 + n) ∷ []
small zero below = refl
small (suc n) below =
    let before = small n (omega arith) in
    let other : (48 + n == 57) ≡ false = grind (arith, nat_tests) in
    let more : 48 + n + 1 ≡ 48 + suc n = omega arith in
    rw (before, other, more) refl

large_by : (n : ℕ) (last : Bool) → (48 + n % 10 == 57) ≡ last
    → (if last then 48 ∷ next_digits (digits_back (n / 10)) else (48 + n % 10 + 1) ∷ digits_back (n / 10)) ≡ (48 + suc n % 10) ∷ digits_back (suc n / 10)
large_by n true is =
    let nine = eqb-true (48 + n % 10) 57 is in
    let none : 48 + suc n % 10 ≡ 48 = omega arith in
    let more : suc n / 10 ≡ suc (n / 10) = omega arith in
    rw (none, more) refl
large_by n false is =
    let other : n % 10 < 9 = grind (arith, nat_tests) in
    let digit : 48 + suc n % 10 ≡ 48 + n % 10 + 1 = omega arith in
    let same : suc n / 10 ≡ n / 10 = omega arith in
    rw (digit, same) refl

large : (n : ℕ) → 10 ≤ n → digits_back n ≡ (48 + n % 10) ∷ digits_back (n / 10)
large zero above = absurd (omega arith)
large (suc n) above = elim (cases_lt n 10) [
  | inl below ↦ let nine : 9 ≡ n = omega arith in subst (λ (k : ℕ). digits_back (suc k) ≡ (48 + suc k % 10) ∷ digits_back (suc k / 10)) nine refl
  | inr over ↦ let before = large n over in rw before (large_by n (48 + n % 10 == 57) refl)
]

more : (n : ℕ) (digits : List ℕ) → 10 ≤ n → digits ≡ reverse (digits_back (n / 10)) → digits ++ ((48 + n % 10) ∷ []) ≡ reverse (digits_back n)
more n digits above is =
    let front = large n above in
    rw (is, front) (sym (reverse-append ((48 + n % 10) ∷ []) (digits_back (n / 10))))

pub decimal_is : (n : ℕ) → n < 2 ^ 64 → decimal n ≡ reverse (digits_back n)
decimal_is n small_enough = decimal_by_steps (λ (k : ℕ) (digits : List ℕ). digits ≡ reverse (digits_back k))
    (λ k below. ap (λ (digits : List ℕ). reverse digits) (sym (small k below))) more n small_enough
