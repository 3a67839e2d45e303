-- Numbers of digits.
use Rattle.std.proofs.Common.{◌≡◌, refl, sym, ap, ◌∙◌, arith, ℕ, suc, ◌+◌, ◌*◌, ◌-◌, ◌<◌, ◌≤◌, List, [], ◌∷◌, ◌++◌, length, drop, drop-cons, get_or, Bool, true, false, cond, Option, Some, None}
use Rattle.std.specs.Prelude.{nat_le}
use Rattle.std.proofs.lemmas.Bool.Decides.{nat_tests}
use Rattle.sheet_values.specs.Priorities.{hundredths, is_magnitude, number_behind, padded, within}

-- digits behind digits
pub one_after_another : (n : ℕ) (xs ys : List ℕ) → number_behind n (xs ++ ys) ≡ number_behind (number_behind n xs) ys
one_after_another n [] ys = refl
one_after_another n (x ∷ xs) ys = one_after_another (10 * n + (x - 48)) xs ys

-- more digits make a number no less
pub grows : (n : ℕ) (xs : List ℕ) → n ≤ number_behind n xs
grows n [] = omega arith
grows n (x ∷ xs) = omega (arith, grows (10 * n + (x - 48)) xs)

pub too_great : (n : ℕ) → 100000000 < n → within n ≡ None
too_great n h = grind (arith, nat_tests)

pub small_enough : (n : ℕ) → n ≤ 100000000 → within n ≡ Some n
small_enough n h = grind (arith, nat_tests)

pub is_itself : (n m : ℕ) → within n ≡ Some m → m ≡ n
is_itself n m is = by (nat_le n 100000000) is
  where
    by : (b : Bool) → cond b (Some n) None ≡ Some m → m ≡ n
    by true is = cc
    by false is = absurd (cc)

pub was_too_great : (n : ℕ) → within n ≡ None → 100000000 < n
was_too_great n is = grind (arith, nat_tests)

-- a front that is too great makes all too great
pub front_too_great : (n : ℕ) (xs ys : List ℕ) → within (number_behind n xs) ≡ None → within (number_behind n (xs ++ ys)) ≡ None
front_too_great n xs ys is =
    ap within (one_after_another n xs ys)
    ∙ too_great (number_behind (number_behind n xs) ys) (omega (arith, was_too_great (number_behind n xs) is, grows (number_behind n xs) ys))

-- a front goes on with what is behind it
pub front_goes_on : (n m : ℕ) (xs ys : List ℕ) → within (number_behind n xs) ≡ Some m → number_behind m ys ≡ number_behind n (xs ++ ys)
front_goes_on n m xs ys is = ap (λ k. number_behind k ys) (is_itself (number_behind n xs) m is) ∙ sym (one_after_another n xs ys)

-- one more digit makes all too great
pub one_too_many : (n first i : ℕ) (xs : List ℕ) → i < length xs → number_behind n (drop i xs) ≡ number_behind first xs → 100000000 < 10 * n + (get_or xs i 0 - 48)
    → None ≡ within (number_behind first xs)
one_too_many n first i xs within_xs same over =
    let next : number_behind n (drop i xs) ≡ number_behind (10 * n + (get_or xs i 0 - 48)) (drop (suc i) xs) = ap (number_behind n) (drop-cons xs i 0 within_xs) in
    sym (too_great (number_behind first xs) (omega (arith, grows (10 * n + (get_or xs i 0 - 48)) (drop (suc i) xs), next, same)))

neither : (b : Bool) (x : Option ℕ) → x ≡ None → None ≡ cond b x None
neither true x is = sym is
neither false x is = refl

-- what stands before a point is too great
pub whole_too_great : (whole fraction : List ℕ) → within (number_behind 0 whole) ≡ None → None ≡ hundredths whole fraction
whole_too_great whole fraction is = neither (is_magnitude whole fraction) _ (front_too_great 0 whole (padded fraction) is)

-- what stands behind a point goes on with what stands before it
pub whole_goes_on : (whole fraction : List ℕ) (m : ℕ) → is_magnitude whole fraction ≡ true → within (number_behind 0 whole) ≡ Some m
    → within (number_behind m (padded fraction)) ≡ hundredths whole fraction
whole_goes_on whole fraction m spelled is = rw spelled (ap within (front_goes_on 0 m whole (padded fraction) is))
