-- A remainder is what is left of a dividend, and there is one.
use Rattle.std.proofs.Common.{◌≡◌, refl, sym, ap, ◌∙◌, subst, ℕ, zero, suc, ◌*◌, ◌<◌, ◌%◌, Bool, true, false, Result, Ok, arith}
use Rattle.std.specs.Prelude.{if◌then◌else◌, unsigned_abs, int_div, int_rem, ℤ, pos, negsuc, ◌≤ℤ◌, ◌+ℤ◌, ◌-ℤ◌, ◌*ℤ◌}
use Rattle.std.proofs.Math.Nat.{zero-mod}
use Rattle.std.proofs.Math.IntN.{+ℤ_idr, zero-*ℤ, +ℤ-suc_ℤ, suc_ℤ-*ℤ, +ℤ-pred_ℤ, pred_ℤ-*ℤ}
use Rattle.std.proofs.lemmas.Int.{ints, quot-rem, rem_below, unsigned_abs-mul}
use Rattle.whole_num.specs.declared.number.NumFault.{NumFault}
use Rattle.whole_num.specs.declared.number.Num.{Num}
use Rattle.whole_num.specs.declared.number.Num.TheVariants.{NaN, Whole}
use Rattle.whole_num.specs.Number.{is_zero, remainder, IsRemainder}

divisor_counts : (b : ℤ) → is_zero b ≡ false → 0 < unsigned_abs b
divisor_counts (pos zero) e = cc
divisor_counts (pos (suc n)) e = omega arith
divisor_counts (negsuc n) e = omega arith

kept_above : (a b : ℤ) → pos 0 ≤ℤ a → pos 0 ≤ℤ int_rem a b
kept_above (pos n) b h = omega (arith, ints)
kept_above (negsuc n) b h = absurd (omega (arith, ints))

kept_below : (a b : ℤ) → a ≤ℤ pos 0 → int_rem a b ≤ℤ pos 0
kept_below (pos zero) b h = let none : 0 % unsigned_abs b ≡ 0 = zero-mod (unsigned_abs b) in omega (arith, ints)
kept_below (pos (suc n)) b h = absurd (omega (arith, ints))
kept_below (negsuc n) b h = omega (arith, ints)

left : (a b : ℤ) → is_zero b ≡ false → IsRemainder a b (int_rem a b)
left a b e = record {
  multiple = (int_div a b, quot-rem a b);
  smaller = rem_below a b (divisor_counts b e);
  not_below = kept_above a b;
  not_above = kept_below a b;
}

whole_in : (a b r : ℤ) (z : Bool) → is_zero b ≡ z → ◌≡◌ {A = Result Num NumFault} (if z then Ok NaN else Ok (Whole (int_rem a b))) (Ok (Whole r)) → IsRemainder a b r
whole_in a b r true e is = cc
whole_in a b r false e is = let same : int_rem a b ≡ r = cc in subst (IsRemainder a b) same (left a b e)

pub remainder_is : (a b r : ℤ) → remainder a b ≡ Ok (Whole r) → IsRemainder a b r
remainder_is a b r is = whole_in a b r (is_zero b) refl is

abs_diff : (z : ℤ) (m n k : ℕ) → z +ℤ pos m ≡ pos n → m < k → n < k → unsigned_abs z < k
abs_diff (pos x) m n k e a b = omega (arith, ints)
abs_diff (negsuc x) m n k e a b = omega (arith, ints)

abs_apart : (r s n : ℕ) → r < n → s < n → unsigned_abs (pos s -ℤ pos r) < n
abs_apart r s n a b = abs_diff (pos s -ℤ pos r) r s n (omega (arith, ints)) a b

-- two numbers of one sign below a bound are less than it apart
apart_above : (r s : ℤ) (n : ℕ) → pos 0 ≤ℤ r → pos 0 ≤ℤ s → unsigned_abs r < n → unsigned_abs s < n → unsigned_abs (s -ℤ r) < n
apart_above (pos r) (pos s) n h k a b = abs_apart r s n a b
apart_above (pos r) (negsuc s) n h k a b = absurd (omega (arith, ints))
apart_above (negsuc r) s n h k a b = absurd (omega (arith, ints))

apart_below : (r s : ℤ) (n : ℕ) → r ≤ℤ pos 0 → s ≤ℤ pos 0 → unsigned_abs r < n → unsigned_abs s < n → unsigned_abs (s -ℤ r) < n
apart_below (pos zero) (pos zero) n h k a b = abs_apart 0 0 n a b
apart_below (pos zero) (negsuc s) n h k a b = abs_diff (negsuc s -ℤ pos 0) (suc s) 0 n (omega (arith, ints)) b a
apart_below (negsuc r) (pos zero) n h k a b = abs_diff (pos 0 -ℤ negsuc r) 0 (suc r) n (omega (arith, ints)) b a
apart_below (negsuc r) (negsuc s) n h k a b = abs_diff (negsuc s -ℤ negsuc r) (suc s) (suc r) n (omega (arith, ints)) b a
apart_below (pos (suc r)) s n h k a b = absurd (omega (arith, ints))
apart_below r (pos (suc s)) n h k a b = absurd (omega (arith, ints))

no_multiple : (m n : ℕ) → m * n < n → m ≡ 0
no_multiple zero n h = refl
no_multiple (suc m) n h = absurd (omega (arith, h))

abs_zero : (z : ℤ) → unsigned_abs z ≡ 0 → z ≡ pos 0
abs_zero (pos n) e = ap pos e
abs_zero (negsuc n) e = absurd (omega arith)

plus_positive : (q : ℤ) (n : ℕ) (b : ℤ) → (q +ℤ pos n) *ℤ b ≡ q *ℤ b +ℤ pos n *ℤ b
plus_positive q zero b =
    let whole : (q +ℤ pos 0) *ℤ b ≡ q *ℤ b = ap (λ z. z *ℤ b) (+ℤ_idr q) in
    let none : pos 0 *ℤ b ≡ pos 0 = zero-*ℤ b in
    omega (arith, ints)
plus_positive q (suc n) b =
    let whole : (q +ℤ pos (suc n)) *ℤ b ≡ (q +ℤ pos n) *ℤ b +ℤ b = ap (λ z. z *ℤ b) (+ℤ-suc_ℤ q (pos n)) ∙ suc_ℤ-*ℤ (q +ℤ pos n) b in
    let more : pos (suc n) *ℤ b ≡ pos n *ℤ b +ℤ b = suc_ℤ-*ℤ (pos n) b in
    let before = plus_positive q n b in
    omega (arith, ints)

plus_negative : (q : ℤ) (n : ℕ) (b : ℤ) → (q +ℤ negsuc n) *ℤ b ≡ q *ℤ b +ℤ negsuc n *ℤ b
plus_negative q zero b =
    let whole : (q +ℤ negsuc 0) *ℤ b ≡ (q +ℤ pos 0) *ℤ b -ℤ b = ap (λ z. z *ℤ b) (+ℤ-pred_ℤ q (pos 0)) ∙ pred_ℤ-*ℤ (q +ℤ pos 0) b in
    let more : negsuc 0 *ℤ b ≡ pos 0 *ℤ b -ℤ b = pred_ℤ-*ℤ (pos 0) b in
    let before = plus_positive q zero b in
    omega (arith, ints)
plus_negative q (suc n) b =
    let whole : (q +ℤ negsuc (suc n)) *ℤ b ≡ (q +ℤ negsuc n) *ℤ b -ℤ b = ap (λ z. z *ℤ b) (+ℤ-pred_ℤ q (negsuc n)) ∙ pred_ℤ-*ℤ (q +ℤ negsuc n) b in
    let more : negsuc (suc n) *ℤ b ≡ negsuc n *ℤ b -ℤ b = pred_ℤ-*ℤ (negsuc n) b in
    let before = plus_negative q n b in
    omega (arith, ints)

plus_times : (q d b : ℤ) → (q +ℤ d) *ℤ b ≡ q *ℤ b +ℤ d *ℤ b
plus_times q (pos n) b = plus_positive q n b
plus_times q (negsuc n) b = plus_negative q n b

-- numbers that differ by a multiple of a greater one are equal
multiple_apart : (a b p q r s : ℤ) → p *ℤ b +ℤ r ≡ a → q *ℤ b +ℤ s ≡ a → unsigned_abs (s -ℤ r) < unsigned_abs b → r ≡ s
multiple_apart a b p q r s is also near =
    let back : q +ℤ (p -ℤ q) ≡ p = omega (arith, ints) in
    let parts : p *ℤ b ≡ q *ℤ b +ℤ (p -ℤ q) *ℤ b = sym (ap (λ z. z *ℤ b) back) ∙ plus_times q (p -ℤ q) b in
    let step : (p -ℤ q) *ℤ b ≡ s -ℤ r = omega (arith, ints) in
    let size : unsigned_abs (p -ℤ q) * unsigned_abs b < unsigned_abs b = subst (λ n. n < unsigned_abs b) (sym (ap unsigned_abs step) ∙ unsigned_abs-mul (p -ℤ q) b) near in
    let none : p -ℤ q ≡ pos 0 = abs_zero (p -ℤ q) (no_multiple (unsigned_abs (p -ℤ q)) (unsigned_abs b) size) in
    let flat : (p -ℤ q) *ℤ b ≡ pos 0 = ap (λ z. z *ℤ b) none ∙ zero-*ℤ b in
    let apart : s -ℤ r ≡ pos 0 = sym step ∙ flat in
    omega (arith, ints)

by_sign : (a b r s : ℤ) → IsRemainder a b r → IsRemainder a b s → unsigned_abs (s -ℤ r) < unsigned_abs b
by_sign (pos n) b r s R S = apart_above r s (unsigned_abs b) (R.not_below (omega (arith, ints))) (S.not_below (omega (arith, ints))) R.smaller S.smaller
by_sign (negsuc n) b r s R S = apart_below r s (unsigned_abs b) (R.not_above (omega (arith, ints))) (S.not_above (omega (arith, ints))) R.smaller S.smaller

pub one_remainder : (a b r s : ℤ) → IsRemainder a b r → IsRemainder a b s → r ≡ s
one_remainder a b r s R S = multiple_apart a b R.multiple.0 S.multiple.0 r s R.multiple.1 S.multiple.1 (by_sign a b r s R S)
