-- A whole quotient times the divisor is the dividend, and a fraction is no whole quotient.
use Rattle.std.proofs.Common.{◌≡◌, refl, sym, ap, ◌∙◌, subst, ℕ, zero, suc, ◌*◌, ◌%◌, Bool, true, false, Ok, Err, arith}
use Rattle.std.specs.Prelude.{if◌then◌else◌, nat_le, unsigned_abs, int_div, int_rem, ℤ, pos, negsuc, neg_ℤ, ◌+ℤ◌, ◌*ℤ◌}
use Rattle.std.proofs.lemmas.Bool.{eqb-true, eq-eqb}
use Rattle.std.proofs.lemmas.Int.{ints, quot-rem, unsigned_abs-mul}
use Rattle.std.proofs.Math.Nat.{mul-mod_left}
use Rattle.whole_num.specs.declared.number.Num.TheVariants.{NaN, Whole}
use Rattle.whole_num.specs.declared.number.NumFault.TheVariants.{NumberRange, Fraction}
use Rattle.whole_num.specs.Number.{greatest, is_zero, quotient}

abs_zero : (z : ℤ) → is_zero z ≡ true → z ≡ pos 0
abs_zero (pos n) e = ap pos (eqb-true n 0 e)
abs_zero (negsuc n) e = let h : suc n ≡ 0 = eqb-true (suc n) 0 e in absurd (omega arith)

abs_neg : (n : ℕ) → unsigned_abs (neg_ℤ (pos n)) ≡ n
abs_neg zero = refl
abs_neg (suc n) = refl

abs_rem : (a b : ℤ) → unsigned_abs (int_rem a b) ≡ unsigned_abs a % unsigned_abs b
abs_rem (pos n) b = refl
abs_rem (negsuc n) b = abs_neg (suc n % unsigned_abs b)

whole_in : (a b z : ℤ) (d e r q : Bool) → is_zero (int_rem a b) ≡ r
    → (if d then (if e then Ok NaN else Err NumberRange) else if r then (if q then Ok (Whole (int_div a b)) else Err NumberRange) else Err Fraction) ≡ Ok
    (Whole z) → z *ℤ b ≡ a
whole_in a b z true true r q zero_rem is = cc
whole_in a b z true false r q zero_rem is = cc
whole_in a b z false e false q zero_rem is = cc
whole_in a b z false e true false zero_rem is = cc
whole_in a b z false e true true zero_rem is =
    let same : int_div a b ≡ z = cc in
    let none : int_rem a b ≡ pos 0 = abs_zero (int_rem a b) zero_rem in
    let sum : z *ℤ b +ℤ pos 0 ≡ a = subst (λ q. q *ℤ b +ℤ pos 0 ≡ a) same (subst (λ r. int_div a b *ℤ b +ℤ r ≡ a) none (quot-rem a b)) in
    omega (arith, ints)

pub whole_is : (a b z : ℤ) → quotient a b ≡ Ok (Whole z) → z *ℤ b ≡ a
whole_is a b z is = whole_in a b z (is_zero b) (is_zero a) (is_zero (int_rem a b)) (nat_le (unsigned_abs (int_div a b)) greatest) refl is

fraction_in : (a b z : ℤ) (d e r q : Bool) → is_zero (int_rem a b) ≡ r
    → (if d then (if e then Ok NaN else Err NumberRange) else if r then (if q then Ok (Whole (int_div a b)) else Err NumberRange) else Err Fraction) ≡ Err
    Fraction → z *ℤ b ≡ a → ⊥
fraction_in a b z true true r q zero_rem is product = cc
fraction_in a b z true false r q zero_rem is product = cc
fraction_in a b z false e true false zero_rem is product = cc
fraction_in a b z false e true true zero_rem is product = cc
fraction_in a b z false e false q zero_rem is product =
    let size : unsigned_abs a ≡ unsigned_abs z * unsigned_abs b = sym (ap unsigned_abs product) ∙ unsigned_abs-mul z b in
    let none : unsigned_abs (int_rem a b) ≡ 0 = abs_rem a b ∙ (ap (λ n. n % unsigned_abs b) size ∙ mul-mod_left (unsigned_abs z) (unsigned_abs b)) in
    let test : is_zero (int_rem a b) ≡ true = eq-eqb (unsigned_abs (int_rem a b)) 0 none in
    cc

pub fraction_is : (a b z : ℤ) → quotient a b ≡ Err Fraction → z *ℤ b ≡ a → ⊥
fraction_is a b z is product = fraction_in a b z (is_zero b) (is_zero a) (is_zero (int_rem a b)) (nat_le (unsigned_abs (int_div a b)) greatest) refl is product
