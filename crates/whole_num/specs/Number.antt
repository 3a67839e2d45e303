-- Numbers, and what the arithmetic on them gives (XPath 1.0, 3.5 and 4.4, for whole numbers).
use Rattle.std.specs.Prelude.{ℕ, Bool, ◌≡◌, ◌==◌, ◌<◌, ◌≤◌, if◌then◌else◌, nat_le, Option, Some, None, Result, Ok, Err, ℤ, pos, ◌≤ℤ◌, ◌+ℤ◌, ◌-ℤ◌, ◌*ℤ◌, unsigned_abs, int_div, int_rem}
use Rattle.std.specs.Ordering.{int_cmp}
use Rattle.std.specs.declared.cmp.Ordering.{Ordering}
use Rattle.whole_num.specs.declared.number.Num.{Num}
use Rattle.whole_num.specs.declared.number.Num.TheVariants.{NaN, Whole}
use Rattle.whole_num.specs.declared.number.NumFault.{NumFault}
use Rattle.whole_num.specs.declared.number.NumFault.TheVariants.{NumberRange, Fraction}

-- the greatest magnitude
abbrev pub greatest : ℕ
greatest = 9007199254740991

-- a value is a number: NaN, or whole and of no greater magnitude
abbrev pub IsNumber : Num → Type 0
IsNumber NaN = Unit {0}
IsNumber (Whole z) = unsigned_abs z ≤ greatest

-- a whole number, or NumberRange where its magnitude is greater
abbrev pub ranged : ℤ → Result Num NumFault
ranged z = if nat_le (unsigned_abs z) greatest then Ok (Whole z) else Err NumberRange

-- what two whole numbers give, and NaN where one isn't a number
abbrev pub on_whole : (ℤ → ℤ → Result Num NumFault) → Num → Num → Result Num NumFault
on_whole f (Whole a) (Whole b) = f a b
on_whole f (Whole a) NaN = Ok NaN
on_whole f NaN b = Ok NaN

abbrev pub sum_of : Num → Num → Result Num NumFault
sum_of = on_whole (λ a b. ranged (a +ℤ b))

abbrev pub difference_of : Num → Num → Result Num NumFault
difference_of = on_whole (λ a b. ranged (a -ℤ b))

abbrev pub product_of : Num → Num → Result Num NumFault
product_of = on_whole (λ a b. ranged (a *ℤ b))

abbrev pub is_zero : ℤ → Bool
is_zero z = unsigned_abs z == 0

-- the quotient of whole numbers, where it is whole
abbrev pub quotient : ℤ → ℤ → Result Num NumFault
quotient a b =
    if is_zero b then (if is_zero a then Ok NaN else Err NumberRange)
    else if is_zero (int_rem a b) then ranged (int_div a b)
    else Err Fraction

abbrev pub quotient_of : Num → Num → Result Num NumFault
quotient_of = on_whole quotient

-- what the division that truncates leaves of the dividend
abbrev pub remainder : ℤ → ℤ → Result Num NumFault
remainder a b = if is_zero b then Ok NaN else Ok (Whole (int_rem a b))

abbrev pub remainder_of : Num → Num → Result Num NumFault
remainder_of = on_whole remainder

-- a remainder: with a multiple of the divisor it is the dividend, it is smaller than the divisor, and it has the dividend's sign
pub record IsRemainder (a b r : ℤ) : Type 0 where
  pub multiple : (q : ℤ) × (q *ℤ b +ℤ r ≡ a)
  pub smaller : unsigned_abs r < unsigned_abs b
  pub not_below : pos 0 ≤ℤ a → pos 0 ≤ℤ r
  pub not_above : a ≤ℤ pos 0 → r ≤ℤ pos 0

-- the order of whole numbers, and none with NaN
abbrev pub order_of : Num → Num → Option Ordering
order_of (Whole a) (Whole b) = Some (int_cmp a b)
order_of (Whole a) NaN = None
order_of NaN b = None
