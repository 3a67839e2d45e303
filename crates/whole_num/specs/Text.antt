-- Which number a text gives, and how a number is printed (XPath 1.0, 4.4 and 4.2, for whole numbers).
use Rattle.std.specs.Prelude.{◌≡◌, ℕ, ◌+◌, ◌<◌, ◌==◌, ◌&&◌, ◌||◌, if◌then◌else◌, not, nat_lt, Bool, true, false, List, [], ◌∷◌, ◌++◌, length, drop, take_while, Result, Ok, Err, ℤ, pos, neg_ℤ, codes}
use Rattle.std.specs.Char.{is_ascii_digit}
use Rattle.std.specs.List.{prefix_len, list_all, list_any}
use Rattle.std.specs.Str.Parse.{digits_value}
use Rattle.std.specs.Fmt.{signed_decimal}
use Rattle.whole_num.specs.declared.number.Num.{Num}
use Rattle.whole_num.specs.declared.number.Num.TheVariants.{NaN, Whole}
use Rattle.whole_num.specs.declared.number.NumFault.{NumFault}
use Rattle.whole_num.specs.declared.number.NumFault.TheVariants.{Fraction}
use Rattle.whole_num.specs.Number.{ranged}

-- space, tab, CR, LF
abbrev pub is_space : ℕ → Bool
is_space b = b == 32 || b == 9 || b == 13 || b == 10

-- `-`, or nothing
abbrev pub sign : Bool → List ℕ
sign true = 45 ∷ []
sign false = []

-- nothing, or `.` and these digits
pub data Fractional : List ℕ → List ℕ → Type 0 where
  absent : Fractional [] []
  present : (ds : List ℕ) → list_all is_ascii_digit ds ≡ true → Fractional (46 ∷ ds) ds

-- a text is a numeral: whitespace, perhaps a `-`, digits that may be followed by `.` and digits, or `.` and digits,
-- and whitespace
pub record IsNumeral (text : List ℕ) (negative : Bool) (whole fraction : List ℕ) : Type 0 where
  pub before : List ℕ
  pub point : List ℕ
  pub behind : List ℕ
  pub spelled : text ≡ before ++ (sign negative ++ (whole ++ (point ++ behind)))
  pub space_before : list_all is_space before ≡ true
  pub digits : list_all is_ascii_digit whole ≡ true
  pub fractional : Fractional point fraction
  pub some_digit : 0 < length whole + length fraction
  pub space_behind : list_all is_space behind ≡ true

-- a digit other than 0
abbrev pub is_nonzero : ℕ → Bool
is_nonzero d = not (d == 48)

abbrev pub with_sign : Bool → ℕ → ℤ
with_sign true n = neg_ℤ (pos n)
with_sign false n = pos n

-- what a numeral gives: Fraction with a nonzero digit behind the point, else its whole part where that is in range
abbrev pub value_of : Bool → List ℕ → List ℕ → Result Num NumFault
value_of negative whole fraction =
    if list_any is_nonzero fraction then Err Fraction else ranged (with_sign negative (digits_value 10 whole))

-- what a text gives: what it gives as a numeral, or NaN where it is none
pub data Reads (text : List ℕ) (r : Result Num NumFault) : Type 0 where
  numeral : (negative : Bool) (whole fraction : List ℕ) → IsNumeral text negative whole fraction → r ≡ value_of negative whole fraction → Reads text r
  other : ((negative : Bool) (whole fraction : List ℕ) → IsNumeral text negative whole fraction → ⊥) → r ≡ Ok NaN → Reads text r

-- The same by calculation: each part is the longest front that fits.

-- what is left behind the front that passes
abbrev pub behind_while : (ℕ → Bool) → List ℕ → List ℕ
behind_while p bs = drop (prefix_len p bs) bs

-- the value, where only whitespace is left and there was a digit
abbrev pub number_at_end : Bool → List ℕ → List ℕ → List ℕ → Result Num NumFault
number_at_end negative whole fraction rest =
    if list_all is_space rest && nat_lt 0 (length whole + length fraction) then value_of negative whole fraction else Ok NaN

abbrev pub number_from_point : Bool → List ℕ → List ℕ → Result Num NumFault
number_from_point negative whole [] = number_at_end negative whole [] []
number_from_point negative whole (b ∷ bs) =
    if b == 46 then number_at_end negative whole (take_while is_ascii_digit bs) (behind_while is_ascii_digit bs)
    else number_at_end negative whole [] (b ∷ bs)

abbrev pub number_from_digits : Bool → List ℕ → Result Num NumFault
number_from_digits negative bs = number_from_point negative (take_while is_ascii_digit bs) (behind_while is_ascii_digit bs)

abbrev pub number_from_sign : List ℕ → Result Num NumFault
number_from_sign [] = number_from_digits false []
number_from_sign (b ∷ bs) = if b == 45 then number_from_digits true bs else number_from_digits false (b ∷ bs)

-- the number of a text
abbrev pub number_of : List ℕ → Result Num NumFault
number_of text = number_from_sign (behind_while is_space text)

-- the text of a number: `NaN`, or its digits with `-` before those of a negative one
abbrev pub text_of : Num → List ℕ
text_of NaN = codes "NaN"
text_of (Whole z) = signed_decimal z
