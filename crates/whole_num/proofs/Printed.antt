-- The text of a number is a numeral of it.
use Rattle.std.proofs.Common.{◌≡◌, refl, sym, ap, ◌∙◌, ℕ, zero, suc, ◌^◌, ◌<◌, ◌≤◌, List, [], ◌∷◌, ◌++◌, append-nil, Bool, true, false, Ok, Err, arith}
use Rattle.std.specs.Prelude.{◌&&◌, if◌then◌else◌, nat_le, unsigned_abs, pos, negsuc}
use Rattle.std.specs.Char.{is_ascii_digit, digit_value}
use Rattle.std.specs.List.{list_all}
use Rattle.std.specs.Fmt.{decimal}
use Rattle.std.specs.Str.Parse.{AllDigits}
use Rattle.std.proofs.lemmas.Bool.Decides.{nat_tests}
use Rattle.std.proofs.lemmas.Str.Parse.{digit_from_value}
use Rattle.std.proofs.lemmas.Fmt.{decimal_is_IsNumeral, decimal_nonempty}
use Rattle.whole_num.specs.declared.number.Num.{Num}
use Rattle.whole_num.specs.declared.number.Num.TheVariants.{NaN, Whole}
use Rattle.whole_num.specs.declared.number.NumFault.TheVariants.{NumberRange}
use Rattle.whole_num.specs.Number.{greatest, IsNumber, ranged}
use Rattle.whole_num.specs.Text.{sign, absent, IsNumeral, with_sign, number_of, text_of}
use Rattle.whole_num.proofs.Numerals.{numeral_is}

is_digit : (c : ℕ) → digit_value c < 10 → is_ascii_digit c ≡ true
is_digit c h = let r = digit_from_value c h in grind (arith, nat_tests, r.0, r.1)

all_digits : (ds : List ℕ) → AllDigits 10 ds → list_all is_ascii_digit ds ≡ true
all_digits [] all = refl
all_digits (c ∷ cs) all = ap (λ a. a && list_all is_ascii_digit cs) (is_digit c all.0) ∙ all_digits cs all.1

abs_is : (n : ℕ) (negative : Bool) → unsigned_abs (with_sign negative n) ≡ n
abs_is zero true = refl
abs_is (suc n) true = refl
abs_is n false = refl

spelled : (negative : Bool) (n : ℕ) → n < 2 ^ 64 → IsNumeral (sign negative ++ decimal n) negative (decimal n) []
spelled negative n small = record {
  before = [];
  point = [];
  behind = [];
  spelled = ap (λ ds. sign negative ++ ds) (sym (append-nil (decimal n)));
  space_before = refl;
  digits = all_digits (decimal n) (decimal_is_IsNumeral n small).0.1;
  fractional = absent;
  some_digit = omega (arith, decimal_nonempty n small);
  space_behind = refl;
}

in_range : (negative : Bool) (n : ℕ) → n ≤ greatest → ranged (with_sign negative n) ≡ Ok (Whole (with_sign negative n))
in_range negative n small =
    let abs : (b : Bool) → unsigned_abs (with_sign b n) ≡ n = abs_is n in
    let test : nat_le (unsigned_abs (with_sign negative n)) greatest ≡ true = grind (arith, nat_tests, abs negative) in
    ap (λ a. if a then Ok (Whole (with_sign negative n)) else Err NumberRange) test

read_back : (negative : Bool) (n : ℕ) → n ≤ greatest → number_of (sign negative ++ decimal n) ≡ Ok (Whole (with_sign negative n))
read_back negative n small =
    let short : n < 2 ^ 64 = omega arith in
    numeral_is (sign negative ++ decimal n) negative (decimal n) [] (spelled negative n short)
    ∙ (ap (λ v. ranged (with_sign negative v)) (decimal_is_IsNumeral n short).1 ∙ in_range negative n small)

pub printed_is : (n : Num) → IsNumber n → number_of (text_of n) ≡ Ok n
printed_is NaN is = refl
printed_is (Whole (pos n)) is = read_back false n is
printed_is (Whole (negsuc n)) is = read_back true (suc n) is
