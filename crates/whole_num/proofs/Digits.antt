-- One digit more of a number, with a limit.
use Rattle.std.proofs.Common.{◌≡◌, refl, sym, ap, ◌∙◌, ℕ, ◌+◌, ◌*◌, ◌-◌, ◌<◌, ◌≤◌, List, length, get_or, take, min, Bool, true, false, arith}
use Rattle.std.proofs.lemmas.Bool.Decides.{nat_tests}
use Rattle.std.proofs.lemmas.Int.Digits.{digits_value_more}
use Rattle.std.proofs.lemmas.List.Folds.{list_all_at}
use Rattle.std.specs.Char.{is_ascii_digit, digit_value}
use Rattle.std.specs.List.{list_all}
use Rattle.std.specs.Str.Parse.{digits_value}

in_digits : (c : ℕ) → is_ascii_digit c ≡ true → (48 ≤ c) × (c ≤ 57)
in_digits c e = (grind (arith, nat_tests), grind (arith, nat_tests))

digit_at : (ds : List ℕ) (i : ℕ) (b : Bool) → list_all is_ascii_digit ds ≡ true → i < length ds → is_ascii_digit (get_or ds i 0) ≡ b → b ≡ true
digit_at ds i true all h e = refl
digit_at ds i false all h e = let f = list_all_at is_ascii_digit ds i 0 h e in cc

value_is : (c : ℕ) → (48 ≤ c) × (c ≤ 57) → digit_value c ≡ c - 48
value_is c h = grind (arith, nat_tests)

capped : (m v d cap : ℕ) → m ≡ min v cap → min (m * 10 + d) cap ≡ min (v * 10 + d) cap
capped m v d cap e = omega arith

pub digit_more : (ds : List ℕ) (i m cap : ℕ) → list_all is_ascii_digit ds ≡ true → i < length ds → m ≡ min (digits_value 10 (take i ds)) cap
    → min (m * 10 + (get_or ds i 0 - 48)) cap ≡ min (digits_value 10 (take (i + 1) ds)) cap
digit_more ds i m cap all h e =
    let is : digit_value (get_or ds i 0) ≡ get_or ds i 0 - 48 = value_is (get_or ds i 0) (in_digits (get_or ds i 0) (digit_at ds i (is_ascii_digit (get_or ds i 0)) all h refl)) in
    capped m (digits_value 10 (take i ds)) (get_or ds i 0 - 48) cap e
    ∙ ap (λ v. min v cap) (ap (λ d. digits_value 10 (take i ds) * 10 + d) (sym is) ∙ sym (digits_value_more 10 ds i h))
