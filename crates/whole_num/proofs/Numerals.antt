-- The calculation of a text's number finds just the numerals.
use Rattle.std.proofs.Common.{◌≡◌, refl, sym, ap, ◌∙◌, subst, inl, inr, ℕ, ◌+◌, ◌<◌, ◌≤◌, List, [], ◌∷◌, ◌++◌, Bool, true, false, length, Result, Ok, Err, arith}
use Rattle.std.specs.Prelude.{◌&&◌, ◌==◌, ◌⊎◌, if◌then◌else◌, nat_lt, nat_le, take_while, unsigned_abs, ℤ, IfOk}
use Rattle.std.specs.Char.{is_ascii_digit}
use Rattle.std.specs.List.{list_all, list_any}
use Rattle.std.specs.Str.Parse.{digits_value}
use Rattle.std.proofs.lemmas.Bool.{eqb-true}
use Rattle.std.proofs.lemmas.Bool.Decides.{nat_tests}
use Rattle.whole_num.specs.declared.number.Num.{Num}
use Rattle.whole_num.specs.declared.number.Num.TheVariants.{NaN, Whole}
use Rattle.whole_num.specs.declared.number.NumFault.{NumFault}
use Rattle.whole_num.specs.declared.number.NumFault.TheVariants.{NumberRange, Fraction}
use Rattle.whole_num.specs.Number.{greatest, IsNumber}
use Rattle.whole_num.specs.Text.{is_space, sign, Fractional, absent, present, IsNumeral, is_nonzero, with_sign, value_of, Reads, numeral, other}
use Rattle.whole_num.specs.Text.{behind_while, number_at_end, number_from_point, number_from_digits, number_from_sign, number_of}
use Rattle.whole_num.proofs.Parts.{Stops, no_more, fails, head_passes, front_is, behind_is, front_and_behind, front_passes}

space_is_no_digit : (b : ℕ) → is_space b ≡ true → is_ascii_digit b ≡ false
space_is_no_digit b e = grind (arith, nat_tests)

space_is_no_point : (b : ℕ) → is_space b ≡ true → (b == 46) ≡ false
space_is_no_point b e = grind (arith, nat_tests)

digit_is_no_space : (b : ℕ) → is_ascii_digit b ≡ true → is_space b ≡ false
digit_is_no_space b e = grind (arith, nat_tests)

digit_is_no_sign : (b : ℕ) → is_ascii_digit b ≡ true → (b == 45) ≡ false
digit_is_no_sign b e = grind (arith, nat_tests)

space_stops : (bs : List ℕ) → list_all is_space bs ≡ true → Stops is_ascii_digit bs
space_stops [] all = no_more
space_stops (b ∷ bs) all = fails b bs (space_is_no_digit b (head_passes is_space b bs all))

point_stops : (point fraction behind : List ℕ) → Fractional point fraction → list_all is_space behind ≡ true → Stops is_ascii_digit (point ++ behind)
point_stops point fraction behind absent all = space_stops behind all
point_stops point fraction behind (present ds digits) all = fails 46 (ds ++ behind) refl

-- a numeral's value stands at its end
end_is : (negative : Bool) (whole fraction rest : List ℕ) → list_all is_space rest ≡ true → 0 < length whole + length fraction
    → number_at_end negative whole fraction rest ≡ value_of negative whole fraction
end_is negative whole fraction rest all some =
    let few : nat_lt 0 (length whole + length fraction) ≡ true = grind (arith, nat_tests) in
    ap (λ a. if a && nat_lt 0 (length whole + length fraction) then value_of negative whole fraction else Ok NaN) all
    ∙ ap (λ a. if a then value_of negative whole fraction else Ok NaN) few

without_point : (negative : Bool) (whole behind : List ℕ) → list_all is_space behind ≡ true → number_from_point negative whole behind ≡ number_at_end negative whole [] behind
without_point negative whole [] all = refl
without_point negative whole (b ∷ bs) all = ap (λ a.
    if a then number_at_end negative whole (take_while is_ascii_digit bs) (behind_while is_ascii_digit bs) else number_at_end negative whole [] (b ∷ bs))
    (space_is_no_point b (head_passes is_space b bs all))

point_is : (negative : Bool) (whole point fraction behind : List ℕ) → Fractional point fraction → list_all is_space behind ≡ true
    → number_from_point negative whole (point ++ behind) ≡ number_at_end negative whole fraction behind
point_is negative whole point fraction behind absent all = without_point negative whole behind all
point_is negative whole point fraction behind (present ds digits) all =
    ap (λ front. number_at_end negative whole front (behind_while is_ascii_digit (ds ++ behind))) (front_is is_ascii_digit ds behind digits (space_stops behind all))
    ∙ ap (number_at_end negative whole ds) (behind_is is_ascii_digit ds behind digits (space_stops behind all))

digits_are : (negative : Bool) (whole rest : List ℕ) → list_all is_ascii_digit whole ≡ true → Stops is_ascii_digit rest
    → number_from_digits negative (whole ++ rest) ≡ number_from_point negative whole rest
digits_are negative whole rest digits stops =
    ap (λ front. number_from_point negative front (behind_while is_ascii_digit (whole ++ rest))) (front_is is_ascii_digit whole rest digits stops)
    ∙ ap (number_from_point negative whole) (behind_is is_ascii_digit whole rest digits stops)

-- a numeral's digits and point begin with no sign and no whitespace
record IsBody (bs : List ℕ) : Type 0 where
  no_space : Stops is_space bs
  no_sign : number_from_sign bs ≡ number_from_digits false bs

body_of_digit : (b : ℕ) (bs : List ℕ) → is_ascii_digit b ≡ true → IsBody (b ∷ bs)
body_of_digit b bs e = record {
  no_space = fails b bs (digit_is_no_space b e);
  no_sign = ap (λ a. if a then number_from_digits true bs else number_from_digits false (b ∷ bs)) (digit_is_no_sign b e);
}

is_body : (whole point fraction behind : List ℕ) → list_all is_ascii_digit whole ≡ true → Fractional point fraction → 0 < length whole + length fraction → IsBody (whole ++ (point ++ behind))
is_body [] point fraction behind digits absent some = absurd (omega arith)
is_body [] point fraction behind digits (present ds all) some = record { no_space = fails 46 (ds ++ behind) refl; no_sign = refl }
is_body (b ∷ bs) point fraction behind digits fractional some = body_of_digit b (bs ++ (point ++ behind)) (head_passes is_ascii_digit b bs digits)

sign_stops : (negative : Bool) (bs : List ℕ) → IsBody bs → Stops is_space (sign negative ++ bs)
sign_stops true bs body = fails 45 bs refl
sign_stops false bs body = body.no_space

sign_is : (negative : Bool) (bs : List ℕ) → IsBody bs → number_from_sign (sign negative ++ bs) ≡ number_from_digits negative bs
sign_is true bs body = refl
sign_is false bs body = body.no_sign

pub numeral_is : (text : List ℕ) (negative : Bool) (whole fraction : List ℕ) → IsNumeral text negative whole fraction → number_of text ≡ value_of negative whole fraction
numeral_is text negative whole fraction N =
    let body = is_body whole N.point fraction N.behind N.digits N.fractional N.some_digit in
    let rest = whole ++ (N.point ++ N.behind) in
    ap number_of N.spelled
    ∙ (ap number_from_sign (behind_is is_space N.before (sign negative ++ rest) N.space_before (sign_stops negative rest body))
    ∙ (sign_is negative rest body
    ∙ (digits_are negative whole (N.point ++ N.behind) N.digits (point_stops N.point fraction N.behind N.fractional N.space_behind)
    ∙ (point_is negative whole N.point fraction N.behind N.fractional N.space_behind
    ∙ end_is negative whole fraction N.behind N.space_behind N.some_digit))))

-- an answer is NaN, or that of a numeral
abbrev Found : List ℕ → Result Num NumFault → Type 0
Found text r = (r ≡ Ok NaN) ⊎ ((negative : Bool) × (whole : List ℕ) × (fraction : List ℕ) × IsNumeral text negative whole fraction × (r ≡ value_of negative whole fraction))

and_both : (a b : Bool) → (a && b) ≡ true → (a ≡ true) × (b ≡ true)
and_both true b e = (refl, e)
and_both false b e = cc

by_test : (text before whole point fraction rest : List ℕ) (negative : Bool) → text ≡ before ++ (sign negative ++ (whole ++ (point ++ rest)))
    → list_all is_space before ≡ true → list_all is_ascii_digit whole ≡ true → Fractional point fraction → (a : Bool)
    → (list_all is_space rest && nat_lt 0 (length whole + length fraction)) ≡ a → Found text (if a then value_of negative whole fraction else Ok NaN)
by_test text before whole point fraction rest negative is spaces digits fractional false e = inl refl
by_test text before whole point fraction rest negative is spaces digits fractional true e =
    let both = and_both (list_all is_space rest) (nat_lt 0 (length whole + length fraction)) e in
    let some : 0 < length whole + length fraction = grind (arith, nat_tests, both.1) in
    inr (
      negative,
      whole,
      fraction,
      record {
        before = before;
        point = point;
        behind = rest;
        spelled = is;
        space_before = spaces;
        digits = digits;
        fractional =
            fractional;
        some_digit = some;
        space_behind = both.0;
      },
      refl,
    )

end_found : (text before whole point fraction rest : List ℕ) (negative : Bool) → text ≡ before ++ (sign negative ++ (whole ++ (point ++ rest)))
    → list_all is_space before ≡ true → list_all is_ascii_digit whole ≡ true → Fractional point fraction → Found text (number_at_end negative whole fraction rest)
end_found text before whole point fraction rest negative is spaces digits fractional =
    by_test text before whole point fraction rest negative is spaces digits fractional (list_all is_space rest && nat_lt 0 (length whole + length fraction)) refl

by_point : (text before whole : List ℕ) (b : ℕ) (bs : List ℕ) (negative : Bool) → text ≡ before ++ (sign negative ++ (whole ++ (b ∷ bs)))
    → list_all is_space before ≡ true → list_all is_ascii_digit whole ≡ true → (a : Bool) → (b == 46) ≡ a
    → Found text (if a then number_at_end negative whole (take_while is_ascii_digit bs) (behind_while is_ascii_digit bs) else number_at_end negative whole [] (b ∷ bs))
by_point text before whole b bs negative is spaces digits false e = end_found text before whole [] [] (b ∷ bs) negative is spaces digits absent
by_point text before whole b bs negative is spaces digits true e =
    let front = take_while is_ascii_digit bs in let rest = behind_while is_ascii_digit bs in
    let parts : b ∷ bs ≡ 46 ∷ (front ++ rest) = ap (λ c. c ∷ bs) (eqb-true b 46 e) ∙ ap (λ cs. 46 ∷ cs) (front_and_behind is_ascii_digit bs) in
    end_found text before whole (46 ∷ front) front rest negative (is ∙ ap (λ cs. before ++ (sign negative ++ (whole ++ cs))) parts) spaces digits (present front (front_passes is_ascii_digit bs))

point_found : (text before whole rest : List ℕ) (negative : Bool) → text ≡ before ++ (sign negative ++ (whole ++ rest)) → list_all is_space before ≡ true
    → list_all is_ascii_digit whole ≡ true → Found text (number_from_point negative whole rest)
point_found text before whole [] negative is spaces digits = end_found text before whole [] [] [] negative is spaces digits absent
point_found text before whole (b ∷ bs) negative is spaces digits = by_point text before whole b bs negative is spaces digits (b == 46) refl

digits_found : (text before bs : List ℕ) (negative : Bool) → text ≡ before ++ (sign negative ++ bs) → list_all is_space before ≡ true → Found text (number_from_digits negative bs)
digits_found text before bs negative is spaces =
    point_found text before (take_while is_ascii_digit bs) (behind_while is_ascii_digit bs) negative (is
    ∙ ap (λ cs. before ++ (sign negative ++ cs)) (front_and_behind is_ascii_digit bs)) spaces (front_passes is_ascii_digit bs)

by_sign : (text before : List ℕ) (b : ℕ) (bs : List ℕ) → text ≡ before ++ (b ∷ bs) → list_all is_space before ≡ true → (a : Bool) → (b == 45) ≡ a
    → Found text (if a then number_from_digits true bs else number_from_digits false (b ∷ bs))
by_sign text before b bs is spaces false e = digits_found text before (b ∷ bs) false is spaces
by_sign text before b bs is spaces true e = digits_found text before bs true (is ∙ ap (λ c. before ++ (c ∷ bs)) (eqb-true b 45 e)) spaces

sign_found : (text before rest : List ℕ) → text ≡ before ++ rest → list_all is_space before ≡ true → Found text (number_from_sign rest)
sign_found text before [] is spaces = digits_found text before [] false is spaces
sign_found text before (b ∷ bs) is spaces = by_sign text before b bs is spaces (b == 45) refl

found : (text : List ℕ) → Found text (number_of text)
found text = sign_found text (take_while is_space text) (behind_while is_space text) (front_and_behind is_space text) (front_passes is_space text)

-- a numeral never gives NaN
never_nan : (a b : Bool) (z : ℤ) → (if a then Err Fraction else (if b then Ok (Whole z) else Err NumberRange)) ≡ Ok NaN → ⊥
never_nan true b z e = cc
never_nan false true z e = cc
never_nan false false z e = cc

by_found : (text : List ℕ) (r : Result Num NumFault) → number_of text ≡ r → Found text r → Reads text r
by_found text r is f = elim f [
  | inl none ↦ other (λ negative whole fraction N.
      never_nan (list_any is_nonzero fraction) (nat_le (unsigned_abs (with_sign negative (digits_value 10 whole))) greatest)
      (with_sign negative (digits_value 10 whole)) (sym (numeral_is text negative whole fraction N) ∙ (is ∙ none))) none
  | inr g ↦ numeral g.0 g.1 g.2 g.3 g.4
]

pub reads_number : (text : List ℕ) → Reads text (number_of text)
reads_number text = by_found text (number_of text) refl (found text)

alone_in : (text : List ℕ) (r : Result Num NumFault) → Reads text r → Reads text (number_of text) → r ≡ number_of text
alone_in text r (numeral negative whole fraction N is) reads = is ∙ sym (numeral_is text negative whole fraction N)
alone_in text r (other none is) (numeral negative whole fraction N e) = absurd (none negative whole fraction N)
alone_in text r (other none is) (other also e) = is ∙ sym e

pub alone_reads : (text : List ℕ) (r : Result Num NumFault) → Reads text r → r ≡ number_of text
alone_reads text r reads = alone_in text r reads (reads_number text)

within : (a b : Bool) (z : ℤ) → nat_le (unsigned_abs z) greatest ≡ b → IfOk {T = Num} {E = NumFault} (if a then Err Fraction else (if b then Ok (Whole z) else Err NumberRange)) IsNumber
within true b z e = tt
within false false z e = tt
within false true z e = let h : unsigned_abs z ≤ greatest = grind (arith, nat_tests) in h

number_in : (text : List ℕ) (r : Result Num NumFault) → Found text r → IfOk r IsNumber
number_in text r f = elim f [
  | inl none ↦ subst (λ r. IfOk r IsNumber) (sym none) tt
  | inr g ↦ subst (λ r. IfOk r IsNumber) (sym g.4) (within (list_any is_nonzero g.2) (nat_le (unsigned_abs (with_sign g.0 (digits_value 10 g.1))) greatest) (with_sign g.0 (digits_value 10 g.1)) refl)
]

pub number_is : (text : List ℕ) → IfOk (number_of text) IsNumber
number_is text = number_in text (number_of text) (found text)
