-- What `parse` gives of a few digits, and a text that spells no item.
use Rattle.std.proofs.Common.{◌≡◌, ◌≢◌, ◌≤◌, ◌<◌, ◌^◌, ◌&&◌, ◌==◌, ℕ, List, [], ◌∷◌, true, Option, Some, None, Result, Ok, length, refl, ap, arith, rules}
use Rattle.std.specs.Char.{is_ascii_digit}
use Rattle.std.specs.List.{list_all}
use Rattle.std.specs.Result.{result_ok}
use Rattle.std.specs.Str.Parse.{ParsesUnsigned, digits_value}
use Rattle.std.proofs.lemmas.Bool.Decides.{nat_tests}
use Rattle.std.proofs.lemmas.Grind.{common_steps}
use Rattle.std.proofs.lemmas.Str.Parse.{IsNumeralModel, numerals_by_value, parse_gives, digits_value_short}
use Rattle.cmd_words.specs.declared.item.Item.{Item}
use Rattle.cmd_words.specs.Items.{is_number, number_of, item_of}

-- the texts of digits
digits : IsNumeralModel (λ ds. list_all is_ascii_digit ds ≡ true) (digits_value 10)
digits = numerals_by_value _ (search rules)

-- up to nine digits are parsed as their number
pub number_of_parsed : {E : Type 0} (most : ℕ) (text : List ℕ) (parsed : Result ℕ E) → ParsesUnsigned 32 10 text parsed →
    most ≤ 9 → is_number most text ≡ true → result_ok parsed ≡ number_of most text
number_of_parsed most text parsed parses few is =
    let all : list_all is_ascii_digit text ≡ true = grind (arith, nat_tests, is) in
    let some : 0 < length text = grind (arith, nat_tests, is) in
    let short : length text ≤ 9 = grind (arith, nat_tests, is) in
    let small : digits_value 10 text < 2 ^ 32 = omega (arith, digits_value_short digits text 9 all short) in
    rw (is, parse_gives digits 32 text parsed parses all some small) refl

-- a text that begins with neither letter is no item
pub item_of_other : (readers : ℕ) (text : List ℕ) → ((rest : List ℕ) → text ≢ 98 ∷ rest) → ((rest : List ℕ) → text ≢ 114 ∷ rest) → item_of readers text ≡ None
item_of_other readers [] b r = refl
item_of_other readers (letter ∷ rest) b r = grind (arith, nat_tests, b rest, r rest)
