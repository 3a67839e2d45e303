-- The items of a list of turns.
use Rattle.std.specs.Prelude.{◌≤◌, ◌<◌, ℕ, List, [], ◌∷◌, Bool, ◌&&◌, ◌==◌, nat_lt, nat_le, if◌then◌else◌, length, map, Option, Some, None, is_some}
use Rattle.std.specs.List.{list_all, filter_map, slice_split, range_with_len}
use Rattle.std.specs.Option.{option_and_then}
use Rattle.std.specs.Char.{is_ascii_digit}
use Rattle.std.specs.Str.Parse.{digits_value}
use Rattle.cmd_words.specs.declared.item.Item.{Item}
use Rattle.cmd_words.specs.declared.item.Item.TheVariants.{Lines, Reader}

-- one to so many digits
abbrev pub is_number : ℕ → List ℕ → Bool
is_number most text = nat_lt 0 (length text) && nat_le (length text) most && list_all is_ascii_digit text

-- the number that one to so many digits write, or none for any other text
abbrev pub number_of : ℕ → List ℕ → Option ℕ
number_of most text = if is_number most text then Some (digits_value 10 text) else None

-- a count of lines is from 1 to 1,000,000
abbrev pub lines_of_number : ℕ → Option Item
lines_of_number n = if nat_le 1 n && nat_le n 1000000 then Some (Lines n) else None

-- a reader is below their number
abbrev pub reader_of_number : ℕ → ℕ → Option Item
reader_of_number readers n = if nat_lt n readers then Some (Reader n) else None

-- `b` and 1 to 7 digits, or `r` and 1 or 2
abbrev pub item_of : ℕ → List ℕ → Option Item
item_of readers [] = None
item_of readers (letter ∷ digits) =
    if letter == 98 then option_and_then lines_of_number (number_of 7 digits) else
    if letter == 114 then option_and_then (reader_of_number readers) (number_of 2 digits) else None

abbrev pub is_comma : ℕ → Bool
is_comma b = b == 44

-- what stands between the commas of LIST
abbrev pub pieces_of : List ℕ → List (List ℕ)
pieces_of list = slice_split is_comma list

-- LIST has at most 1,000 pieces, and each spells an item
abbrev pub is_turns : ℕ → List ℕ → Bool
is_turns readers list = nat_le (length (pieces_of list)) 1000 && list_all (λ piece. is_some (item_of readers piece)) (pieces_of list)

-- the items that the pieces of LIST spell
abbrev pub items_of : ℕ → List ℕ → List Item
items_of readers list = filter_map (item_of readers) (pieces_of list)

-- one line, and then each reader in order
abbrev pub line_and_readers : ℕ → List Item
line_and_readers readers = Lines 1 ∷ map Reader (range_with_len 0 readers)

-- an item of so many readers
abbrev pub IsItem : ℕ → Item → Type 0
IsItem readers (Lines n) = (1 ≤ n) × (n ≤ 1000000)
IsItem readers (Reader n) = n < readers
