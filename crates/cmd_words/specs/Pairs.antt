-- The pairs of sheets and outputs.
use Rattle.std.specs.Prelude.{ℕ, List, [], ◌∷◌, Bool, ◌&&◌, ◌==◌, nat_lt, nat_le, if◌then◌else◌, length, map, Option, Some, None, is_some, codes}
use Rattle.std.specs.List.{list_all, filter_map, count_by, before_first, after_first}
use Rattle.std.specs.Str.{bytes_eq}
use Rattle.cmd_words.specs.declared.pair.Pair.{Pair}

abbrev pub is_equals : ℕ → Bool
is_equals b = b == 61

-- a word is split at its first `=`: the sheet is `builtin`, and OUT isn't empty
abbrev pub pair_of : List ℕ → Option Pair
pair_of word =
    if bytes_eq (before_first is_equals word) (codes "builtin") && nat_lt 0 (length (after_first is_equals word))
    then Some (record { sheet = before_first is_equals word; out = after_first is_equals word }) else None

-- the pairs that these words are
abbrev pub pairs_of : List (List ℕ) → List Pair
pairs_of words = filter_map pair_of words

-- what stands after the first `=` of each word
abbrev pub outs_of : List (List ℕ) → List (List ℕ)
outs_of words = map (after_first is_equals) words

-- each text stands here once
abbrev pub each_stands_once : List (List ℕ) → Bool
each_stands_once texts = list_all (λ text. count_by (bytes_eq text) texts == 1) texts

-- 1 to 16 words, each a pair, with no two equal names OUT
abbrev pub are_pairs : List (List ℕ) → Bool
are_pairs words =
    nat_le 1 (length words) && nat_le (length words) 16 && list_all (λ word. is_some (pair_of word)) words
    && each_stands_once (outs_of words)
