-- A text with its whitespace normalised (XPath 1.0, section 4.2).
use Rattle.std.specs.Prelude.{ℕ, Bool, true, false, if◌then◌else◌, List, [], ◌∷◌, ◌++◌, filter}
use Rattle.std.specs.List.{slice_split, join_with_byte}
use Rattle.whole_num.specs.Text.{is_space}

-- something stands here
abbrev pub is_word : List ℕ → Bool
is_word [] = false
is_word (byte ∷ bytes) = true

-- the words of a text: what stands between its whitespace, where that is something
abbrev pub words : List ℕ → List (List ℕ)
words text = filter is_word (slice_split is_space text)

-- the words, one space between any two
abbrev pub normalized : List ℕ → List ℕ
normalized text = join_with_byte 32 (words text)

-- what stands between a word and what is kept so far, unless the word has begun
abbrev pub gap : List ℕ → Bool → List ℕ
gap [] inside = []
gap (byte ∷ bytes) true = []
gap (byte ∷ bytes) false = 32 ∷ []

-- what one more byte adds to what is kept so far, inside a word or not
abbrev pub added : List ℕ → Bool → ℕ → List ℕ
added kept inside byte = if is_space byte then [] else gap kept inside ++ byte ∷ []
