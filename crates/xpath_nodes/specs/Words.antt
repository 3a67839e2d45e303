-- The words of a text, byte by byte.
use Rattle.std.specs.Prelude.{ℕ, if◌then◌else◌, List, [], ◌∷◌, ◌++◌, filter}
use Rattle.whole_num.specs.Text.{is_space}
use Rattle.xpath_funcs.specs.Spaces.{is_word}

-- the word that a byte ends, if it is whitespace and there is one
abbrev pub words_ended : List ℕ → ℕ → List (List ℕ)
words_ended word byte = if is_space byte then filter is_word (word ∷ []) else []

-- the word that goes on behind a byte
abbrev pub word_after : List ℕ → ℕ → List ℕ
word_after word byte = if is_space byte then [] else (word ++ byte ∷ [])
