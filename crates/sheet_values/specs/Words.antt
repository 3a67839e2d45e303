-- The words of a text that are still to come.
use Rattle.std.specs.Prelude.{ℕ, List, [], ◌∷◌, ◌++◌, filter}
use Rattle.std.specs.List.{slice_split}
use Rattle.whole_num.specs.Text.{is_space}
use Rattle.xpath_funcs.specs.Spaces.{is_word}

-- what was kept of the first part stands in front of it
abbrev pub onto : List ℕ → List (List ℕ) → List (List ℕ)
onto word [] = word ∷ []
onto word (part ∷ parts) = (word ++ part) ∷ parts

-- the words, where this much of the first was kept before the text
abbrev pub words_from : List ℕ → List ℕ → List (List ℕ)
words_from word text = filter is_word (onto word (slice_split is_space text))
