-- The words of a text, byte by byte.
use Rattle.std.proofs.Common.{◌≡◌, refl, sym, ap, ◌∙◌, ℕ, List, [], ◌∷◌, ◌++◌, true, false, filter, append_assoc, append-nil}
use Rattle.std.specs.List.{onto_first, slice_split}
use Rattle.whole_num.specs.Text.{is_space}
use Rattle.xpath_funcs.specs.Spaces.{is_word, words}
use Rattle.sheet_values.specs.Words.{onto, words_from}

onto_nothing : (parts : List (List ℕ)) → filter is_word (onto [] parts) ≡ filter is_word parts
onto_nothing [] = refl
onto_nothing (part ∷ parts) = refl

-- nothing was kept
pub none_kept : (text : List ℕ) → words_from [] text ≡ words text
none_kept text = onto_nothing (slice_split is_space text)

word_ends : (word : List ℕ) (parts : List (List ℕ)) → filter is_word (word ∷ []) ++ filter is_word (onto [] parts) ≡ filter is_word ((word ++ []) ∷ parts)
word_ends [] parts = onto_nothing parts
word_ends (b ∷ word) parts = ap (λ rest. (b ∷ word) ∷ rest) (onto_nothing parts) ∙ ap (λ w. (b ∷ w) ∷ filter is_word parts) (sym (append-nil word))

-- a byte of whitespace ends a word
pub at_space : (word : List ℕ) (b : ℕ) (text : List ℕ) → is_space b ≡ true → filter is_word (word ∷ []) ++ words_from [] text ≡ words_from word (b ∷ text)
at_space word b text is = rw is (word_ends word (slice_split is_space text))

goes_on : (word : List ℕ) (b : ℕ) (parts : List (List ℕ)) → onto (word ++ b ∷ []) parts ≡ onto word (onto_first b parts)
goes_on word b [] = refl
goes_on word b (part ∷ parts) = ap (λ first. first ∷ parts) (append_assoc word (b ∷ []) part)

-- any other byte is kept
pub in_word : (word : List ℕ) (b : ℕ) (text : List ℕ) → is_space b ≡ false → words_from (word ++ b ∷ []) text ≡ words_from word (b ∷ text)
in_word word b text is = rw is (ap (filter is_word) (goes_on word b (slice_split is_space text)))

-- the text ends
pub at_end : (word : List ℕ) → filter is_word (word ∷ []) ≡ words_from word []
at_end word = ap (λ w. filter is_word (w ∷ [])) (sym (append-nil word))
