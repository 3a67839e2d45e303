-- The words of a text, byte by byte.
use Rattle.std.proofs.Common.{◌≡◌, ℕ, List, [], ◌∷◌, ◌++◌, Bool, true, false, not, filter, refl, sym, ap, ◌∙◌, append_assoc}
use Rattle.std.specs.List.{slice_split, onto_first, join_with_byte}
use Rattle.std.proofs.lemmas.List.{append-nil}
use Rattle.whole_num.specs.Text.{is_space}
use Rattle.xpath_funcs.specs.Spaces.{is_word, words, normalized, added}
use Rattle.xpath_funcs.specs.Translating.{first_of, rest_of}

-- what is kept at the end
abbrev pub kept_of : List ℕ → Bool → List ℕ → List ℕ
kept_of kept inside [] = kept
kept_of kept inside (byte ∷ bytes) = kept_of (kept ++ added kept inside byte) (not (is_space byte)) bytes

abbrev spaced : List (List ℕ) → List ℕ
spaced [] = []
spaced (word ∷ later) = 32 ∷ (word ++ spaced later)

joined : (word : List ℕ) (later : List (List ℕ)) → join_with_byte 32 (word ∷ later) ≡ word ++ spaced later
joined word [] = sym (append-nil word)
joined word (next ∷ later) = ap (λ (all : List ℕ). word ++ (32 ∷ all)) (joined next later)

onto_first-is : (byte : ℕ) (parts : List (List ℕ)) → onto_first byte parts ≡ (byte ∷ first_of parts) ∷ rest_of parts
onto_first-is byte [] = refl
onto_first-is byte (part ∷ parts) = refl

abbrev split : List ℕ → List (List ℕ)
split text = slice_split is_space text

abbrev inside_is : ℕ → List ℕ → List ℕ → Type 0
inside_is k ks text = kept_of (k ∷ ks) true text ≡ k ∷ (ks ++ (first_of (split text) ++ spaced (filter is_word (rest_of (split text)))))

abbrev outside_is : ℕ → List ℕ → List ℕ → Type 0
outside_is k ks text = kept_of (k ∷ ks) false text ≡ k ∷ (ks ++ spaced (filter is_word (split text)))

both_by : (k : ℕ) (ks : List ℕ) (byte : ℕ) (text : List ℕ) (is : Bool) → is_space byte ≡ is
    → ((ls : List ℕ) → inside_is k ls text × outside_is k ls text) → inside_is k ks (byte ∷ text) × outside_is k ks (byte ∷ text)
both_by k ks byte text true is later = (rw (is, append-nil ks) (later ks).1, rw (is, append-nil ks) (later ks).1)
both_by k ks byte text false is later =
    let rest = first_of (split text) ++ spaced (filter is_word (rest_of (split text))) in (
      rw (is, onto_first-is byte (split text)) ((later (ks ++ byte ∷ [])).0 ∙ ap (λ (all : List ℕ). k ∷ all) (append_assoc ks (byte ∷ []) rest)),
      rw (is, onto_first-is byte (split text)) ((later (ks ++ 32 ∷ byte ∷ [])).0 ∙ ap (λ (all : List ℕ). k ∷ all) (append_assoc ks (32 ∷ byte ∷ []) rest)),
    )

both : (k : ℕ) (ks text : List ℕ) → inside_is k ks text × outside_is k ks text
both k ks [] = (ap (λ (all : List ℕ). k ∷ all) (sym (append-nil ks)), ap (λ (all : List ℕ). k ∷ all) (sym (append-nil ks)))
both k ks (byte ∷ text) = both_by k ks byte text (is_space byte) refl (λ ls. both k ls text)

words_by : (byte : ℕ) (text : List ℕ) (is : Bool) → is_space byte ≡ is → kept_of [] false text ≡ normalized text → kept_of [] false (byte ∷ text) ≡ normalized (byte ∷ text)
words_by byte text true is later = rw is later
words_by byte text false is later =
    rw (is, onto_first-is byte (split text)) ((both byte [] text).0 ∙ sym (joined (byte ∷ first_of (split text)) (filter is_word (rest_of (split text)))))

-- byte by byte the words are kept
pub kept_of-words : (text : List ℕ) → kept_of [] false text ≡ normalized text
kept_of-words [] = refl
kept_of-words (byte ∷ text) = words_by byte text (is_space byte) refl (kept_of-words text)
