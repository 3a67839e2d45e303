-- Whether a language is another or one of its kinds (XPath 1.0, section 4.3).
use Rattle.std.specs.Prelude.{ℕ, Bool, true, ◌&&◌, ◌==◌, List, [], ◌∷◌, length, take, drop}
use Rattle.std.specs.Str.{str_eq_ignore_ascii_case}

-- the same, ASCII case aside
abbrev pub same_letters : List ℕ → List ℕ → Bool
same_letters a b = str_eq_ignore_ascii_case a b

-- nothing, or `-` and anything
abbrev pub is_ending : List ℕ → Bool
is_ending [] = true
is_ending (byte ∷ bytes) = byte == 45

-- the language is the one that is asked for, or that one and a `-` and anything
abbrev pub lang_matches : List ℕ → List ℕ → Bool
lang_matches language asked = is_ending (drop (length asked) language) && same_letters (take (length asked) language) asked
