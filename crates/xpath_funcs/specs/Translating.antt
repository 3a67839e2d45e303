-- A text whose characters are replaced (XPath 1.0, section 4.2).
use Rattle.std.specs.Prelude.{ℕ, if◌then◌else◌, List, [], ◌∷◌, Option, Some, None}
use Rattle.std.specs.List.{flat_map}
use Rattle.std.specs.Str.{bytes_eq}
use Rattle.std.specs.Ordering.{nat_cmp}
use Rattle.std.specs.Cmp.Lexicographic.{slice_cmp}
use Rattle.std.specs.BTreeMap.{BTreeMap, get_by}
use Rattle.std.specs.Global.{Vec}
use Rattle.xpath_funcs.specs.Characters.{characters}

-- the first of the characters, or nothing where there is none, and those behind it
abbrev pub first_of : List (List ℕ) → List ℕ
first_of [] = []
first_of (character ∷ later) = character

abbrev pub rest_of : List (List ℕ) → List (List ℕ)
rest_of [] = []
rest_of (character ∷ later) = later

-- what stands for a character: the partner of its first mention, or nothing where that has none
abbrev pub partner : List ℕ → List (List ℕ) → List (List ℕ) → Option (List ℕ)
partner character [] to = None
partner character (mentioned ∷ from) to = if bytes_eq mentioned character then Some (first_of to) else partner character from (rest_of to)

-- a character that isn't mentioned stays
abbrev pub replaced : List ℕ → Option (List ℕ) → List ℕ
replaced character None = character
replaced character (Some partner) = partner

-- the text with its characters replaced
abbrev pub translated : List ℕ → List ℕ → List ℕ → List ℕ
translated text from to = flat_map (λ character. replaced character (partner character (characters from) (characters to))) (characters text)

-- what the index has for a character
abbrev pub found : List ℕ → BTreeMap (Vec ℕ) (List ℕ) → Option (List ℕ)
found character partners = get_by (λ key. slice_cmp nat_cmp character key.items) partners

-- the first of two, where there is one
abbrev pub either : Option (List ℕ) → Option (List ℕ) → Option (List ℕ)
either (Some partner) other = Some partner
either None other = other
