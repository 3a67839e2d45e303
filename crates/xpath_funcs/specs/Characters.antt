-- The characters of a text: its bytes, cut before each byte that doesn't go on with a character.
use Rattle.std.specs.Prelude.{ℕ, Bool, false, ◌&&◌, not, nat_le, nat_lt, if◌then◌else◌, List, [], ◌∷◌, count_by}
use Rattle.std.specs.List.{prefix_len}

-- a byte goes on with the character before it (10xxxxxx in UTF-8)
abbrev pub continues : ℕ → Bool
continues byte = nat_le 128 byte && nat_lt byte 192

-- the character begins with a byte that goes on
abbrev pub goes_on : List ℕ → Bool
goes_on [] = false
goes_on (byte ∷ bytes) = continues byte

-- one more byte before these characters, in the first of them where that goes on
abbrev pub led : ℕ → List (List ℕ) → List (List ℕ)
led byte [] = (byte ∷ []) ∷ []
led byte (character ∷ later) = if goes_on character then (byte ∷ character) ∷ later else (byte ∷ []) ∷ character ∷ later

-- the characters of a text
abbrev pub characters : List ℕ → List (List ℕ)
characters [] = []
characters (byte ∷ bytes) = led byte (characters bytes)

-- how many bytes at the front go on, and how many begin a character
abbrev pub continuing : List ℕ → ℕ
continuing bytes = prefix_len continues bytes

abbrev pub beginning : List ℕ → ℕ
beginning bytes = count_by (λ byte. not (continues byte)) bytes
