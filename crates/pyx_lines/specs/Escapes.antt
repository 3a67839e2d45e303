-- Line feeds, tabs and backslashes in values, texts and data, as a line spells them.
use Rattle.std.specs.Prelude.{ℕ, List, [], ◌∷◌, ◌++◌, ◌==◌, if◌then◌else◌}
use Rattle.std.specs.List.{flat_map}

-- what a byte is written as
abbrev pub escape_byte : ℕ → List ℕ
escape_byte b =
    if b == 10 then 92 ∷ 110 ∷ [] else
    if b == 9 then 92 ∷ 116 ∷ [] else
    if b == 92 then 92 ∷ 92 ∷ [] else b ∷ []

-- a value as it is written
abbrev pub escape : List ℕ → List ℕ
escape value = flat_map escape_byte value

-- what a backslash and the byte after it stand for: any byte but `n`, `t` and the backslash leaves both
abbrev pub escaped : ℕ → List ℕ
escaped b =
    if b == 110 then 10 ∷ [] else
    if b == 116 then 9 ∷ [] else
    if b == 92 then 92 ∷ [] else 92 ∷ b ∷ []

-- the value that is spelled so; a lone backslash at the end is itself
abbrev pub unescape : List ℕ → List ℕ
unescape [] = []
unescape (b ∷ []) = b ∷ []
unescape (b ∷ next ∷ bytes) = if b == 92 then escaped next ++ unescape bytes else b ∷ unescape (next ∷ bytes)
