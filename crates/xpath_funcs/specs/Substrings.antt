-- The characters of a text at some positions (XPath 1.0, section 4.2).
use Rattle.std.specs.Prelude.{ℕ, ◌+◌, Bool, true, false, ◌&&◌, ◌||◌, not, ◌==◌, if◌then◌else◌, List, [], ◌∷◌, ◌++◌, Option, Some, None, ℤ, pos, ◌+ℤ◌}
use lib.Signed.{lt_z, le_z}
use Rattle.whole_num.specs.declared.number.Num.{Num}
use Rattle.whole_num.specs.declared.number.Num.TheVariants.{NaN, Whole}
use Rattle.xpath_funcs.specs.Characters.{characters, continues}

-- a position is asked for: from the first number on, and before the sum of both; with NaN none is
abbrev pub is_at : Num → Option Num → ℕ → Bool
is_at NaN len position = false
is_at (Whole from) None position = le_z from (pos position)
is_at (Whole from) (Some NaN) position = false
is_at (Whole from) (Some (Whole len)) position = le_z from (pos position) && lt_z (pos position) (from +ℤ len)

-- of these characters, the first of which has the position given, the bytes of those whose position passes
abbrev pub kept_from : (ℕ → Bool) → ℕ → List (List ℕ) → List ℕ
kept_from passes position [] = []
kept_from passes position (character ∷ later) = (if passes position then character else []) ++ kept_from passes (position + 1) later

-- the characters at the positions that are asked for
abbrev pub substring : List ℕ → Num → Option Num → List ℕ
substring text from len = kept_from (is_at from len) 1 (characters text)

-- the position of the character of one more byte
abbrev pub position_of : ℕ → ℕ → ℕ
position_of position byte = if position == 0 || not (continues byte) then position + 1 else position

-- a byte, where it is asked for
abbrev pub kept_byte : Bool → ℕ → List ℕ
kept_byte true byte = byte ∷ []
kept_byte false byte = []

-- the bytes that are kept of those that stand behind a byte of the character at the position given
abbrev pub kept_behind : (ℕ → Bool) → ℕ → List ℕ → List ℕ
kept_behind passes position [] = []
kept_behind passes position (byte ∷ bytes) = kept_byte (passes (position_of position byte)) byte ++ kept_behind passes (position_of position byte) bytes
