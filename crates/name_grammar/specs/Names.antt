-- Names as bytes of UTF-8 (Namespaces in XML 1.0, section 4), where each byte of a character outside ASCII is 128 or more.
use Rattle.std.specs.Prelude.{ℕ, ◌+◌, List, [], ◌∷◌, ◌++◌, Bool, false, ◌&&◌, ◌||◌, ◌==◌, nat_le, if◌then◌else◌, IsTrue, take, drop, length, Option, Some, None, position}
use Rattle.std.specs.List.{list_all}

-- a byte that may begin an NCName: an ASCII letter, `_`, or a byte of a character outside ASCII
abbrev pub is_name_start : ℕ → Bool
is_name_start b = nat_le 65 b && nat_le b 90 || nat_le 97 b && nat_le b 122 || b == 95 || nat_le 128 b

-- a byte of an NCName after its first: the same, a digit, `-` or `.`
abbrev pub is_name_byte : ℕ → Bool
is_name_byte b = is_name_start b || nat_le 48 b && nat_le b 57 || b == 45 || b == 46

-- an NCName; a target is one too
abbrev pub is_ncname : List ℕ → Bool
is_ncname [] = false
is_ncname (b ∷ bytes) = is_name_start b && list_all is_name_byte bytes

-- a name: one NCName, or two joined by one colon
pub data IsName : List ℕ → Type 0 where
  one_ncname : (name : List ℕ) → IsTrue (is_ncname name) → IsName name
  two_ncnames : (prefix local : List ℕ) → IsTrue (is_ncname prefix) → IsTrue (is_ncname local) → IsName (prefix ++ 58 ∷ local)

-- where the first colon stands
abbrev pub colon_in : List ℕ → Option ℕ
colon_in name = position (λ b. b == 58) name

-- what stands before the first colon, or nothing
abbrev pub prefix_of : List ℕ → List ℕ
prefix_of name = before (colon_in name)
  where
    before : Option ℕ → List ℕ
    before None = []
    before (Some k) = take k name

-- what stands after the first colon, or the whole name
abbrev pub local_of : List ℕ → List ℕ
local_of name = after (colon_in name)
  where
    after : Option ℕ → List ℕ
    after None = name
    after (Some k) = drop (k + 1) name

-- whether the bytes are a name, by their first colon
abbrev pub is_name : List ℕ → Bool
is_name name = parts_hold (colon_in name)
  where
    parts_hold : Option ℕ → Bool
    parts_hold None = is_ncname name
    parts_hold (Some k) = is_ncname (take k name) && is_ncname (drop (k + 1) name)

-- the lengths of a name's prefix and local name
abbrev pub split_of : List ℕ → Option (ℕ × ℕ)
split_of name = if is_name name then Some (length (prefix_of name), length (local_of name)) else None
