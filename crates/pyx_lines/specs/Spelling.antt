-- What the bytes of a line spell, or why they are refused. The bytes are those before the line feed, without one carriage return at their end.
use Rattle.std.specs.Prelude.{◌≡◌, ℕ, ◌+◌, List, [], ◌∷◌, ◌++◌, Bool, true, false, ◌&&◌, ◌||◌, ◌==◌, nat_le, if◌then◌else◌, IsTrue, IsFalse, take, drop, Option, Some, None, position, Result, Ok, Err, ◌⊎◌}
use Rattle.std.specs.List.{list_any}
use Rattle.std.specs.Str.{is_utf8}
use Rattle.name_grammar.specs.Names.{is_name, is_ncname}
use Rattle.pyx_lines.specs.Escapes.{unescape}
use Rattle.pyx_lines.specs.declared.line.Line.{Line}
use Rattle.pyx_lines.specs.declared.line.Line.TheVariants.{Start, End, Attr, Text, Instruction, Comment, Passed}
use Rattle.pyx_lines.specs.declared.line_error.LineError.{LineError}
use Rattle.pyx_lines.specs.declared.line_error.LineError.TheVariants.{NotUtf8, UnknownLine, NoSpace, BadName, Memory}

-- a first byte whose line is passed over: `B`, or one of `D` to `Z`
abbrev pub is_passed : ℕ → Bool
is_passed b = b == 66 || nat_le 68 b && nat_le b 90

-- a first byte of the notation
abbrev pub is_known : ℕ → Bool
is_known b = b == 40 || b == 41 || b == 65 || b == 45 || b == 63 || b == 67 || is_passed b

-- the notation, a case for each first byte
pub data Spells : List ℕ → Line → Type 0 where
  spells_start : (name : List ℕ) → IsTrue (is_name name) → Spells (40 ∷ name) (Start name)
  spells_end : (name : List ℕ) → IsTrue (is_name name) → Spells (41 ∷ name) (End name)
  spells_attribute : (name value : List ℕ) → IsTrue (is_name name) → Spells (65 ∷ name ++ 32 ∷ value) (Attr name (unescape value))
  spells_text : (text : List ℕ) → Spells (45 ∷ text) (Text (unescape text))
  spells_target : (target : List ℕ) → IsTrue (is_ncname target) → Spells (63 ∷ target) (Instruction target [])
  spells_instruction : (target value : List ℕ) → IsTrue (is_ncname target) → Spells (63 ∷ target ++ 32 ∷ value) (Instruction target (unescape value))
  spells_comment : (text : List ℕ) → Spells (67 ∷ text) (Comment (unescape text))
  passes_over : (b : ℕ) (rest : List ℕ) → IsTrue (is_passed b) → Spells (b ∷ rest) Passed
  passes_empty : Spells [] Passed

-- the first byte is none of the notation
abbrev pub IsUnknown : List ℕ → Type 0
IsUnknown [] = ⊥
IsUnknown (b ∷ rest) = IsFalse (is_known b)

-- an attribute line without a space
abbrev pub LacksSpace : List ℕ → Type 0
LacksSpace [] = ⊥
LacksSpace (b ∷ rest) = (b ≡ 65) × IsFalse (list_any (λ c. c == 32) rest)

-- why the bytes are refused, each refusal only where no earlier one is due
abbrev pub IsRefused : LineError → List ℕ → Type 0
IsRefused NotUtf8 bytes = IsFalse (is_utf8 bytes)
IsRefused UnknownLine bytes = IsTrue (is_utf8 bytes) × IsUnknown bytes
IsRefused NoSpace bytes = IsTrue (is_utf8 bytes) × LacksSpace bytes
IsRefused BadName bytes = IsTrue (is_utf8 bytes) × ¬ IsUnknown bytes × ¬ LacksSpace bytes × ((line : Line) → ¬ Spells bytes line)
IsRefused Memory bytes = ⊥

-- where the first space stands
abbrev pub space_in : List ℕ → Option ℕ
space_in bytes = position (λ b. b == 32) bytes

abbrev pub named : Bool → Line → Result Line LineError
named true line = Ok line
named false line = Err BadName

-- an attribute line's rest
abbrev pub attribute_of : Option ℕ → List ℕ → Result Line LineError
attribute_of None rest = Err NoSpace
attribute_of (Some k) rest = named (is_name (take k rest)) (Attr (take k rest) (unescape (drop (k + 1) rest)))

-- an instruction line's rest
abbrev pub instruction_of : Option ℕ → List ℕ → Result Line LineError
instruction_of None rest = named (is_ncname rest) (Instruction rest [])
instruction_of (Some k) rest = named (is_ncname (take k rest)) (Instruction (take k rest) (unescape (drop (k + 1) rest)))

-- what a first byte and the rest of its line spell
abbrev pub spelled : ℕ → List ℕ → Result Line LineError
spelled b rest =
    if b == 40 then named (is_name rest) (Start rest) else
    if b == 41 then named (is_name rest) (End rest) else
    if b == 65 then attribute_of (space_in rest) rest else
    if b == 45 then Ok (Text (unescape rest)) else
    if b == 63 then instruction_of (space_in rest) rest else
    if b == 67 then Ok (Comment (unescape rest)) else
    if is_passed b then Ok Passed else Err UnknownLine

-- the line that the bytes spell, or their refusal, by a test of each first byte
abbrev pub line_of : List ℕ → Result Line LineError
line_of bytes = if is_utf8 bytes then of_text bytes else Err NotUtf8
  where
    of_text : List ℕ → Result Line LineError
    of_text [] = Ok Passed
    of_text (b ∷ rest) = spelled b rest

-- the answer is this one, or want of memory
abbrev pub Answers : Result Line LineError → Result Line LineError → Type 0
Answers expected result = (result ≡ expected) ⊎ (result ≡ Err Memory)
