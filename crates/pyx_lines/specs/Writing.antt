-- How a line is written.
use Rattle.std.specs.Prelude.{ℕ, ◌-◌, List, [], ◌∷◌, ◌++◌, Bool, ◌==◌, if◌then◌else◌, IsTrue, length, slice_index}
use Rattle.std.specs.Str.{is_utf8}
use Rattle.name_grammar.specs.Names.{is_name, is_ncname}
use Rattle.pyx_lines.specs.Escapes.{escape}
use Rattle.pyx_lines.specs.declared.line.Line.{Line}
use Rattle.pyx_lines.specs.declared.line.Line.TheVariants.{Start, End, Attr, Text, Instruction, Comment, Passed}

-- any line but one passed over, where its name is a name, its target an NCName, and all of it is UTF-8
abbrev pub CanBeWritten : Line → Type 0
CanBeWritten (Start name) = IsTrue (is_name name) × IsTrue (is_utf8 name)
CanBeWritten (End name) = IsTrue (is_name name) × IsTrue (is_utf8 name)
CanBeWritten (Attr name value) = IsTrue (is_name name) × IsTrue (is_utf8 name) × IsTrue (is_utf8 value)
CanBeWritten (Text text) = IsTrue (is_utf8 text)
CanBeWritten (Instruction target value) = IsTrue (is_ncname target) × IsTrue (is_utf8 target) × IsTrue (is_utf8 value)
CanBeWritten (Comment text) = IsTrue (is_utf8 text)
CanBeWritten Passed = ⊥

-- the bytes that a line is written as, before what stands at its end
abbrev pub body_of : Line → List ℕ
body_of (Start name) = 40 ∷ name
body_of (End name) = 41 ∷ name
body_of (Attr name value) = 65 ∷ name ++ 32 ∷ escape value
body_of (Text text) = 45 ∷ escape text
body_of (Instruction target value) = 63 ∷ target ++ 32 ∷ escape value
body_of (Comment text) = 67 ∷ escape text
body_of Passed = []

-- the last byte is a carriage return
abbrev pub ends_in_return : List ℕ → Bool
ends_in_return bytes = slice_index bytes (length bytes - 1) == 13

-- one more carriage return where the last byte is one, since a reader drops one
abbrev pub guarded : List ℕ → List ℕ
guarded bytes = if ends_in_return bytes then bytes ++ 13 ∷ [] else bytes

-- the bytes that a line is written as
abbrev pub written : Line → List ℕ
written line = guarded (body_of line) ++ 10 ∷ []
