-- The lines that a builder takes. The lines before are given with the latest first.
use Rattle.std.specs.Prelude.{ℕ, List, [], ◌∷◌, false, is_none, if◌then◌else◌, ⊤, length}
use Rattle.doc_model.specs.declared.limits.Limits.{Limits}
use Rattle.doc_model.specs.declared.step.Step.{Step}
use Rattle.pyx_lines.specs.declared.line.Line.{Line}
use Rattle.pyx_lines.specs.declared.line.Line.TheVariants.{Start, End, Attr, Text, Instruction, Comment, Passed}
use Rattle.pyx_lines.specs.Writing.{CanBeWritten}
use Rattle.pyx_events.specs.Flaw.{line_flaw}
use Rattle.pyx_events.specs.Judged as judged
use Rattle.pyx_events.specs.Nodes.{line_events}
use Rattle.pyx_events.specs.Steps.{steps_of_events}

-- a line as it is read: its name is a name, its target an NCName, and all of it is UTF-8
abbrev pub IsReadable : Line → Type 0
IsReadable (Start name) = CanBeWritten (Start name)
IsReadable (End name) = CanBeWritten (End name)
IsReadable (Attr name value) = CanBeWritten (Attr name value)
IsReadable (Text text) = CanBeWritten (Text text)
IsReadable (Instruction target value) = CanBeWritten (Instruction target value)
IsReadable (Comment text) = CanBeWritten (Comment text)
IsReadable Passed = ⊤

abbrev pub AreReadable : List Line → Type 0
AreReadable [] = ⊤
AreReadable (line ∷ before) = IsReadable line × AreReadable before

-- none of these lines has a flaw after those before it, names and their bytes counted
abbrev pub AreFlawless : Limits → List Line → Type 0
AreFlawless limits before = judged.AreFlawless limits false before

-- the steps of a line: none where a flaw is judged at it
abbrev pub line_steps : Limits → List Line → Line → List Step
line_steps limits before line = if is_none (line_flaw limits false before line) then steps_of_events (line_events before line) else []

-- the bytes of a text line's data
abbrev pub data_length : Line → ℕ
data_length (Start name) = 0
data_length (End name) = 0
data_length (Attr name value) = 0
data_length (Text text) = length text
data_length (Instruction target value) = 0
data_length (Comment text) = 0
data_length Passed = 0
