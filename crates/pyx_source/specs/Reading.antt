-- What a reader of lines is, as a value, and what a call does to it and to its source.
use Rattle.std.specs.Prelude.{◌≡◌, ◌≤◌, ℕ, ◌+◌, List, [], ◌∷◌, ◌++◌, Bool, false, IsTrue, ⊤, take, drop, Option, Some, None, Result, Ok, Err}
use Rattle.pyx_lines.specs.declared.line.Line.{Line}
use Rattle.pyx_lines.specs.declared.line.Line.TheVariants.{Start, End, Attr, Text, Instruction, Comment, Passed}
use Rattle.pyx_lines.specs.Lines.{cut_lines, judged, judged_from, Refusal, TooManyLines, LongLine, misspelled}
use Rattle.pyx_lines.specs.Spelling.{line_of}
use Rattle.pyx_source.specs.Feeds.{HoldsNoFeed}
use Rattle.pyx_source.specs.declared.read_error.ReadError.{ReadError}
use Rattle.pyx_source.specs.declared.read_error.ReadError.TheVariants as error
use Rattle.pyx_lines.specs.declared.line_error.LineError.{LineError}
use Rattle.pyx_lines.specs.declared.line_error.LineError.TheVariants.{NotUtf8, UnknownLine, NoSpace, BadName, Memory}

-- the bytes read and not yet given, the number of the last line that was given or refused, how many lines were passed over, whether the source's end was met, and the refusal that was given
pub record Reading : Type 0 where
  pub held : List ℕ
  pub line : ℕ
  pub passed : ℕ
  pub ended : Bool
  pub refused : Option ReadError

-- before the first call
abbrev pub fresh : Reading
fresh = record { held = []; line = 0; passed = 0; ended = false; refused = None }

-- what the lines are that weren't given yet, where the source has these bytes left
abbrev pub ahead_of : Reading → List ℕ → List (Result Line Refusal)
ahead_of reading left = judged_from (reading.line + 1) (cut_lines (reading.held ++ left))

-- the next line was given, or none, where nothing was held and nothing is left
abbrev pub GivesNext : Reading → Option (List ℕ) → Option Line → Reading → Option (List ℕ) → Type 0
GivesNext old None given new left' = ⊤
GivesNext old (Some left) given new None = ⊥
GivesNext old (Some left) None new (Some left') = (old.held ++ left ≡ []) × (new.held ++ left' ≡ [])
GivesNext old (Some left) (Some line) new (Some left') = ahead_of old left ≡ Ok line ∷ ahead_of new left'

-- unless the source's end was met, what was held and left has lost the bytes of a line and its line feed
abbrev pub TakesNext : Reading → Option (List ℕ) → Option Line → Reading → Option (List ℕ) → Type 0
TakesNext old None given new left' = ⊤
TakesNext old (Some left) given new None = ⊥
TakesNext old (Some left) None new (Some left') = ⊤
TakesNext old (Some left) (Some line) new (Some left') = new.ended ≡ false → (cut : List ℕ) × HoldsNoFeed cut × (old.held ++ left ≡ cut ++ 10 ∷ (new.held ++ left'))

-- some bytes spell the line
abbrev pub IsSpelled : Line → Type 0
IsSpelled line = (bytes : List ℕ) × (line_of bytes ≡ Ok line)

-- the next line is refused so
abbrev pub RefusesNext : Reading → Option (List ℕ) → Refusal → Type 0
RefusesNext old None refusal = ⊤
RefusesNext old (Some left) refusal = (later : List (Result Line Refusal)) × (ahead_of old left ≡ Err refusal ∷ later)

-- the refusal of a line that an error tells
abbrev pub refusal_of : ReadError → Option Refusal
refusal_of error.Failed = None
refusal_of error.LongLine = Some LongLine
refusal_of error.TooManyLines = Some TooManyLines
refusal_of (error.Line cause) = Some (misspelled cause)
refusal_of error.Memory = None

-- a line passed over counts
abbrev pub passed_by : Line → ℕ
passed_by (Start name) = 0
passed_by (End name) = 0
passed_by (Attr name value) = 0
passed_by (Text text) = 0
passed_by (Instruction target value) = 0
passed_by (Comment text) = 0
passed_by Passed = 1

-- the error that tells why a line's bytes spell none
abbrev pub error_for : LineError → ReadError
error_for NotUtf8 = error.Line NotUtf8
error_for UnknownLine = error.Line UnknownLine
error_for NoSpace = error.Line NoSpace
error_for BadName = error.Line BadName
error_for Memory = error.Memory

-- an error that refuses a line counts it
abbrev pub lines_by : ReadError → ℕ
lines_by error.Failed = 0
lines_by error.LongLine = 1
lines_by error.TooManyLines = 1
lines_by (error.Line cause) = 1
lines_by error.Memory = 0

-- after the line of the first `at` bytes held was given, and one more byte taken
abbrev pub after_line : Reading → ℕ → Line → Bool → Reading
after_line old at line ended = record {
  held = drop (at + 1) old.held;
  line = old.line + 1;
  passed = old.passed + passed_by line;
  ended = ended;
  refused = None;
}

abbrev pub after_refusal : Reading → ReadError → Reading
after_refusal old refusal = record old { line = old.line + lines_by refusal; refused = Some refusal }

-- the first `at` bytes held were given as a line
abbrev pub GivesLine : Reading → ℕ → Bool → Option Line → Reading → Type 0
GivesLine old at ended None new = ⊥
GivesLine old at ended (Some line) new = (judged (old.line + 1) (take at old.held) ≡ Ok line) × (new ≡ after_line old at line ended)

-- a line that is given counts, and is none too many; with none the source's end was met
abbrev pub CountsNext : Reading → Option Line → Reading → Type 0
CountsNext old None new = (new.line ≡ old.line) × (new.passed ≡ old.passed) × IsTrue new.ended × (new.refused ≡ None)
CountsNext old (Some line) new = (new.line ≡ old.line + 1) × (new.passed ≡ old.passed + passed_by line) × (new.line ≤ 4294967295) × (new.refused ≡ None)

-- a refusal is kept, and counts if it is of a line
pub record CountsRefusal (old : Reading) (cause : ReadError) (new : Reading) : Type 0 where
  pub kept : new.refused ≡ Some cause
  pub line : new.line ≡ old.line + lines_by cause
  pub passed : new.passed ≡ old.passed

-- what every reader is
pub record IsSound (reading : Reading) : Type 0 where
  pub counted : reading.passed ≤ reading.line
  pub bound : reading.line ≤ 4294967296
  pub few : reading.refused ≡ None → reading.line ≤ 4294967295
  pub over : IsTrue reading.ended → reading.held ≡ []
  pub spelled : reading.refused ≡ Some (error.Line Memory) → ⊥
