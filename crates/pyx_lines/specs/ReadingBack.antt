-- Written lines that are read as what was written, up to the limits on lines.
use Rattle.std.specs.Prelude.{◌⊎◌, ◌≡◌, List, [], ◌∷◌, Result, Ok, Err}
use Rattle.pyx_lines.specs.Lines.{Refusal, TooManyLines, LongLine}
use Rattle.pyx_lines.specs.Writing.{CanBeWritten}
use Rattle.pyx_lines.specs.declared.line.Line.{Line}

-- each of the lines can be written
abbrev pub AllWritable : List Line → Type 0
AllWritable [] = Unit {0}
AllWritable (line ∷ lines) = CanBeWritten line × AllWritable lines

abbrev pub IsLimit : Refusal → Type 0
IsLimit refusal = (refusal ≡ TooManyLines) ⊎ (refusal ≡ LongLine)

-- each line is read as it was written, or is refused by a limit on lines
pub data Reads : List Line → List (Result Line Refusal) → Type 0 where
  reads_none : Reads [] []
  reads_one : (line : Line) (lines : List Line) (results : List (Result Line Refusal)) → Reads lines results → Reads (line ∷ lines) (Ok line ∷ results)
  refuses_one : (line : Line) (refusal : Refusal) (lines : List Line) (results : List (Result Line Refusal)) → IsLimit refusal → Reads lines results →
      Reads (line ∷ lines) (Err refusal ∷ results)
