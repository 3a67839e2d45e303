-- The lines of a source's bytes, and what each is, over the whole list.
use Rattle.std.specs.Prelude.{ℕ, ◌+◌, List, [], ◌∷◌, ◌==◌, nat_lt, nat_le, if◌then◌else◌, length, map, Result, Ok, Err}
use Rattle.std.specs.List.{slice_split}
use Rattle.std.specs.Str.Lines.{strip_carriage_return}
use Rattle.pyx_lines.specs.Spelling.{line_of}
use Rattle.pyx_lines.specs.declared.line.Line.{Line}
use Rattle.pyx_lines.specs.declared.line_error.LineError.{LineError}
use Rattle.pyx_lines.specs.declared.line_error.LineError.TheVariants as error

-- the parts that are lines: what follows the last line feed is one if it isn't empty
abbrev pub without_empty_end : List (List ℕ) → List (List ℕ)
without_empty_end [] = []
without_empty_end (part ∷ []) = if length part == 0 then [] else part ∷ []
without_empty_end (part ∷ next ∷ parts) = part ∷ without_empty_end (next ∷ parts)

-- the bytes cut at each line feed
abbrev pub cut_lines : List ℕ → List (List ℕ)
cut_lines bytes = without_empty_end (slice_split (λ b. b == 10) bytes)

-- the lines, each without one carriage return at its end
abbrev pub lines_of : List ℕ → List (List ℕ)
lines_of bytes = map strip_carriage_return (cut_lines bytes)

-- why a line of a source is refused: its number is 4,294,967,296, it has more than 1,048,576 bytes before its line feed, or why its bytes spell no line
pub data Refusal : Type 0 where
  TooManyLines : Refusal
  LongLine : Refusal
  NotUtf8 : Refusal
  UnknownLine : Refusal
  NoSpace : Refusal
  BadName : Refusal

-- the refusal that a line's error tells; no bytes are refused for want of memory, so the last case never comes
abbrev pub misspelled : LineError → Refusal
misspelled error.NotUtf8 = NotUtf8
misspelled error.UnknownLine = UnknownLine
misspelled error.NoSpace = NoSpace
misspelled error.BadName = BadName
misspelled error.Memory = NotUtf8

abbrev pub or_misspelled : Result Line LineError → Result Line Refusal
or_misspelled (Ok line) = Ok line
or_misspelled (Err error) = Err (misspelled error)

-- what the line of this number is, whose bytes were cut so: an event, or its first refusal
abbrev pub judged : ℕ → List ℕ → Result Line Refusal
judged number cut =
    if nat_le 4294967296 number then Err TooManyLines else
    if nat_lt 1048576 (length cut) then Err LongLine else or_misspelled (line_of (strip_carriage_return cut))

-- what the lines are, the first of this number
abbrev pub judged_from : ℕ → List (List ℕ) → List (Result Line Refusal)
judged_from number [] = []
judged_from number (cut ∷ cuts) = judged number cut ∷ judged_from (number + 1) cuts

-- what the lines of a source are, counted from 1
abbrev pub judged_lines : List ℕ → List (Result Line Refusal)
judged_lines bytes = judged_from 1 (cut_lines bytes)
