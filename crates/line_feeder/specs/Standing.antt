-- When a feeder stands for the lines that it was fed, for the table that it fills, and for what is left of its source.
use Rattle.std.specs.Prelude.{◌≡◌, ℕ, ◌≤◌, List, [], ◌++◌, Bool, false, IsTrue, count_by, length, Option, Some, None, ⊤}
use Rattle.std.specs.Io.KnownBytes.{IsAtEnd}
use Rattle.doc_model.specs.declared.limits.Limits.{Limits}
use Rattle.doc_model.specs.Cells.{Cells}
use Rattle.pyx_lines.specs.declared.line.Line.{Line}
use Rattle.pyx_lines.specs.Lines.{judged_lines}
use Rattle.pyx_source.specs.Reading.{Reading, ahead_of}
use Rattle.pyx_events.specs.Judged.{in_source}
use Rattle.dtm_builder.specs.Standing as building
use Rattle.line_feeder.specs.Reads.{is_feed, HasReadFor}
use Rattle.line_feeder.specs.declared.fed.Fed.{Fed}
use Rattle.line_feeder.specs.declared.feeder.Feeder.{Feeder}

-- the answer that it gives for good, if there is one
abbrev pub answer_of : Feeder → Option Fed
answer_of feeder = feeder.answer

-- how many lines its reader has given or refused
abbrev pub lines_read : Feeder → ℕ
lines_read feeder = feeder.reader.line

-- the bytes that were read and are in no line yet
abbrev pub held_by : Feeder → List ℕ
held_by feeder = feeder.reader.held

-- whether the source's end was met
abbrev pub met_end : Feeder → Bool
met_end feeder = feeder.reader.ended

-- so many lines were given, and none is refused; at the source's end nothing is held
pub record HasGiven (reading : Reading) (count : ℕ) : Type 0 where
  pub going : reading.refused ≡ None
  pub counted : reading.line ≡ count
  pub few : count ≤ 4294967295
  pub over : IsTrue reading.ended → reading.held ≡ []

-- the lines of these bytes are those given, the latest first, and those ahead; unless the source's end was met, so many line feeds were taken from its front
pub record IsCutSo (reading : Reading) (bytes left : List ℕ) (lines : List Line) : Type 0 where
  pub rest : judged_lines bytes ≡ in_source lines ++ ahead_of reading left
  pub taken : reading.ended ≡ false → (front : List ℕ) × (count_by is_feed front ≡ length lines) × (bytes ≡ front ++ (reading.held ++ left))

-- the same where the source told its bytes at first and tells what is left
abbrev pub HasRead : Reading → Option (List ℕ) → Option (List ℕ) → List Line → Type 0
HasRead reading None left lines = ⊤
HasRead reading (Some bytes) None lines = ⊥
HasRead reading (Some bytes) (Some left) lines = IsCutSo reading bytes left lines

-- these lines were fed into the table, the latest first, of which none has a flaw: the table's steps are theirs
pub record HasFilled (feeder : Feeder) (limits : Limits) (cells : Cells) (lines : List Line) : Type 0 where
  pub built : building.Stands feeder.builder limits cells lines
  pub given : HasGiven feeder.reader (length lines)

-- unless an answer was given for good, it has filled the table with some lines
abbrev pub CanFeed : Feeder → Limits → Cells → Type 0
CanFeed feeder limits cells = feeder.answer ≡ None → (lines : List Line) × HasFilled feeder limits cells lines

-- no answer was given for good, and these lines were fed into the table. The source told these bytes at first, if it tells any, has these left, and was read for these lines alone
pub record HasBeenFed (feeder : Feeder) (limits : Limits) (cells : Cells) (told left : Option (List ℕ)) (lines : List Line) : Type 0 where
  pub going : feeder.answer ≡ None
  pub filled : HasFilled feeder limits cells lines
  pub end : IsTrue feeder.reader.ended → IsAtEnd left
  pub read : HasRead feeder.reader told left lines
  pub asked : HasReadFor told left (length lines)
