-- What is to come of the lines that haven't been taken.
use Rattle.std.specs.Prelude.{◌≡◌, ℕ, ◌≤◌, List, [], ◌∷◌, ◌++◌, true, IsTrue, length, Option, Some, None, Result}
use Rattle.doc_model.specs.declared.flaw.Flaw.{Flaw}
use Rattle.pyx_lines.specs.declared.line.Line.{Line}
use Rattle.pyx_lines.specs.Lines.{Refusal}
use Rattle.pyx_source.specs.Reading.{Reading, ahead_of}
use Rattle.pyx_events.specs.declared.event.Event.{Event}
use Rattle.pyx_events.specs.Checking.{Checking, Stands}
use Rattle.pyx_events.specs.Flaw.{flaw_from, line_flaw}
use Rattle.pyx_events.specs.Nodes.{line_events}
use Rattle.sheet_source.specs.declared.building.Building.{Building}
use Rattle.sheet_source.specs.declared.error.SourceStop.{SourceStop}
use Rattle.sheet_source.specs.declared.error.SourceStop.TheVariants.{Flawed, Memory}
use Rattle.sheet_source.specs.declared.tree.Document.{Document}
use Rattle.sheet_source.specs.Building.{completed}
use Rattle.sheet_source.specs.Nodes.{events_from, sheet_limits, source_of, unless_flawed}

-- what these lines make after those before
abbrev pub rest_of : Building → List Line → List (Result Line Refusal) → Result Document Flaw
rest_of building before lines = unless_flawed (flaw_from sheet_limits true before lines) (completed building (events_from before lines))

-- the flaw of an answer, where it is no want of memory
abbrev pub flaw_in : SourceStop → Option Flaw
flaw_in (Flawed flaw) = Some flaw
flaw_in Memory = None

-- a line was taken after those before
pub record TakesLine (checker : Checking) (old new : Building) (before : List Line) (line : Line) : Type 0 where
  pub flawless : line_flaw sheet_limits true before line ≡ None
  pub stands : Stands sheet_limits checker (line ∷ before)
  pub taken : (later : List Event) → completed new later ≡ completed old (line_events before line ++ later)

-- these lines were taken, the latest first, and the lines that are left give the rest
pub record Carries (bytes : List ℕ) (reading : Reading) (left : List ℕ) (checker : Checking) (building : Building) : Type 0 where
  pub before : List Line
  pub going : reading.refused ≡ None
  pub counted : reading.line ≡ length before
  pub few : reading.line ≤ 4294967295
  pub over : IsTrue reading.ended → (reading.held ≡ []) × (left ≡ [])
  pub stands : Stands sheet_limits checker before
  pub rest : source_of bytes ≡ rest_of building before (ahead_of reading left)
