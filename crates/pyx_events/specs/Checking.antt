-- What a checker stands at.
use Rattle.std.specs.Prelude.{◌≡◌, ℕ, List, Option, Some, None}
use Rattle.doc_model.specs.declared.limits.Limits.{Limits}
use Rattle.pyx_lines.specs.declared.line.Line.{Line}
use Rattle.pyx_events.specs.declared.halt.Halt.{Halt}
use Rattle.pyx_events.specs.declared.progress.Progress.{Progress}
use Rattle.pyx_events.specs.Taken.{HasTaken, CanTake}

-- what is kept of the lines that have been taken, and why no more are taken
pub record Checking : Type 0 where
  pub progress : Progress
  pub halt : Option Halt

-- the checker has these limits, has taken these lines, the latest first, and goes on
pub record Stands (limits : Limits) (checker : Checking) (before : List Line) : Type 0 where
  pub going : checker.halt ≡ None
  pub taken : HasTaken limits checker.progress before

-- no more lines are taken, for this reason
abbrev pub IsHalted : Checking → Halt → Type 0
IsHalted checker halt = checker.halt ≡ Some halt

-- fewer lines than so many have been taken, unless no more are taken
abbrev pub HasRoom : ℕ → Checking → Type 0
HasRoom count checker = checker.halt ≡ None → CanTake count checker.progress
