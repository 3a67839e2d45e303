-- The lines that have been taken, with what is pending after them.
use Rattle.std.specs.Prelude.{◌≡◌, ℕ, ◌<◌, List, length, None, if◌then◌else◌}
use Rattle.doc_model.specs.declared.limits.Limits.{Limits}
use Rattle.pyx_lines.specs.declared.line.Line.{Line}
use Rattle.pyx_events.specs.declared.progress.Progress.{Progress}
use Rattle.pyx_events.specs.Before.{completes, pending_start, pending_text}
use Rattle.pyx_events.specs.Counted.{free_names}
use Rattle.pyx_events.specs.Flaw.{own_flaw}
use Rattle.pyx_events.specs.Standing.{IsNested}

-- what is kept is what these lines make
pub record HasTaken (given : Limits) (progress : Progress) (before : List Line) : Type 0 where
  pub nested : IsNested given progress.nesting before
  pub pending : progress.pending ≡ pending_start before
  pub text : progress.text ≡ pending_text before

-- the same, but for the start that the next line completes, which has been taken out
pub record IsReady (given : Limits) (progress : Progress) (before : List Line) (line : Line) : Type 0 where
  pub nested : IsNested given progress.nesting before
  pub pending : progress.pending ≡ (if completes line then None else pending_start before)
  pub text : progress.text ≡ pending_text before

-- fewer lines than so many have been taken
abbrev pub CanTake : ℕ → Progress → Type 0
CanTake count progress = (before : List Line) × HasTaken progress.nesting.limits progress before × (length before < count)

-- the next line has no flaw of its own
abbrev pub MayTake : Progress → Line → Type 0
MayTake progress line = (before : List Line) × IsReady progress.nesting.limits progress before line × (own_flaw progress.nesting.limits free_names before line ≡ None) × (length before < 4294967295)
