-- Which feed of a source finds its end or its first flaw, counted from 1.
use Rattle.std.specs.Prelude.{◌≡◌, ℕ, ◌+◌, ◌<◌, ◌≤◌, List, [], ◌∷◌, false, if◌then◌else◌, length, Some, None, is_some, Result, Ok, Err}
use Rattle.doc_model.specs.declared.limits.Limits.{Limits}
use Rattle.doc_model.specs.declared.flaw.Flaw.{Flaw}
use Rattle.pyx_lines.specs.declared.line.Line.{Line}
use Rattle.pyx_lines.specs.Lines.{Refusal, judged_lines}
use Rattle.pyx_events.specs.Flaw.{line_flaw}
use Rattle.pyx_events.specs.Judged.{judged_at}

-- how many feeds these lines take, the lines before given with the latest first: one for each line before the first with a flaw, and one more
abbrev pub feeds_from : Limits → List Line → List (Result Line Refusal) → ℕ
feeds_from limits before [] = 1
feeds_from limits before (Err refusal ∷ lines) = 1
feeds_from limits before (Ok line ∷ lines) = if is_some (line_flaw limits false before line) then 1 else feeds_from limits (line ∷ before) lines + 1

-- how many feeds a source of these bytes takes
abbrev pub feeds_of : Limits → List ℕ → ℕ
feeds_of limits bytes = feeds_from limits [] (judged_lines bytes)

-- this feed is the last of these lines: a flaw is judged at its line, or it has none, and no flaw is judged at a line before
pub record IsLastFeed (limits : Limits) (lines : List (Result Line Refusal)) (feed : ℕ) : Type 0 where
  pub line : ℕ
  pub counted : feed ≡ line + 1
  pub within : line ≤ length lines
  pub here : line < length lines → (flaw : Flaw) × (judged_at limits false lines line ≡ Some flaw)
  pub earlier : (k : ℕ) → k < line → judged_at limits false lines k ≡ None
