-- The flaw that is judged at each line of a source by itself, whatever came of the lines before.
use Rattle.std.specs.Prelude.{◌≡◌, ℕ, ◌+◌, ◌<◌, ◌≤◌, ⊤, List, [], ◌∷◌, Bool, length, map, take, reverse, slice_get, Option, Some, None, Result, Ok, Err}
use Rattle.std.specs.List.{flat_map}
use Rattle.doc_model.specs.declared.limits.Limits.{Limits}
use Rattle.doc_model.specs.declared.flaw.Flaw.{Flaw}
use Rattle.pyx_lines.specs.declared.line.Line.{Line}
use Rattle.pyx_lines.specs.Lines.{Refusal}
use Rattle.pyx_events.specs.Flaw.{line_flaw, end_flaw, kind_of}

abbrev pub event_of : Result Line Refusal → List Line
event_of (Ok line) = line ∷ []
event_of (Err refusal) = []

-- the events among these lines, the latest first
abbrev pub events_before : List (Result Line Refusal) → List Line
events_before lines = reverse (flat_map event_of lines)

-- the flaw that is judged at a line after so many, or at the input's end
abbrev pub judged : Limits → Bool → List Line → ℕ → Option (Result Line Refusal) → Option Flaw
judged limits free before count None = end_flaw limits free before
judged limits free before count (Some (Ok line)) = line_flaw limits free before line
judged limits free before count (Some (Err refusal)) = Some (record { line = count + 1; kind = kind_of refusal })

-- the flaw that is judged at line k, counted from 0; the input's end counts as a line after the last
abbrev pub judged_at : Limits → Bool → List (Result Line Refusal) → ℕ → Option Flaw
judged_at limits free lines k = judged limits free (events_before (take k lines)) k (slice_get lines k)

-- the flaw is judged at the least line at which one is
pub record IsLeast (limits : Limits) (free : Bool) (lines : List (Result Line Refusal)) (flaw : Flaw) : Type 0 where
  pub line : ℕ
  pub within : line ≤ length lines
  pub here : judged_at limits free lines line ≡ Some flaw
  pub earlier : (k : ℕ) → k < line → judged_at limits free lines k ≡ None

-- a flaw is judged at no line
abbrev pub IsGood : Limits → Bool → List (Result Line Refusal) → Type 0
IsGood limits free lines = (k : ℕ) → k ≤ length lines → judged_at limits free lines k ≡ None

-- what holds of the first flaw, if there is one
abbrev pub IsFirst : Limits → Bool → List (Result Line Refusal) → Option Flaw → Type 0
IsFirst limits free lines None = IsGood limits free lines
IsFirst limits free lines (Some flaw) = IsLeast limits free lines flaw

-- none of these lines, given with the latest first, has a flaw after those before it
abbrev pub AreFlawless : Limits → Bool → List Line → Type 0
AreFlawless limits free [] = ⊤
AreFlawless limits free (line ∷ before) = (line_flaw limits free before line ≡ None) × AreFlawless limits free before

-- the lines in the order of their source, in which none of them is refused
abbrev pub in_source : List Line → List (Result Line Refusal)
in_source before = map (λ line. Ok line) (reverse before)

-- a source of these lines has no flaw: each of them is a line without one, and so is the input's end
pub record IsFlawless (limits : Limits) (free : Bool) (lines : List (Result Line Refusal)) : Type 0 where
  pub before : List Line
  pub all : lines ≡ in_source before
  pub lines_good : AreFlawless limits free before
  pub end_good : end_flaw limits free before ≡ None
