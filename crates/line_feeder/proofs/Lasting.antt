-- The last feed, as the one at the least line at which a flaw is judged, or at the input's end.
use Rattle.std.proofs.Common.{◌≡◌, ◌+◌, ◌<◌, ◌≤◌, ℕ, zero, suc, List, [], ◌∷◌, ◌++◌, false, Option, Some, None, is_some, if◌then◌else◌, Result, Ok}
use Rattle.std.proofs.Common.{Err, take, length, slice_get, refl, sym, ◌∙◌, ap, arith, add-zero, append_assoc, append-nil}
use Rattle.std.proofs.lemmas.List.{reverse-append}
use Rattle.std.specs.List.{flat_map}
use Rattle.doc_model.specs.declared.limits.Limits.{Limits}
use Rattle.doc_model.specs.declared.flaw.Flaw.{Flaw}
use Rattle.pyx_lines.specs.declared.line.Line.{Line}
use Rattle.pyx_lines.specs.Lines.{Refusal}
use Rattle.pyx_events.specs.Flaw.{line_flaw, kind_of}
use Rattle.pyx_events.specs.Judged.{event_of, events_before, judged, judged_at}
use Rattle.line_feeder.specs.Feeds.{feeds_from, IsLastFeed}

-- the flaw that is judged at line k after those before
abbrev judged_in : Limits → List Line → List (Result Line Refusal) → ℕ → Option Flaw
judged_in limits before lines k = judged limits false (events_before (take k lines) ++ before) (k + length before) (slice_get lines k)

-- the line of the last feed
record LastIn (limits : Limits) (before : List Line) (lines : List (Result Line Refusal)) (feed : ℕ) : Type 0 where
  line : ℕ
  counted : feed ≡ line + 1
  within : line ≤ length lines
  here : line < length lines → (flaw : Flaw) × (judged_in limits before lines line ≡ Some flaw)
  earlier : (k : ℕ) → k < line → judged_in limits before lines k ≡ None

more_before : (before : List Line) (line : Line) (lines : List (Result Line Refusal)) (k : ℕ)
    → events_before (take (suc k) (Ok line ∷ lines)) ++ before ≡ events_before (take k lines) ++ (line ∷ before)
more_before before line lines k =
    let events = flat_map event_of (take k lines) in
    ap (λ (all : List Line). all ++ before) (reverse-append (line ∷ []) events) ∙ append_assoc (events_before (take k lines)) (line ∷ []) before

-- one line further
further : (limits : Limits) (before : List Line) (line : Line) (lines : List (Result Line Refusal)) (k : ℕ)
    → judged_in limits before (Ok line ∷ lines) (suc k) ≡ judged_in limits (line ∷ before) lines k
further limits before line lines k =
    let count : suc k + length before ≡ k + length (line ∷ before) = omega arith in
    ap (λ (all : List Line). judged limits false all (suc k + length before) (slice_get lines k)) (more_before before line lines k)
    ∙ ap (λ (n : ℕ). judged limits false (events_before (take k lines) ++ (line ∷ before)) n (slice_get lines k)) count

none_before : (limits : Limits) (before : List Line) (line : Line) (lines : List (Result Line Refusal)) (bound : ℕ) → line_flaw limits false before line ≡ None
    → ((k : ℕ) → k < bound → judged_in limits (line ∷ before) lines k ≡ None) → (k : ℕ) → k < suc bound → judged_in limits before (Ok line ∷ lines) k ≡ None
none_before limits before line lines bound good later zero below = good
none_before limits before line lines bound good later (suc k) below = further limits before line lines k ∙ later k (omega arith)

by_flaw : (limits : Limits) (before : List Line) (line : Line) (lines : List (Result Line Refusal)) (flaw : Option Flaw) (rest : ℕ) → line_flaw limits false before line ≡ flaw
    → LastIn limits (line ∷ before) lines rest → LastIn limits before (Ok line ∷ lines) (if is_some flaw then 1 else rest + 1)
by_flaw limits before line lines (Some flaw) rest is later = record { line = 0; counted = refl; within = omega arith; here = λ _. (flaw, is); earlier = λ k below. absurd (omega arith) }
by_flaw limits before line lines None rest is later = record {
  line = suc later.line;
  counted = omega (arith, later.counted);
  within = omega (arith, later.within);
  here = λ below. let it = later.here (omega arith) in (it.0, further limits before line lines later.line ∙ it.1);
  earlier = none_before limits before line lines later.line is later.earlier;
}

last_in : (limits : Limits) (lines : List (Result Line Refusal)) (before : List Line) → LastIn limits before lines (feeds_from limits before lines)
last_in limits [] before = record { line = 0; counted = refl; within = omega arith; here = λ below. absurd (omega arith); earlier = λ k below. absurd (omega arith) }
last_in limits (Err refusal ∷ lines) before = record {
  line = 0;
  counted = refl;
  within = omega arith;
  here = λ _. (record { line = 0 + length before + 1; kind = kind_of refusal }, refl);
  earlier = λ k below. absurd (omega arith);
}
last_in limits (Ok line ∷ lines) before = by_flaw limits before line lines (line_flaw limits false before line) (feeds_from limits (line ∷ before) lines) refl (last_in limits lines (line ∷ before))

from_start : (limits : Limits) (lines : List (Result Line Refusal)) (k : ℕ) → judged_at limits false lines k ≡ judged_in limits [] lines k
from_start limits lines k =
    ap (λ (all : List Line). judged limits false all k (slice_get lines k)) (sym (append-nil (events_before (take k lines))))
    ∙ ap (λ (n : ℕ). judged limits false (events_before (take k lines) ++ []) n (slice_get lines k)) (sym (add-zero k))

pub last_feed : (limits : Limits) (lines : List (Result Line Refusal)) → IsLastFeed limits lines (feeds_from limits [] lines)
last_feed limits lines =
    let last = last_in limits lines [] in
    record {
      line = last.line;
      counted = last.counted;
      within = last.within;
      here = λ below. let it = last.here below in (it.0, from_start limits lines last.line ∙ it.1);
      earlier = λ k below. from_start limits lines k ∙ last.earlier k below;
    }
