-- The first flaw, as the flaw at the least line at which one is judged.
use Rattle.std.proofs.Common.{◌≡◌, ◌+◌, ◌<◌, ◌≤◌, ℕ, zero, suc, List, [], ◌∷◌, ◌++◌, Bool, Option, Some, None, Result, Ok, Err, take, length}
use Rattle.std.proofs.Common.{slice_get, refl, sym, ◌∙◌, ap, subst, arith, zero-add, add-zero, append_assoc}
use Rattle.std.proofs.lemmas.List.{reverse-append, append-nil}
use Rattle.std.specs.List.{flat_map}
use Rattle.doc_model.specs.declared.limits.Limits.{Limits}
use Rattle.doc_model.specs.declared.flaw.Flaw.{Flaw}
use Rattle.pyx_lines.specs.declared.line.Line.{Line}
use Rattle.pyx_lines.specs.Lines.{Refusal}
use Rattle.pyx_events.specs.Flaw.{line_flaw, end_flaw, flaw_from, or_flaw}
use Rattle.pyx_events.specs.Judged.{event_of, events_before, judged, judged_at, IsFirst}

-- the flaw that is judged at line k after those before
abbrev judged_in : Limits → Bool → List Line → List (Result Line Refusal) → ℕ → Option Flaw
judged_in limits free before lines k = judged limits free (events_before (take k lines) ++ before) (k + length before) (slice_get lines k)

record LeastIn (limits : Limits) (free : Bool) (before : List Line) (lines : List (Result Line Refusal)) (flaw : Flaw) : Type 0 where
  line : ℕ
  within : line ≤ length lines
  here : judged_in limits free before lines line ≡ Some flaw
  earlier : (k : ℕ) → k < line → judged_in limits free before lines k ≡ None

abbrev FirstIn : Limits → Bool → List Line → List (Result Line Refusal) → Option Flaw → Type 0
FirstIn limits free before lines None = (k : ℕ) → k ≤ length lines → judged_in limits free before lines k ≡ None
FirstIn limits free before lines (Some flaw) = LeastIn limits free before lines flaw

more_before : (before : List Line) (line : Line) (lines : List (Result Line Refusal)) (k : ℕ)
    → events_before (take (suc k) (Ok line ∷ lines)) ++ before ≡ events_before (take k lines) ++ (line ∷ before)
more_before before line lines k =
    let events = flat_map event_of (take k lines) in
    ap (λ (all : List Line). all ++ before) (reverse-append (line ∷ []) events) ∙ append_assoc (events_before (take k lines)) (line ∷ []) before

-- one line further
further : (limits : Limits) (free : Bool) (before : List Line) (line : Line) (lines : List (Result Line Refusal)) (k : ℕ)
    → judged_in limits free before (Ok line ∷ lines) (suc k) ≡ judged_in limits free (line ∷ before) lines k
further limits free before line lines k =
    let count : suc k + length before ≡ k + length (line ∷ before) = omega arith in
    ap (λ (all : List Line). judged limits free all (suc k + length before) (slice_get lines k)) (more_before before line lines k)
    ∙ ap (λ (n : ℕ). judged limits free (events_before (take k lines) ++ (line ∷ before)) n (slice_get lines k)) count

none_from : (limits : Limits) (free : Bool) (before : List Line) (line : Line) (lines : List (Result Line Refusal)) (bound : ℕ) → line_flaw limits free before line ≡ None
    → ((k : ℕ) → k < bound → judged_in limits free (line ∷ before) lines k ≡ None) → (k : ℕ) → k < suc bound → judged_in limits free before (Ok line ∷ lines) k ≡ None
none_from limits free before line lines bound good later zero below = good
none_from limits free before line lines bound good later (suc k) below = further limits free before line lines k ∙ later k (omega arith)

prepended : (limits : Limits) (free : Bool) (before : List Line) (line : Line) (lines : List (Result Line Refusal)) (found : Option Flaw) → line_flaw limits free before line ≡ None
    → FirstIn limits free (line ∷ before) lines found → FirstIn limits free before (Ok line ∷ lines) found
prepended limits free before line lines None good all = λ k within. none_from limits free before line lines (suc (length lines)) good (λ j below. all j (omega arith)) k (omega arith)
prepended limits free before line lines (Some flaw) good least = record {
  line = suc least.line;
  within = omega (arith, least.within);
  here = further limits free before line lines least.line ∙ least.here;
  earlier = none_from limits free before line lines least.line good least.earlier;
}

with_head : (limits : Limits) (free : Bool) (before : List Line) (line : Line) (lines : List (Result Line Refusal)) (head found : Option Flaw) → line_flaw limits free before line ≡ head
    → FirstIn limits free (line ∷ before) lines found → FirstIn limits free before (Ok line ∷ lines) (or_flaw head found)
with_head limits free before line lines None found is later = prepended limits free before line lines found is later
with_head limits free before line lines (Some flaw) found is later = record { line = 0; within = omega arith; here = is; earlier = λ k below. absurd (omega arith) }

at_end : (limits : Limits) (free : Bool) (before : List Line) (found : Option Flaw) → end_flaw limits free before ≡ found → FirstIn limits free before [] found
at_end limits free before None is = λ k within. let first : 0 ≡ k = omega arith in subst (λ (n : ℕ). judged_in limits free before [] n ≡ None) first is
at_end limits free before (Some flaw) is = record { line = 0; within = omega arith; here = is; earlier = λ k below. absurd (omega arith) }

first_in : (limits : Limits) (free : Bool) (lines : List (Result Line Refusal)) (before : List Line) → FirstIn limits free before lines (flaw_from limits free before lines)
first_in limits free [] before = at_end limits free before (end_flaw limits free before) refl
first_in limits free (Err refusal ∷ lines) before =
    record { line = 0; within = omega arith; here = rw (zero-add (length before)) refl; earlier = λ k below. absurd (omega arith) }
first_in limits free (Ok line ∷ lines) before =
    with_head limits free before line lines (line_flaw limits free before line) (flaw_from limits free (line ∷ before) lines) refl (first_in limits free lines (line ∷ before))

from_start : (limits : Limits) (free : Bool) (lines : List (Result Line Refusal)) (k : ℕ) → judged_at limits free lines k ≡ judged_in limits free [] lines k
from_start limits free lines k =
    ap (λ (all : List Line). judged limits free all k (slice_get lines k)) (sym (append-nil (events_before (take k lines))))
    ∙ ap (λ (n : ℕ). judged limits free (events_before (take k lines) ++ []) n (slice_get lines k)) (sym (add-zero k))

at_start : (limits : Limits) (free : Bool) (lines : List (Result Line Refusal)) (found : Option Flaw) → FirstIn limits free [] lines found → IsFirst limits free lines found
at_start limits free lines None all = λ k within. from_start limits free lines k ∙ all k within
at_start limits free lines (Some flaw) least = record {
  line = least.line;
  within = least.within;
  here = from_start limits free lines least.line ∙ least.here;
  earlier = λ k below. from_start limits free lines k ∙ least.earlier k below;
}

pub least : (limits : Limits) (free : Bool) (lines : List (Result Line Refusal)) → IsFirst limits free lines (flaw_from limits free [] lines)
least limits free lines = at_start limits free lines (flaw_from limits free [] lines) (first_in limits free lines [])
