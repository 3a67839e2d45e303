-- Flawless lines end no element that is not open. The lines before are given with the latest first.
use Rattle.std.proofs.Common.{◌≡◌, ℕ, zero, suc, ◌+◌, ◌<◌, ◌≤◌, Bool, true, false, cond, List, [], ◌∷◌, Option, Some, None, refl, ap, sym, ◌∙◌, arith}
use Rattle.std.specs.List.{count_by}
use Rattle.std.proofs.lemmas.Bool.{false≢true}
use Rattle.std.proofs.lemmas.List.Sums.{sum_by-cons}
use Rattle.doc_model.specs.declared.flaw.Flaw.{Flaw}
use Rattle.doc_model.specs.declared.flaw.FlawKind.{FlawKind}
use Rattle.doc_model.specs.declared.flaw.FlawKind.TheVariants as kind
use Rattle.doc_model.specs.declared.limits.Limits.{Limits}
use Rattle.pyx_lines.specs.declared.line.Line.{Line}
use Rattle.pyx_lines.specs.declared.line.Line.TheVariants.{Start, End, Attr, Text, Instruction, Comment, Passed}
use Rattle.pyx_events.specs.Before.{is_start, is_end, depth, innermost, completed_start}
use Rattle.pyx_events.specs.Counted.{names_of}
use Rattle.pyx_events.specs.Nodes.{events_to}
use Rattle.pyx_events.specs.Flaw.{is_named, own_flaw, at_line, completed_flaw, line_flaw}
use Rattle.dtm_builder.specs.Lines.{AreFlawless}

-- a line without a flaw has none of its own, and completes no start with one
no_later : (line : ℕ) (first : Option FlawKind) (later : Option Flaw) → at_line line first later ≡ None → (first ≡ None) × (later ≡ None)
no_later line None later h = (refl, h)
no_later line (Some it) later h = absurd (cc)

pub own_good : (limits : Limits) (before : List Line) (line : Line) → line_flaw limits false before line ≡ None → own_flaw limits (names_of false (events_to (line ∷ before))) before line ≡ None
own_good limits before line h = (no_later _ _ _ (no_later _ _ _ h).1).0

pub start_good : (limits : Limits) (before : List Line) (line : Line) → line_flaw limits false before line ≡ None → completed_flaw limits false before (completed_start before line) ≡ None
start_good limits before line h = (no_later _ _ _ h).0

named_is_there : (inner : Option (List ℕ)) (name : List ℕ) → cond (is_named inner name) None (Some kind.WrongEnd) ≡ None → (it : List ℕ) × (inner ≡ Some it)
named_is_there None name h = absurd (cc)
named_is_there (Some it) name h = (it, refl)

one_more : (test : Line → Bool) (line : Line) (before : List Line) → count_by test (line ∷ before) ≡ cond (test line) 1 0 + count_by test before
one_more test line before = sum_by-cons (λ it. cond (test it) 1 0) line before

-- no more ends than starts; and where an element is open past k ends, more starts by k
pub record IsBalanced (before : List Line) : Type 0 where
  pub ends : count_by is_end before ≤ count_by is_start before
  pub inner : (k : ℕ) (name : List ℕ) → innermost k before ≡ Some name → count_by is_end before + k < count_by is_start before

other : (line : Line) (before : List Line) → is_start line ≡ false → is_end line ≡ false → ((k : ℕ) → innermost k (line ∷ before) ≡ innermost k before) → IsBalanced before → IsBalanced (line ∷ before)
other line before s e same b =
    let starts : count_by is_start (line ∷ before) ≡ 0 + count_by is_start before = one_more is_start line before ∙ ap (λ b. cond b 1 0 + count_by is_start before) s in
    let ends : count_by is_end (line ∷ before) ≡ 0 + count_by is_end before = one_more is_end line before ∙ ap (λ b. cond b 1 0 + count_by is_end before) e in
    record {
      ends = omega (arith, starts, ends, b.ends);
      inner = λ k name h. omega (arith, starts, ends, b.inner k name (sym (same k) ∙ h));
    }

start_inner : (name : List ℕ) (before : List Line) → IsBalanced before → (k : ℕ) (it : List ℕ) → innermost k (Start name ∷ before) ≡ Some it
    → count_by is_end (Start name ∷ before) + k < count_by is_start (Start name ∷ before)
start_inner name before b zero it h = omega (arith, b.ends, one_more is_start (Start name) before, one_more is_end (Start name) before)
start_inner name before b (suc k) it h = omega (arith, b.inner k it h, one_more is_start (Start name) before, one_more is_end (Start name) before)

pub balanced : (limits : Limits) (before : List Line) → AreFlawless limits before → IsBalanced before
balanced limits [] f = record { ends = omega arith; inner = λ k name h. absurd (cc) }
balanced limits (Start name ∷ before) f =
    let b = balanced limits before f.1 in
    record {
      ends = omega (arith, b.ends, one_more is_start (Start name) before, one_more is_end (Start name) before);
      inner = start_inner name before b;
    }
balanced limits (End name ∷ before) f =
    let b = balanced limits before f.1 in
    let there = named_is_there (innermost 0 before) name (own_good limits before (End name) f.0) in
    record {
      ends = omega (arith, b.inner 0 there.0 there.1, one_more is_start (End name) before, one_more is_end (End name) before);
      inner = λ k it h. omega (arith, b.inner (suc k) it h, one_more is_start (End name) before, one_more is_end (End name) before);
    }
balanced limits (Attr name value ∷ before) f = other (Attr name value) before refl refl (λ k. refl) (balanced limits before f.1)
balanced limits (Text text ∷ before) f = other (Text text) before refl refl (λ k. refl) (balanced limits before f.1)
balanced limits (Instruction target value ∷ before) f = other (Instruction target value) before refl refl (λ k. refl) (balanced limits before f.1)
balanced limits (Comment text ∷ before) f = other (Comment text) before refl refl (λ k. refl) (balanced limits before f.1)
balanced limits (Passed ∷ before) f = other Passed before refl refl (λ k. refl) (balanced limits before f.1)

-- where an end has no flaw, an element is open
pub open_at_end : (limits : Limits) (before : List Line) (line : Line) → AreFlawless limits before → line_flaw limits false before line ≡ None → is_end line ≡ true → 0 < depth before
open_at_end limits before (Start name) f h e = absurd (false≢true e)
open_at_end limits before (End name) f h e =
    let b = balanced limits before f in
    let there = named_is_there (innermost 0 before) name (own_good limits before (End name) h) in
    omega (arith, b.inner 0 there.0 there.1)
open_at_end limits before (Attr name value) f h e = absurd (false≢true e)
open_at_end limits before (Text text) f h e = absurd (false≢true e)
open_at_end limits before (Instruction target value) f h e = absurd (false≢true e)
open_at_end limits before (Comment text) f h e = absurd (false≢true e)
open_at_end limits before Passed f h e = absurd (false≢true e)
