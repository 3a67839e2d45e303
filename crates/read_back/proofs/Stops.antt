-- The flaw of lines that are read as they were written comes of the lines alone.
use Rattle.std.proofs.Common.{◌≡◌, List, [], ◌∷◌, ◌++◌, true, false, Option, Some, None, Result, inl, inr, refl, sym, ap, append_assoc}
use Rattle.doc_model.specs.declared.row.Row.{Row}
use Rattle.doc_model.specs.declared.limits.Limits.{Limits}
use Rattle.doc_model.specs.declared.flaw.Flaw.{Flaw}
use Rattle.doc_model.specs.declared.step.Step.{Step}
use Rattle.doc_model.specs.declared.step.Step.TheVariants as step
use Rattle.doc_model.specs.declared.step.Verdict.TheVariants.{Good}
use Rattle.doc_model.specs.Rows.{rows_given}
use Rattle.pyx_lines.specs.declared.line.Line.{Line}
use Rattle.pyx_lines.specs.Lines.{Refusal}
use Rattle.pyx_events.specs.declared.event.Event.{Event}
use Rattle.pyx_events.specs.declared.event.Event.TheVariants.{Node, Shut}
use Rattle.pyx_events.specs.Flaw.{line_flaw, end_flaw, flaw_from, or_flaw, kind_of}
use Rattle.pyx_events.specs.Nodes.{line_events, node_rows}
use Rattle.pyx_events.specs.Steps.{steps_from, steps_of_events, step_of}
use Rattle.read_back.specs.Flaws.{flaw_may_come, may_come}
use Rattle.pyx_lines.specs.ReadingBack.{Reads, reads_none, reads_one, refuses_one, IsLimit}

-- at each of these lines and at the end after them, a flaw may come or there is none
abbrev pub GoesWell : Limits → List Line → List Line → Type 0
GoesWell limits before [] = flaw_may_come (end_flaw limits false before) ≡ true
GoesWell limits before (line ∷ lines) = (flaw_may_come (line_flaw limits false before line) ≡ true) × GoesWell limits (line ∷ before) lines

limit_may : (refusal : Refusal) → IsLimit refusal → may_come (kind_of refusal) ≡ true
limit_may refusal (inl same) = ap (λ (refusal : Refusal). may_come (kind_of refusal)) same
limit_may refusal (inr same) = ap (λ (refusal : Refusal). may_come (kind_of refusal)) same

or_may : (first later : Option Flaw) → flaw_may_come first ≡ true → flaw_may_come later ≡ true → flaw_may_come (or_flaw first later) ≡ true
or_may None later one two = two
or_may (Some flaw) later one two = one

pub flaw_well : (limits : Limits) (before lines : List Line) (results : List (Result Line Refusal)) → Reads lines results → GoesWell limits before lines
    → flaw_may_come (flaw_from limits false before results) ≡ true
flaw_well limits before _ _ reads_none well = well
flaw_well limits before _ _ (reads_one line lines results rest) well =
    or_may (line_flaw limits false before line) (flaw_from limits false (line ∷ before) results) well.0 (flaw_well limits (line ∷ before) lines results rest well.1)
flaw_well limits before _ _ (refuses_one line refusal lines results is rest) well = limit_may refusal is

-- what these lines give after those before
abbrev pub events_after : List Line → List Line → List Event
events_after before [] = []
events_after before (line ∷ lines) = line_events before line ++ events_after (line ∷ before) lines

both_none : (first later : Option Flaw) → or_flaw first later ≡ None → (first ≡ None) × (later ≡ None)
both_none None later is = (refl, is)
both_none (Some flaw) later is = absurd (cc)

steps-append : (events more : List Event) → steps_of_events (events ++ more) ≡ steps_of_events events ++ steps_of_events more
steps-append [] more = refl
steps-append (event ∷ events) more = ap (λ (all : List Step). step_of event ∷ all) (steps-append events more)

pub good_steps : (limits : Limits) (before lines : List Line) (results : List (Result Line Refusal)) → Reads lines results → flaw_from limits false before results ≡ None
    → steps_from limits before results ≡ steps_of_events (events_after before lines) ++ step.End Good ∷ []
good_steps limits before _ _ reads_none none = rw none refl
good_steps limits before _ _ (reads_one line lines results rest) none =
    let both = both_none (line_flaw limits false before line) (flaw_from limits false (line ∷ before) results) none in
    let first = both.0 in
    let later = good_steps limits (line ∷ before) lines results rest both.1 in
    let split = steps-append (line_events before line) (events_after (line ∷ before) lines) in
    rw (first, later, split) (sym (append_assoc (steps_of_events (line_events before line)) (steps_of_events (events_after (line ∷ before) lines)) (step.End Good ∷ [])))
good_steps limits before _ _ (refuses_one line refusal lines results is rest) none = absurd (cc)

-- the rows of steps are those of the nodes
pub rows_of_events : (events : List Event) → rows_given (steps_of_events events ++ step.End Good ∷ []) ≡ node_rows events
rows_of_events [] = refl
rows_of_events (Node row attributes declarations uris line ∷ events) = ap (λ (all : List Row). row ∷ attributes ++ all) (rows_of_events events)
rows_of_events (Shut ∷ events) = rows_of_events events
