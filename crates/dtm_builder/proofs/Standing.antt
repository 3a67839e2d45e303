-- What a builder that stands for a table and its lines knows of both.
use Rattle.std.proofs.Common.{◌≡◌, ℕ, ◌+◌, ◌<◌, ◌≤◌, false, List, [], ◌∷◌, ◌++◌, length, Option, Some, None, refl, ap, sym, subst, arith, inl, inr}
use Rattle.std.proofs.lemmas.Bool.{cases_Bool}
use Rattle.doc_model.specs.declared.flaw.Flaw.{Flaw}
use Rattle.doc_model.specs.declared.flaw.FlawKind.{FlawKind}
use Rattle.doc_model.specs.declared.limits.Limits.{Limits}
use Rattle.doc_model.specs.declared.step.Step.{Step}
use Rattle.doc_model.specs.Cells.{Cells}
use Rattle.doc_model.specs.Document.{Document, start, document_of, document_from}
use Rattle.doc_model.specs.Lawful.{LawfulFrom}
use Rattle.doc_model.specs.Rows.{rows_of}
use Rattle.doc_laws.proofs.Growth.{document_is}
use Rattle.pyx_lines.specs.declared.line.Line.{Line}
use Rattle.pyx_lines.specs.declared.line.Line.TheVariants as line
use Rattle.pyx_events.specs.declared.event.Event.{Event}
use Rattle.pyx_events.specs.declared.pending_start.PendingStart.{PendingStart}
use Rattle.pyx_events.specs.Before.{completes, with_attribute, pending_start, completed_start, row_count, depth}
use Rattle.pyx_events.specs.Checking as checking
use Rattle.pyx_events.specs.Checking.{Checking}
use Rattle.pyx_events.specs.Flaw.{start_line, at_line, completed_flaw, own_end_flaw, in_order, line_flaw, end_flaw}
use Rattle.pyx_events.specs.Nodes.{line_events, events_to}
use Rattle.pyx_events.specs.Steps.{steps_of_events}
use Rattle.pyx_events.specs.Taken as taken
use Rattle.node_writer.specs.Taken.{HasRoom}
use Rattle.dtm_builder.specs.declared.build_error.BuildError.{BuildError}
use Rattle.dtm_builder.specs.declared.build_error.BuildError.TheVariants.{Refused, Memory}
use Rattle.dtm_builder.specs.declared.builder.Builder.{Builder}
use Rattle.dtm_builder.specs.Lines.{IsReadable}
use Rattle.dtm_builder.specs.Standing.{Stands, CanFollow, CanEnd, IsFlawOf}
use Rattle.dtm_builder.proofs.Building.{built, sound}
use Rattle.dtm_builder.proofs.Fitting.{room}
use Rattle.dtm_builder.proofs.Opening.{steps_join, line_leads, pending_count}

-- the table has not ended
pub going : (builder : Builder) (limits : Limits) (cells : Cells) (before : List Line) → Stands builder limits cells before → (document_of cells.steps).ended ≡ None
going builder limits cells before s =
    let it = built limits before s.flawless s.readable in
    subst (λ (steps : List Step). (document_of steps).ended ≡ None) (sym s.steps) it.leads.left.going

-- the checker may take more
pub checker_room : (count : ℕ) (limits : Limits) (checker : Checking) (before : List Line) → checking.Stands limits checker before → length before < count → checking.HasRoom count checker
checker_room count limits checker before s few going =
    (before, subst (λ (l : Limits). taken.HasTaken l checker.progress before) (sym s.taken.nested.limits) s.taken, few)

-- the steps of a line that has no flaw may come
pub line_follows : (builder : Builder) (limits : Limits) (cells : Cells) (before : List Line) (line : Line) (checker : Checking) (events : List Event)
    → Stands builder limits cells before → IsReadable line → line_flaw limits false before line ≡ None
    → checking.Stands limits checker (line ∷ before) → events ≡ line_events before line → CanFollow limits cells.steps (steps_of_events events)
line_follows builder limits cells before line checker events s readable h taken e =
    let it = built limits before s.flawless s.readable in
    let next = line_leads before line (document_from start (steps_of_events (events_to before))) it.count (sound limits before line s.flawless s.readable h readable) it.leads.left it.opened in
    let fits : row_count (line ∷ before) ≤ limits.rows = omega (arith, taken.taken.nested.rows, taken.taken.nested.room, ap (λ (l : Limits). l.rows) taken.taken.nested.limits) in
    let all : steps_of_events (events_to (line ∷ before)) ≡ steps_of_events (events_to before) ++ steps_of_events (line_events before line) = steps_join (events_to before) (line_events before line) in
    let follows : CanFollow limits (steps_of_events (events_to before)) (steps_of_events (line_events before line)) = record {
      going = it.leads.left.going;
      lawful = subst (λ (d : Document). LawfulFrom d (steps_of_events (line_events before line))) (document_is (steps_of_events (events_to before))) next.1.lawful;
      room = subst (λ (steps : List Step). HasRoom limits (rows_of steps)) all (room limits (line ∷ before) (h, s.flawless) fits);
    } in
    subst (λ (steps : List Step). CanFollow limits steps (steps_of_events events)) (sym s.steps)
    (subst (λ (it : List Event). CanFollow limits (steps_of_events (events_to before)) (steps_of_events it)) (sym e) follows)

-- a flaw carries no later line than the one that it is judged at
start_small : (before : List Line) → start_line (pending_start before) ≤ length before
start_small [] = omega arith
start_small (line.Start name ∷ before) = omega arith
start_small (line.End name ∷ before) = omega arith
start_small (line.Attr name value ∷ before) = let less = start_small before in omega (arith, less, same name value (pending_start before))
  where
    same : (name value : List ℕ) (it : Option PendingStart) → start_line (with_attribute name value it) ≡ start_line it
    same name value None = refl
    same name value (Some it) = refl
start_small (line.Text text ∷ before) = omega arith
start_small (line.Instruction target value ∷ before) = omega arith
start_small (line.Comment text ∷ before) = omega arith
start_small (line.Passed ∷ before) = let less = start_small before in omega (arith, less)

completed_small : (before : List Line) (line : Line) → start_line (completed_start before line) ≤ length before
completed_small before line = elim (cases_Bool (completes line)) [
  | inl e ↦ rw e (start_small before)
  | inr e ↦ rw e (omega arith)
]

some_line : (a b : Flaw) → Some a ≡ Some b → a.line ≡ b.line
some_line a b h = cc

at_small : (n line : ℕ) (a : Option FlawKind) (later : Option Flaw) (flaw : Flaw) → line ≤ n → (later ≡ Some flaw → flaw.line ≤ n) → at_line line a later ≡ Some flaw → flaw.line ≤ n
at_small n line None later flaw h rest e = rest e
at_small n line (Some it) later flaw h rest e = omega (arith, h, some_line (record { line = line; kind = it }) flaw e)

none_flaw : (n : ℕ) (flaw : Flaw) → None ≡ Some flaw → flaw.line ≤ n
none_flaw n flaw h = absurd (cc)

order_small : (limits : Limits) (before : List Line) (start : Option PendingStart) (own : Option FlawKind) (flaw : Flaw) → start_line start ≤ length before
    → in_order limits false before start own ≡ Some flaw → flaw.line ≤ length before + 1
order_small limits before start own flaw h e =
    at_small (length before + 1) (start_line start) (completed_flaw limits false before start) (at_line (length before + 1) own None) flaw (omega (arith, h))
    (at_small (length before + 1) (length before + 1) own None flaw (omega arith) (none_flaw (length before + 1) flaw)) e

-- the table may end for a reason that is judged
pub line_ends : (limits : Limits) (before : List Line) (line : Line) (steps : List Step) (error : BuildError) → length before < 4294967295 → (document_of steps).ended ≡ None
    → IsFlawOf (line_flaw limits false before line) error → CanEnd steps error
line_ends limits before line steps (Refused flaw) few g h =
    record { going = g; may = let less = order_small limits before (completed_start before line) _ flaw (completed_small before line) h in omega (arith, less, few) }
line_ends limits before line steps Memory few g h = record { going = g; may = tt }

pub end_ends : (limits : Limits) (before : List Line) (steps : List Step) (error : BuildError) → length before < 4294967296 → (document_of steps).ended ≡ None
    → IsFlawOf (end_flaw limits false before) error → CanEnd steps error
end_ends limits before steps (Refused flaw) few g h =
    record { going = g; may = let less = order_small limits before (pending_start before) (own_end_flaw before) flaw (start_small before) h in omega (arith, less, few) }
end_ends limits before steps Memory few g h = record { going = g; may = tt }

-- the root alone is open where no element is and no start is pending
pub root_open : (builder : Builder) (limits : Limits) (cells : Cells) (before : List Line) → Stands builder limits cells before → depth before ≡ 0 → pending_start before ≡ None
    → length (document_of cells.steps).opened ≡ 1
root_open builder limits cells before s shut none =
    let it = built limits before s.flawless s.readable in
    let pending : pending_count (pending_start before) ≡ 0 = ap pending_count none in
    let from : length (document_from start (steps_of_events (events_to before))).opened ≡ 1 = omega (arith, it.leads.left.opened, it.opened, shut, pending) in
    let one : length (document_of (steps_of_events (events_to before))).opened ≡ 1 = subst (λ (d : Document). length d.opened ≡ 1) (document_is (steps_of_events (events_to before))) from in
    subst (λ (steps : List Step). length (document_of steps).opened ≡ 1) (sym s.steps) one
