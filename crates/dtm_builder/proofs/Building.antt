-- The steps of flawless, readable lines are lawful, and open as many rows as elements are open, the pending start aside.
use Rattle.std.proofs.Common.{◌≡◌, ℕ, ◌+◌, Bool, true, false, cond, List, [], ◌∷◌, Option, Some, None, refl, inl, inr}
use Rattle.std.proofs.lemmas.Bool.{cases_Bool}
use Rattle.doc_model.specs.declared.flaw.FlawKind.{FlawKind}
use Rattle.doc_model.specs.declared.limits.Limits.{Limits}
use Rattle.doc_model.specs.Document.{start, document_from}
use Rattle.xml_names.specs.declared.scopes.Binding.{Binding}
use Rattle.pyx_lines.specs.declared.line.Line.{Line}
use Rattle.pyx_events.specs.declared.pending_start.PendingStart.{PendingStart}
use Rattle.pyx_events.specs.Before.{completes, depth, pending_start, completed_start, bindings}
use Rattle.pyx_events.specs.Nodes.{line_events, events_to}
use Rattle.pyx_events.specs.Flaw.{or_kind, start_flaw, line_flaw}
use Rattle.pyx_events.specs.Steps.{steps_of_events}
use Rattle.dtm_builder.specs.Lines.{IsReadable, AreReadable, AreFlawless}
use Rattle.dtm_builder.proofs.Balancing.{balanced, open_at_end, start_good}
use Rattle.dtm_builder.proofs.Opening.{IsLegibleStart, IsSound, Leads, leads_none, leads_after, line_leads, pending_count}
use Rattle.dtm_builder.proofs.Spelling.{AreText, IsReadableStart, start_legible, bindings_text, pending_utf8, pending_readable}

no_kind : (first later : Option FlawKind) → or_kind first later ≡ None → first ≡ None
no_kind None later h = refl
no_kind (Some it) later h = absurd (cc)

second_good : (a b : Bool) (one two : FlawKind) (later : Option FlawKind) → cond a (Some one) (cond b (Some two) later) ≡ None → b ≡ false
second_good true b one two later h = absurd (cc)
second_good false true one two later h = absurd (cc)
second_good false false one two later h = refl

legible : (bound : List Binding) (deep : ℕ) (it : Option PendingStart) → IsReadableStart it → AreText bound → start_flaw bound deep it ≡ None → IsLegibleStart bound deep it
legible bound deep None r t h = tt
legible bound deep (Some it) r t h = start_legible bound deep it r.0 r.1 r.2 t (second_good _ _ _ _ _ h)

completed_readable : (before : List Line) (line : Line) → AreReadable before → IsReadableStart (completed_start before line)
completed_readable before line r = elim (cases_Bool (completes line)) [
  | inl e ↦ rw e (pending_readable before r)
  | inr e ↦ rw e tt
]

pub sound : (limits : Limits) (before : List Line) (line : Line) → AreFlawless limits before → AreReadable before → line_flaw limits false before line ≡ None → IsReadable line → IsSound before line
sound limits before line f r h l = record {
  balanced = (balanced limits before f).ends;
  open_elements = open_at_end limits before line f h;
  start_legible = legible (bindings 0 before) (depth before) (completed_start before line) (completed_readable before line r) (bindings_text 0 before r)
      (no_kind _ _ (start_good limits before line h));
  text = pending_utf8 before r;
  readable = l;
}

-- the steps are lawful, and so many rows are open
pub record IsBuilt (before : List Line) : Type 0 where
  pub count : ℕ
  pub leads : Leads start (steps_of_events (events_to before)) count
  pub opened : count + pending_count (pending_start before) ≡ depth before + 1

pub built : (limits : Limits) (before : List Line) → AreFlawless limits before → AreReadable before → IsBuilt before
built limits [] f r = record { count = 1; leads = leads_none start 1 (record { going = refl; opened = refl }); opened = refl }
built limits (line ∷ before) f r =
    let b = built limits before f.1 r.1 in
    let next = line_leads before line (document_from start (steps_of_events (events_to before))) b.count (sound limits before line f.1 r.1 f.0 r.0) b.leads.left b.opened in
    record {
      count = next.0;
      leads = leads_after start (events_to before) (line_events before line) next.0 b.leads.lawful next.1;
      opened = next.2;
    }
