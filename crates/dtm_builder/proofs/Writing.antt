-- Steps that are still to be written, one after the other.
use Rattle.std.proofs.Common.{◌≡◌, ℕ, ◌+◌, ◌<◌, List, [], ◌∷◌, ◌++◌, length, drop, get_or, take, None, refl, ap, sym, ◌∙◌, subst, arith, append_assoc}
use Rattle.doc_model.specs.declared.limits.Limits.{Limits}
use Rattle.doc_model.specs.declared.row.Row.{Row}
use Rattle.doc_model.specs.declared.step.Step.{Step}
use Rattle.doc_model.specs.declared.step.Step.TheVariants as step
use Rattle.doc_model.specs.Document.{Document, document_of}
use Rattle.doc_model.specs.Lawful.{LawfulFrom}
use Rattle.doc_model.specs.Rows.{rows_of, rows_given}
use Rattle.doc_laws.proofs.Growth.{document_of-push, rows-append}
use Rattle.node_writer.specs.Taken.{HasRoom}
use Rattle.pyx_events.specs.declared.event.Event.{Event}
use Rattle.pyx_events.specs.declared.event.Event.TheVariants as event
use Rattle.pyx_events.specs.Steps.{step_of, steps_of_events}
use Rattle.dtm_builder.specs.Standing.{CanFollow}
use Rattle.std.proofs.lemmas.List.{take_more, at_drop_more, take-append-drop}
use Rattle.node_writer.proofs.Taken.{less_first, IsLess}

less_room : (limits : Limits) (few many : List Row) → IsLess few many → HasRoom limits many → HasRoom limits few
less_room limits few many l h = record {
  rows = omega (arith, l.rows, h.rows);
  names = omega (arith, l.names, l.prefixes, h.names);
  text = omega (arith, l.values, l.name_text, l.prefix_text, h.text);
}

pub node_room : (limits : Limits) (steps left : List Step) (row : Row) (attributes : List Row) → CanFollow limits steps (step.Node row attributes ∷ left)
    → HasRoom limits (rows_of steps ++ row ∷ attributes)
node_room limits steps left row attributes f =
    let all : rows_of (steps ++ step.Node row attributes ∷ left) ≡ (rows_of steps ++ row ∷ attributes) ++ rows_given left =
    rows-append steps (step.Node row attributes ∷ left) ∙ sym (append_assoc (rows_of steps) (row ∷ attributes) (rows_given left)) in
    less_room limits _ _ (less_first (rows_of steps ++ row ∷ attributes) (rows_given left)) (subst (HasRoom limits) all f.room)

pub follows_still : (limits : Limits) (steps left : List Step) (x : Step) → ((document_of (steps ++ x ∷ [])).ended ≡ None) → CanFollow limits steps (x ∷ left) → CanFollow limits (steps ++ x ∷ []) left
follows_still limits steps left x e f = record {
  going = e;
  lawful = subst (λ d. LawfulFrom d left) (sym (document_of-push steps x)) f.lawful.2;
  room = subst (λ all. HasRoom limits (rows_of all)) (sym (append_assoc steps (x ∷ []) left)) f.room;
}

-- one step, with those after it left out
pub first_follows : (limits : Limits) (steps left : List Step) (x : Step) → CanFollow limits steps (x ∷ left) → CanFollow limits steps (x ∷ [])
first_follows limits steps left x f =
    let all : rows_of (steps ++ x ∷ left) ≡ rows_of (steps ++ x ∷ []) ++ rows_given left =
    ap rows_of (sym (append_assoc steps (x ∷ []) left)) ∙ rows-append (steps ++ x ∷ []) left in
    record {
      going = f.going;
      lawful = (f.lawful.0, f.lawful.1, tt);
      room = less_room limits _ _ (less_first (rows_of (steps ++ x ∷ [])) (rows_given left)) (subst (HasRoom limits) all f.room);
    }

-- the event at a place is the first of those that are left
pub at_event : (limits : Limits) (steps : List Step) (events : List Event) (k : ℕ) (x : Event) → k < length events → x ≡ get_or events k x
    → CanFollow limits steps (steps_of_events (drop k events)) → CanFollow limits steps (step_of x ∷ steps_of_events (drop (k + 1) events))
at_event limits steps events k x within is f =
    subst (λ y. CanFollow limits steps (step_of y ∷ steps_of_events (drop (k + 1) events))) (sym is)
    (subst (λ all. CanFollow limits steps all) (at_drop_more steps_of_events events k x within) f)

steps_join : (xs ys : List Event) → steps_of_events (xs ++ ys) ≡ steps_of_events xs ++ steps_of_events ys
steps_join [] ys = refl
steps_join (x ∷ xs) ys = ap (λ all. step_of x ∷ all) (steps_join xs ys)

pub steps_more : (events : List Event) (k : ℕ) (x : Event) (old now new : List Step) → k < length events → x ≡ get_or events k x → now ≡ old ++ steps_of_events (take k events)
    → new ≡ now ++ step_of x ∷ [] → new ≡ old ++ steps_of_events (take (k + 1) events)
steps_more events k x old now new within is before step =
    let one : steps_of_events (take (k + 1) events) ≡ steps_of_events (take k events) ++ step_of x ∷ [] =
    ap steps_of_events (take_more events k x within) ∙ steps_join (take k events) (get_or events k x ∷ []) ∙ ap (λ y. steps_of_events (take k events) ++ step_of y ∷ []) (sym is) in
    step ∙ ap (λ all. all ++ step_of x ∷ []) before ∙ append_assoc old (steps_of_events (take k events)) (step_of x ∷ []) ∙ ap (λ all. old ++ all) (sym one)

event_going : (steps : List Step) (x : Event) → (document_of steps).ended ≡ None → (document_of (steps ++ step_of x ∷ [])).ended ≡ None
event_going steps (event.Node row attributes declarations uris line) h = subst (λ d. Document.ended d ≡ None) (sym (document_of-push steps (step.Node row attributes))) h
event_going steps event.Shut h = subst (λ d. Document.ended d ≡ None) (sym (document_of-push steps step.Shut)) h

pub event_follows : (limits now_limits : Limits) (steps now : List Step) (left : List Step) (x : Event) → now_limits ≡ limits → now ≡ steps ++ step_of x ∷ []
    → CanFollow limits steps (step_of x ∷ left) → CanFollow now_limits now left
event_follows limits now_limits steps now left x same is f =
    subst (λ l. CanFollow l now left) (sym same) (subst (λ all. CanFollow limits all left) (sym is) (follows_still limits steps left (step_of x) (event_going steps x f.going) f))

pub parts : (events : List Event) (k : ℕ) → steps_of_events (take k events) ++ steps_of_events (drop k events) ≡ steps_of_events events
parts events k = sym (steps_join (take k events) (drop k events)) ∙ ap steps_of_events (take-append-drop k events)
