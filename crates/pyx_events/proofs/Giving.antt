-- What a line, or the input's end, gives, from the flaw of the start that it completes and its own.
use Rattle.std.proofs.Common.{◌≡◌, ◌+◌, ◌≤◌, ℕ, List, [], true, false, Option, Some, None, Ok, Err, IfSome, is_none, length, refl, arith, sym, ◌∙◌}
use Rattle.std.proofs.lemmas.Grind.{common_steps}
use Rattle.doc_model.specs.declared.flaw.Flaw.{Flaw}
use Rattle.doc_model.specs.declared.flaw.FlawKind.{FlawKind}
use Rattle.doc_model.specs.declared.limits.Limits.{Limits}
use Rattle.pyx_lines.specs.declared.line.Line.{Line}
use Rattle.xml_names.specs.declared.scopes.Binding.{Binding}
use Rattle.pyx_events.specs.declared.event.Event.{Event}
use Rattle.pyx_events.specs.declared.event_error.EventError.{EventError}
use Rattle.pyx_events.specs.declared.event_error.EventError.TheVariants.{Refused, Memory}
use Rattle.pyx_events.specs.declared.pending_start.PendingStart.{PendingStart}
use Rattle.pyx_events.specs.Before.{bindings, uris_to, depth, value_bytes}
use Rattle.pyx_events.specs.Counted.{free_names}
use Rattle.pyx_events.specs.Nodes.{completed, start_node}
use Rattle.pyx_events.specs.Flaw.{start_flaw, start_line, at_line, or_kind, if_pending, names_flaw, completed_flaw, in_order}
use Rattle.pyx_events.specs.Answer.{flaw_in, completed_in, sound_node, Gives}

-- a flaw that is judged first is the flaw
kept : (l : ℕ) (f g : Option FlawKind) (flaw : Flaw) (later : Option Flaw) → at_line l f None ≡ Some flaw → at_line l (or_kind f g) later ≡ Some flaw
kept l None g flaw later h = absurd (cc)
kept l (Some kind) g flaw later h = h

some : (l : ℕ) (f g : Option FlawKind) (flaw : Flaw) → at_line l f None ≡ Some flaw → is_none (or_kind f g) ≡ false
some l None g flaw h = absurd (cc)
some l (Some kind) g flaw h = refl

-- the start that is completed has a flaw, or there is no memory for its node
pub start_refused : (limits : Limits) (before : List Line) (start : Option PendingStart) (bound : List Binding) (deep : ℕ) (own : Option FlawKind) (events : List Event) (error : EventError)
    → bindings 0 before ≡ bound → depth before ≡ deep
    → IfSome (flaw_in error) (λ flaw. at_line (start_line start) (start_flaw bound deep start) None ≡ Some flaw)
    → IfSome (completed_in error) (λ node. node ≡ [])
    → Gives (in_order limits true before start own) events (sound_node limits before start) (Err error)
start_refused limits before start bound deep own events Memory b d r n = record { good = tt; events = tt; refused = tt; completed = tt }
start_refused limits before start bound deep own events (Refused flaw node) b d r n =
    let r' : at_line (start_line start) (start_flaw (bindings 0 before) (depth before) start) None ≡ Some flaw = rw (b, d) r in
    let g = if_pending start (names_flaw limits free_names (value_bytes before)) in
    record {
      good = tt;
      events = tt;
      refused = kept (start_line start) (start_flaw (bindings 0 before) (depth before) start) g flaw _ r';
      completed = rw (some (start_line start) (start_flaw (bindings 0 before) (depth before) start) g flaw r') n;
    }

fits : (limits : Limits) (bytes : ℕ) (start : Option PendingStart) → bytes ≤ limits.text → if_pending start (names_flaw limits free_names bytes) ≡ None
fits limits bytes None h = refl
fits limits bytes (Some start) h = grind (arith, common_steps)

-- the start that is completed has no flaw, names aside
pub start_sound : (limits : Limits) (before : List Line) (start : Option PendingStart) (bound : List Binding) (deep : ℕ)
    → bindings 0 before ≡ bound → depth before ≡ deep → start_flaw bound deep start ≡ None → value_bytes before ≤ limits.text → completed_flaw limits true before start ≡ None
start_sound limits before start bound deep b d f h = rw (b, d, f) (fits limits (value_bytes before) start h)

-- a flaw of the line's own event
pub own_refused : (limits : Limits) (before : List Line) (start : Option PendingStart) (own : Option FlawKind) (kind : FlawKind) (events node : List Event) (l : ℕ)
    → completed_flaw limits true before start ≡ None → own ≡ Some kind → l ≡ length before + 1 → node ≡ completed before start
    → Gives (in_order limits true before start own) events (sound_node limits before start) (Err (Refused (record { line = l; kind = kind }) node))
own_refused limits before start own kind events node l good is number given =
    record {
      good = tt;
      events = tt;
      refused = rw (good, is, number) refl;
      completed = rw good given;
    }

-- no flaw
pub answered : (limits : Limits) (before : List Line) (start : Option PendingStart) (own : Option FlawKind) (events given node : List Event)
    → completed_flaw limits true before start ≡ None → own ≡ None → given ≡ events
    → Gives (in_order limits true before start own) events node (Ok given)
answered limits before start own events given node good is same =
    record {
      good = rw (good, is) refl;
      events = same;
      refused = tt;
      completed = tt;
    }

-- the start that was taken out is the one that is completed, and what it needs is kept
pub record IsAt (limits : Limits) (before : List Line) (first start : Option PendingStart) (uris : List (List ℕ)) (bound : List Binding) (deep : ℕ) : Type 0 where
  pub is : start ≡ first
  pub known : uris_to before ≡ uris
  pub binds : bindings 0 before ≡ bound
  pub open_elements : depth before ≡ deep
  pub space : value_bytes before ≤ limits.text

pub node_completed : (limits : Limits) (before : List Line) (first start : Option PendingStart) (uris : List (List ℕ)) (bound : List Binding) (deep : ℕ) (node : List Event)
    → IsAt limits before first start uris bound deep → node ≡ start_node uris bound deep start → node ≡ completed before first
node_completed limits before first start uris bound deep node at given = rw (at.known, at.binds, at.open_elements, ← at.is) given

pub refused_first : (limits : Limits) (before : List Line) (first start : Option PendingStart) (uris : List (List ℕ)) (bound : List Binding) (deep : ℕ) (own : Option FlawKind)
    (events : List Event) (error : EventError)
    → IsAt limits before first start uris bound deep
    → IfSome (flaw_in error) (λ flaw. at_line (start_line start) (start_flaw bound deep start) None ≡ Some flaw)
    → IfSome (completed_in error) (λ node. node ≡ [])
    → Gives (in_order limits true before first own) events (sound_node limits before first) (Err error)
refused_first limits before first start uris bound deep own events error at r n =
    rw (← at.is) (start_refused limits before start bound deep own events error at.binds at.open_elements r n)

pub refused_own : (limits : Limits) (before : List Line) (first start : Option PendingStart) (uris : List (List ℕ)) (bound : List Binding) (deep : ℕ) (own judged : Option FlawKind)
    (kind : FlawKind) (events node : List Event) (l : ℕ)
    → IsAt limits before first start uris bound deep → start_flaw bound deep start ≡ None → judged ≡ own → judged ≡ Some kind → l ≡ length before + 1 → node ≡ start_node uris bound deep start
    → Gives (in_order limits true before first own) events (sound_node limits before first) (Err (Refused (record { line = l; kind = kind }) node))
refused_own limits before first start uris bound deep own judged kind events node l at f j is number given =
    let good : completed_flaw limits true before start ≡ None = start_sound limits before start bound deep at.binds at.open_elements f at.space in
    let good' : completed_flaw limits true before first ≡ None = rw (← at.is) good in
    own_refused limits before first own kind events node l good' (sym j ∙ is) number (node_completed limits before first start uris bound deep node at given)

pub given_all : (limits : Limits) (before : List Line) (first start : Option PendingStart) (uris : List (List ℕ)) (bound : List Binding) (deep : ℕ) (own judged : Option FlawKind)
    (events given node : List Event)
    → IsAt limits before first start uris bound deep → start_flaw bound deep start ≡ None → judged ≡ own → judged ≡ None → given ≡ events
    → Gives (in_order limits true before first own) events node (Ok given)
given_all limits before first start uris bound deep own judged events given node at f j is same =
    let good : completed_flaw limits true before start ≡ None = start_sound limits before start bound deep at.binds at.open_elements f at.space in
    let good' : completed_flaw limits true before first ≡ None = rw (← at.is) good in
    answered limits before first own events given node good' (sym j ∙ is) same
