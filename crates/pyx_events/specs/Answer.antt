-- What a line, or the input's end, is answered by.
use Rattle.std.specs.Prelude.{◌≡◌, List, [], true, Option, Some, None, is_none, if◌then◌else◌, Result, OnOk, IfOk, IfErr, IfSome}
use Rattle.doc_model.specs.declared.limits.Limits.{Limits}
use Rattle.doc_model.specs.declared.flaw.Flaw.{Flaw}
use Rattle.doc_model.specs.declared.flaw.FlawKind.{FlawKind}
use Rattle.pyx_lines.specs.declared.line.Line.{Line}
use Rattle.pyx_events.specs.declared.event.Event.{Event}
use Rattle.pyx_events.specs.declared.event_error.EventError.{EventError}
use Rattle.pyx_events.specs.declared.event_error.EventError.TheVariants.{Refused, Memory}
use Rattle.pyx_events.specs.declared.elements.StartError.{StartError}
use Rattle.pyx_events.specs.declared.elements.StartError.TheVariants as start
use Rattle.pyx_events.specs.declared.halt.Halt.{Halt}
use Rattle.pyx_events.specs.declared.halt.Halt.TheVariants.{Flawed, Starved}
use Rattle.pyx_events.specs.declared.pending_start.PendingStart.{PendingStart}
use Rattle.pyx_events.specs.Before.{completed_start, pending_start}
use Rattle.pyx_events.specs.Nodes.{completed, line_events}
use Rattle.pyx_events.specs.Flaw.{completed_flaw, line_flaw, end_flaw}

-- the flaw of a refusal; want of memory has none
abbrev pub flaw_in : EventError → Option Flaw
flaw_in (Refused flaw completed) = Some flaw
flaw_in Memory = None

-- the nodes that a refusal hands over
abbrev pub completed_in : EventError → Option (List Event)
completed_in (Refused flaw completed) = Some completed
completed_in Memory = None

abbrev pub kind_in : StartError → Option FlawKind
kind_in (start.Flawed kind) = Some kind
kind_in start.Memory = None

-- why no more lines are taken after this refusal
abbrev pub halt_of : EventError → Halt
halt_of (Refused flaw completed) = Flawed flaw
halt_of Memory = Starved

-- the refusal as it is given from then on, without a node
abbrev pub repeated : Halt → EventError
repeated (Flawed flaw) = Refused flaw []
repeated Starved = Memory

-- the node of a start that is completed after these lines, where it has no flaw, names aside
abbrev pub sound_node : Limits → List Line → Option PendingStart → List Event
sound_node limits before start = if is_none (completed_flaw limits true before start) then completed before start else []

-- these events exactly where there is no flaw, else the flaw with this node; want of memory aside
pub record Gives (flaw : Option Flaw) (given node : List Event) (answer : Result (List Event) EventError) : Type 0 where
  pub good : OnOk answer (flaw ≡ None)
  pub events : IfOk answer (λ events. events ≡ given)
  pub refused : IfErr answer (λ error. IfSome (flaw_in error) (λ first. flaw ≡ Some first))
  pub completed : IfErr answer (λ error. IfSome (completed_in error) (λ handed. handed ≡ node))

-- the answer to a line after these, no name counted: its flaw is handed over with the node that it completed
abbrev pub IsAnswer : Limits → List Line → Line → Result (List Event) EventError → Type 0
IsAnswer limits before line answer = Gives (line_flaw limits true before line) (line_events before line) (sound_node limits before (completed_start before line)) answer

-- the answer to the input's end after these lines, likewise: without a flaw nothing is open, and it gives no event
abbrev pub IsEndAnswer : Limits → List Line → Result (List Event) EventError → Type 0
IsEndAnswer limits before answer = Gives (end_flaw limits true before) [] (sound_node limits before (pending_start before)) answer
