-- What a transformation by turns means and answers.
use Rattle.std.specs.Prelude.{◌≡◌, List, Option, Some, None, Result, Ok, Err, ⊤}
use Rattle.doc_model.specs.Lawful.{AtStep}
use Rattle.doc_model.specs.declared.step.Step.{Step}
use Rattle.engine_core.specs.Holding.{Scene, Sound, world_at}
use Rattle.engine_core.specs.Standing.{left_of, made}
use Rattle.engine_laws.specs.Growing.{Continues}
use Rattle.engine_meaning.specs.Meaning.{at_first, transforms}
use Rattle.engine_meaning.specs.Places.{World}
use Rattle.engine_meaning.specs.Runs.{Ran, State, Done, Faulted, Waits}
use Rattle.fault_kinds.specs.declared.fault.FaultKind.{FaultKind}
use Rattle.result_events.specs.declared.event.ResultEvent.{ResultEvent}
use Rattle.template_engine.specs.declared.machine.Ended.{Ended}
use Rattle.template_engine.specs.declared.machine.Ended.TheVariants as ended
use Rattle.template_engine.specs.declared.machine.Machine.{Machine}
use Rattle.template_engine.specs.declared.turn.Spent.{Spent}
use Rattle.template_engine.specs.declared.turn.Turn.{Turn}
use Rattle.template_engine.specs.declared.turn.Turn.TheVariants as turn

-- the transformation by the machine's stylesheet, with its globals in the machine's order, and with the budget that it began with
abbrev pub means : {S : Type 0} → Machine S → World → Ran (Unit {0})
means m w = transforms m.sheet.now m.order.now w (at_first m.budget)

-- the budget that is left, the result events and the messages
abbrev pub given : {S : Type 0} → Machine S → State
given m = made m.core

-- what is left of a machine that goes on is what is left of its transformation, on every growth
pub record GoesOn {S : Type 0} (z : Scene S) (steps : List Step) (m : Machine S) : Type 0 where
  pub sheet : m.core.sheet ≡ m.sheet
  pub left : (w : World) → Continues (world_at z steps) w → means m w ≡ left_of m.core w
  pub sound : Sound z steps m.core.frames m.core

abbrev pub IsAt : {S : Type 0} → Option Ended → Scene S → List Step → Machine S → Type 0
IsAt None z steps m = GoesOn z steps m
IsAt (Some ended.Done) z steps m = means m (world_at z steps) ≡ Done tt (given m)
IsAt (Some (ended.Faulted fault)) z steps m = means m (world_at z steps) ≡ Faulted fault (given m)
IsAt (Some ended.Spent) z steps m = ⊤

-- the machine is one of its transformation at these steps: what is meant is what is left, or what it ended with; after want of memory nothing is said
pub record IsOf {S : Type 0} (z : Scene S) (steps : List Step) (m : Machine S) : Type 0 where
  pub is : IsAt m.ended z steps m

-- What a turn answers: done or a fault just where that is meant at its end; or a row that must be shut first, where at a step of the turn the transformation waits for it with just what was made; or want of memory, for good.
abbrev pub Answers : {S : Type 0} → Scene S → List Step → List Step → Machine S → Machine S → Result Turn Spent → Type 0
Answers z before later old new (Ok (turn.NotYet m)) = AtStep before later (λ steps. means old (world_at z steps) ≡ Waits m (given new))
Answers z before later old new (Ok turn.Done) = means old (world_at z later) ≡ Done tt (given new)
Answers z before later old new (Ok (turn.Faulted fault)) = means old (world_at z later) ≡ Faulted fault (given new)
Answers z before later old new (Err memory) = new.ended ≡ Some ended.Spent

-- how the machine ended, as a turn tells it
abbrev pub EndsAs : Option Ended → Result Turn Spent → Type 0
EndsAs None result = ⊤
EndsAs (Some ended.Done) result = result ≡ Ok turn.Done
EndsAs (Some (ended.Faulted fault)) result = result ≡ Ok (turn.Faulted fault)
EndsAs (Some ended.Spent) (Ok answer) = ⊥
EndsAs (Some ended.Spent) (Err memory) = ⊤

abbrev pub fault_of : Option Ended → Option FaultKind
fault_of None = None
fault_of (Some ended.Done) = None
fault_of (Some (ended.Faulted fault)) = Some fault
fault_of (Some ended.Spent) = None

-- the events that stand outside, or else these
abbrev pub or_outer : Option (List ResultEvent) → List ResultEvent → List ResultEvent
or_outer None events = events
or_outer (Some outer) events = outer
