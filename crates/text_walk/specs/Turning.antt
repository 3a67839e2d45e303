-- What the answers of a turn say.
use Rattle.std.specs.Prelude.{◌≡◌, ℕ, true, false, List, Some, None}
use Rattle.doc_model.specs.declared.step.Step.{Step}
use Rattle.doc_model.specs.Document.{is_open}
use Rattle.doc_model.specs.Lawful.{AtStep}
use Rattle.doc_model.specs.Rows.{rows_of}
use Rattle.text_walk.specs.declared.fault.FaultKind.{FaultKind}
use Rattle.text_walk.specs.declared.turn.Turn.{Turn}
use Rattle.text_walk.specs.declared.turn.Turn.TheVariants.{NotYet, Done, Faulted}
use Rattle.text_walk.specs.BuiltIn.{fault_of}
use Rattle.text_walk.specs.Walking.{Walking, Stands}

-- the document is open and has no fault so far, just its events are made, and row m is not shut
pub record WaitsFor (walker : Walking) (bytes : List ℕ) (m : ℕ) (steps : List Step) : Type 0 where
  pub waits : is_open steps m ≡ true
  pub going : is_open steps 0 ≡ true
  pub sound : fault_of (rows_of steps) ≡ None
  pub stands : Stands walker steps bytes

-- the document is shut, has no fault, and its events are made
pub record IsDone (walker : Walking) (bytes : List ℕ) (steps : List Step) : Type 0 where
  pub shut : is_open steps 0 ≡ false
  pub sound : fault_of (rows_of steps) ≡ None
  pub stands : Stands walker steps bytes

-- the document has the fault, and the events before it are made
pub record HasFault (walker : Walking) (bytes : List ℕ) (kind : FaultKind) (steps : List Step) : Type 0 where
  pub fault : fault_of (rows_of steps) ≡ Some kind
  pub stands : Stands walker steps bytes

-- what a turn answers of the steps before it and those after it: Done and Faulted of those after it, and NotYet of a step of the turn
abbrev pub TurnIs : Walking → List ℕ → List Step → List Step → Turn → Type 0
TurnIs walker bytes before later (NotYet m) = AtStep before later (WaitsFor walker bytes m)
TurnIs walker bytes before later Done = IsDone walker bytes later
TurnIs walker bytes before later (Faulted kind) = HasFault walker bytes kind later
