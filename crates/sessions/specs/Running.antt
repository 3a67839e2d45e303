-- What the readers of a session make of its steps, and what they answer. A reader is named by its number, counted from 0; each follows the built-in rules.
use Rattle.std.specs.Prelude.{◌≡◌, ℕ, List, [], ◌∷◌, true, false, is_some, if◌then◌else◌, map, Some, None, ⊤}
use Rattle.std.specs.List.{range_with_len}
use Rattle.doc_model.specs.declared.step.Step.{Step}
use Rattle.doc_model.specs.Document.{is_open}
use Rattle.doc_model.specs.Rows.{rows_of}
use Rattle.text_walk.specs.declared.turn.Turn.{Turn}
use Rattle.text_walk.specs.declared.turn.Turn.TheVariants.{NotYet, Done, Faulted}
use Rattle.text_walk.specs.BuiltIn.{fault_of, reached}
use Rattle.text_walk.specs.Text.{text_of, events_in}
use Rattle.text_walk.specs.Walking.{IsBehind}
use Rattle.sessions.specs.declared.follower.Follower.{Follower}
use Rattle.sessions.specs.declared.outcome.Outcome.{Outcome}

-- how many result events the built-in rules make of these steps
abbrev pub made_by_builtin : List Step → ℕ
made_by_builtin steps = events_in (reached (rows_of steps))

-- the bytes of a transformation: none after a fault
abbrev pub bytes_of : List Step → List ℕ
bytes_of steps = if is_some (fault_of (rows_of steps)) then [] else text_of (reached (rows_of steps))

-- what the built-in rules make of the steps of a whole document
abbrev pub builtin_outcome : List Step → Outcome
builtin_outcome steps = record { fault = fault_of (rows_of steps); bytes = bytes_of steps; messages = []; made = made_by_builtin steps }

-- how many result events this reader makes of these steps
abbrev pub made_of : ℕ → List Step → ℕ
made_of reader steps = made_by_builtin steps

-- what this reader makes of the steps of a whole document
abbrev pub outcome_of : ℕ → List Step → Outcome
outcome_of reader steps = builtin_outcome steps

-- what each of so many readers makes of them, in order
abbrev pub outcomes_of : ℕ → List Step → List Outcome
outcomes_of readers steps = map (λ reader. outcome_of reader steps) (range_with_len 0 readers)

-- what a turn of this reader answers on these steps: the fault where there is one; else Done where the document is shut, and where it is open a row that isn't shut
abbrev pub IsTurn : ℕ → List Step → Turn → Type 0
IsTurn reader steps (NotYet m) = (fault_of (rows_of steps) ≡ None) × (is_open steps 0 ≡ true) × (is_open steps m ≡ true)
IsTurn reader steps Done = (fault_of (rows_of steps) ≡ None) × (is_open steps 0 ≡ false)
IsTurn reader steps (Faulted kind) = fault_of (rows_of steps) ≡ Some kind

-- the result events that each of these has made
abbrev pub counts_in : List Follower → List ℕ
counts_in followers = map (λ (follower : Follower). follower.walker.made) followers

-- each of these has given what the built-in rules make of steps that these have grown from
abbrev pub AreBehind : List Step → List Follower → Type 0
AreBehind steps [] = ⊤
AreBehind steps (follower ∷ followers) = IsBehind follower.walker steps follower.text.items × AreBehind steps followers
