-- Runs, which spend a budget and make result events and messages.
use Rattle.std.specs.Prelude.{ℕ, zero, suc, List, [], ◌∷◌, ◌++◌}
use Rattle.doc_model.specs.Answers as answer
use Rattle.fault_kinds.specs.declared.fault.FaultKind.{FaultKind}
use Rattle.fault_kinds.specs.declared.fault.FaultKind.TheVariants.{Budget}
use Rattle.result_events.specs.declared.event.ResultEvent.{ResultEvent}
use Rattle.result_events.specs.Pushed.{pushed}
use Rattle.xpath_meaning.specs.Outcome.{Outcome}

-- the budget that is left, the result events and the messages
pub record State : Type 0 where
  pub budget : ℕ
  pub events : List ResultEvent
  pub messages : List (List ℕ)

-- How a run ends: it is done; or it has a fault; or it waits for this row, which must be shut first. All keep what was made.
pub data Ran (A : Type 0) : Type 0 where
  Done : A → State → Ran A
  Faulted : FaultKind → State → Ran A
  Waits : ℕ → State → Ran A

abbrev pub Run : Type 0 → Type 0
Run A = State → Ran A

abbrev pub after : {A B : Type 0} → Ran A → (A → Run B) → Ran B
after (Done x s) rest = rest x s
after (Faulted fault s) rest = Faulted fault s
after (Waits m s) rest = Waits m s

-- goes on where a run is done
infixl 10 ◌>>=◌
abbrev pub ◌>>=◌ : {A B : Type 0} → Run A → (A → Run B) → Run B
(run >>= rest) s = after (run s) rest

infixl 10 ◌>>◌
abbrev pub ◌>>◌ : {A B : Type 0} → Run A → Run B → Run B
run >> next = run >>= λ _. next

-- does nothing
abbrev pub pure : {A : Type 0} → A → Run A
pure x s = Done x s

abbrev pub fail : {A : Type 0} → FaultKind → Run A
fail fault s = Faulted fault s

-- what is asked of the document
abbrev pub ask : {A : Type 0} → Outcome A → Run A
ask (answer.Known x) s = Done x s
ask (answer.Fault fault) s = Faulted fault s
ask (answer.Open m) s = Waits m s

abbrev pub spend_from : ℕ → List ResultEvent → List (List ℕ) → Ran (Unit {0})
spend_from zero events messages = Faulted Budget (record { budget = 0; events = events; messages = messages })
spend_from (suc left) events messages = Done tt (record { budget = left; events = events; messages = messages })

-- takes a unit of the budget; where there is none, this is the fault Budget
abbrev pub spend : Run (Unit {0})
spend s = spend_from s.budget s.events s.messages

abbrev pub with_events : State → List ResultEvent → State
with_events s events = record { budget = s.budget; events = events; messages = s.messages }

-- one more event; an empty text is none
unfoldable pub emit : ResultEvent → Run (Unit {0})
emit event s = Done tt (with_events s (pushed s.events event))

-- more events, as they are
abbrev pub emit_all : List ResultEvent → Run (Unit {0})
emit_all events s = Done tt (with_events s (s.events ++ events))

-- a message is kept
abbrev pub tell : List ℕ → Run (Unit {0})
tell line s = Done tt (record { budget = s.budget; events = s.events; messages = s.messages ++ line ∷ [] })

-- the events outside are kept, and those made inside are handed on
abbrev pub back_to : {A : Type 0} → List ResultEvent → Ran A → Ran (List ResultEvent)
back_to outer (Done x s) = Done s.events (with_events s outer)
back_to outer (Faulted fault s) = Faulted fault (with_events s outer)
back_to outer (Waits m s) = Waits m (with_events s outer)

-- a run on an empty list of events, while budget and messages go on; a fault or a row to wait for inside is so outside, with the events outside
abbrev pub apart : {A : Type 0} → Run A → Run (List ResultEvent)
apart run s = back_to s.events (run (with_events s []))
