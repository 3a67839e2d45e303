-- How what was made goes on.
use Rattle.std.specs.Prelude.{◌≡◌, ℕ, List, ◌++◌}
use Rattle.result_events.specs.declared.event.ResultEvent.{ResultEvent}
use Rattle.doc_model.specs.Answers.{Stays}
use Rattle.xpath_meaning.specs.Reading.{Extends}
use Rattle.engine_meaning.specs.Places.{World}
use Rattle.engine_meaning.specs.Runs.{State, Ran, Done, Faulted, Waits}

-- what one world tells, the other tells too
pub record Continues (before later : World) : Type 0 where
  pub reading : Extends before.reading later.reading
  pub copy : (n : ℕ) → Stays (before.copy n) (later.copy n)

-- the events and the messages of one state begin those of the other
pub record Begins (s t : State) : Type 0 where
  pub more_events : List ResultEvent
  pub events : t.events ≡ s.events ++ more_events
  pub more_messages : List (List ℕ)
  pub messages : t.messages ≡ s.messages ++ more_messages

abbrev pub state_of : {A : Type 0} → Ran A → State
state_of (Done x s) = s
state_of (Faulted fault s) = s
state_of (Waits m s) = s

-- what a run on more of the document does: what is done and a fault stay, and what waits goes on
abbrev pub Later : {A : Type 0} → Ran A → Ran A → Type 0
Later (Done x s) later = later ≡ Done x s
Later (Faulted fault s) later = later ≡ Faulted fault s
Later (Waits m s) later = Begins s (state_of later)
