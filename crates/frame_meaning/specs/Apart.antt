-- What was made, outside of the bodies that are run apart.
use Rattle.std.specs.Prelude.{List, Option, Some, None}
use Rattle.engine_meaning.specs.Runs.{State, Ran, Done, Faulted, Waits, with_events}
use Rattle.result_events.specs.declared.event.ResultEvent.{ResultEvent}

-- what was made, where these events stand outside
abbrev pub surface : Option (List ResultEvent) → State → State
surface None s = s
surface (Some events) s = with_events s events

-- a run that has a fault or waits leaves what stands outside
abbrev pub under : {A : Type 0} → Option (List ResultEvent) → Ran A → Ran A
under b (Done x s) = Done x s
under b (Faulted fault s) = Faulted fault (surface b s)
under b (Waits m s) = Waits m (surface b s)
