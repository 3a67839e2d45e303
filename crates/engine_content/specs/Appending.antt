-- What a call that appends a copy says.
use Rattle.std.specs.Prelude.{List, ◌++◌, Result, Ok, Err}
use Rattle.doc_model.specs.declared.ask.Ask.{Ask}
use Rattle.doc_model.specs.Answers.{Answer, Known, and_then}
use Rattle.result_events.specs.declared.event.ResultEvent.{ResultEvent}

-- these events, and after them a copy once it is known
abbrev pub appended_to : List ResultEvent → Answer ⊥ (List ResultEvent) → Answer ⊥ (List ResultEvent)
appended_to events answer = and_then answer (λ copy. Known (events ++ copy))

-- a call that left these events, as one that gives them
abbrev pub given : List ResultEvent → Result (Unit {0}) Ask → Result (List ResultEvent) Ask
given events (Ok done) = Ok events
given events (Err ask) = Err ask
