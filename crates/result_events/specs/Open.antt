-- What the next event may still change, and what comes of it.
use Rattle.std.specs.Prelude.{List, [], ◌∷◌, ◌++◌}
use Rattle.result_events.specs.declared.event.ResultEvent.{ResultEvent}
use Rattle.result_events.specs.declared.event.ResultEvent.TheVariants.{Text}
use Rattle.result_events.specs.declared.tidying.Held.{Held}
use Rattle.result_events.specs.declared.tidying.Held.TheVariants as held
use Rattle.result_events.specs.Tidy.{attributes_from, events_of, joined, tidy_of}

-- what is held open, and what these events make behind it
abbrev pub rest_of : Held → List ResultEvent → List ResultEvent
rest_of held.Nothing events = tidy_of events
rest_of (held.Attributes attributes) events = events_of (attributes_from attributes events) ++ tidy_of events
rest_of (held.Text text) events = joined text (tidy_of events)

-- what is held open, if no event follows that changes it
abbrev pub flushed : Held → List ResultEvent
flushed held.Nothing = []
flushed (held.Attributes attributes) = events_of attributes
flushed (held.Text text) = Text text ∷ []
