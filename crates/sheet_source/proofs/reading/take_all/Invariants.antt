use Rattle.std.proofs.Common.{◌≡◌, ◌++◌, List}
use Rattle.pyx_events.specs.declared.event.Event.{Event}
use Rattle.sheet_source.specs.Building.{completed}
use Rattle.sheet_source.proofs.reading.take_all.Given as goal

-- the rest of the events goes on from here
abbrev pub invariant-loop-event : goal.invariant-loop-event
invariant-loop-event l = (later : List Event) → completed l.building later ≡ completed l.initial.building (l.yielded ++ later)
