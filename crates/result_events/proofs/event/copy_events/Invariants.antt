use Rattle.std.proofs.Common.{◌≡◌, ◌++◌, drop}
use Rattle.result_events.proofs.event.copy_events.Given as goal

abbrev pub invariant-loop-event : goal.invariant-loop-event
invariant-loop-event l = l.copy ++ drop l.event-index l.fn.events ≡ l.fn.events
