use Rattle.std.proofs.Common.{◌≡◌, ◌++◌, drop}
use Rattle.result_events.specs.Open.{rest_of}
use Rattle.result_events.specs.Tidy.{tidy_of}
use Rattle.result_events.proofs.tidying.tidy.Given as goal

abbrev pub invariant-loop-event : goal.invariant-loop-event
invariant-loop-event l = l.done ++ rest_of l.held (drop l.event-index l.fn.events) ≡ tidy_of l.fn.events
