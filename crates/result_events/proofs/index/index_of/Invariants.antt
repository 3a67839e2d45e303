use Rattle.std.proofs.Common.{◌≡◌, ◌≤◌, length, drop}
use Rattle.result_events.specs.Places.{place_from, found}
use Rattle.result_events.specs.declared.event.Name.{Name}
use Rattle.result_events.proofs.index.index_of.Given as goal

abbrev pub invariant-loop-at : goal.invariant-loop-at
invariant-loop-at l = record { within : l.at ≤ length l.attributes; finds : (name : Name) → found name l.index ≡ place_from name l.at (drop l.at l.attributes) }

abbrev pub decreases-loop-at : goal.decreases-loop-at
decreases-loop-at l = l.at
