use Rattle.std.proofs.Common.{◌≡◌, ◌++◌, ◌≤◌, drop}
use Rattle.engine_meaning.specs.Events.{text_outside}
use Rattle.engine_frames.proofs.passing.outer_text.Given as goal

abbrev pub invariant-loop-event : goal.invariant-loop-event
invariant-loop-event l = (l.text ++ text_outside l.depth (drop l.event-index l.fn.events) ≡ text_outside 0 l.fn.events) × (l.depth ≤ l.event-index)
