use Rattle.std.proofs.Common.{◌≡◌, drop}
use Rattle.std.specs.List.{list_any}
use Rattle.pyx_events.specs.Counted.{same_expanded}
use Rattle.pyx_events.proofs.elements.has_expanded.Given as goal

abbrev pub invariant-loop-i : goal.invariant-loop-i
invariant-loop-i l = list_any (same_expanded l.row) l.rows ≡ list_any (same_expanded l.row) (drop l.i l.rows)
