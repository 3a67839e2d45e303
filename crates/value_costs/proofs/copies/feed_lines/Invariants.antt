use Rattle.line_feeder.specs.Standing.{CanFeed}
use Rattle.value_costs.proofs.copies.feed_lines.Given as goal

abbrev pub invariant-lines : goal.invariant-lines
invariant-lines l = CanFeed l.feeder l.table.limits l.table.cells
