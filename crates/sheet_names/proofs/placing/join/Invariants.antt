use Rattle.std.proofs.Common.{◌≡◌, length}
use Rattle.sheet_names.specs.Joining.{joined}
use Rattle.sheet_names.proofs.placing.join.Given as goal

abbrev pub decreases-loop-op : goal.decreases-loop-op
decreases-loop-op l = length l.above

-- what is applied already is the first operand of what is left
abbrev pub invariant-loop-op : goal.invariant-loop-op
invariant-loop-op l = joined l.whole l.above ≡ joined l.fn.first l.fn.above
