use Rattle.global_order.specs.Times.{AreLess}
use Rattle.global_order.proofs.moments.stretch.Given as goal

abbrev pub invariant-loop-from : goal.invariant-loop-from
invariant-loop-from l = AreLess l.order l.from l.at

abbrev pub decreases-loop-from : goal.decreases-loop-from
decreases-loop-from l = l.from
