use Rattle.global_order.specs.Times.{AreTimesTo}
use Rattle.global_order.proofs.moments.are_times.Given as goal

abbrev pub invariant-loop-at : goal.invariant-loop-at
invariant-loop-at l = AreTimesTo l.nodes l.moments l.order l.at
