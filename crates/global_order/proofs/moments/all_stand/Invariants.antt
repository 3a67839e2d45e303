use Rattle.global_order.specs.Times.{StandTo}
use Rattle.global_order.proofs.moments.all_stand.Given as goal

abbrev pub invariant-loop-at : goal.invariant-loop-at
invariant-loop-at l = StandTo l.nodes l.moments l.order l.starts.items l.at
