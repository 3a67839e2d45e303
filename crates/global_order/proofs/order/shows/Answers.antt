use Rattle.std.proofs.Common.{subst}
use Rattle.global_order.specs.Order.{IsOrder}
use Rattle.global_order.proofs.Timed.{is_order, shown_so}
use Rattle.global_order.proofs.order.shows.Goals as goal

pub returns : goal.returns
returns c = shown_so c.all_stand.result _ _
    (λ s. subst (IsOrder c.args.nodes.now) c.as_slice-order.ensures
    (is_order c.args.nodes.now c.as_slice-moments.result.now c.as_slice-order.result.now c.if-not-are_times.ensures s)) c.all_stand.ensures
