use Rattle.std.proofs.Common.{arith}
use Rattle.global_order.proofs.Stretches.{there, none_stand, one_more_stands}
use Rattle.global_order.proofs.moments.all_stand.Goals as goal

pub loop-at-init : goal.loop-at-init
loop-at-init c = none_stand _ _ _ _ c.in_ok-starts.ensures.items

pub loop-at-preserved : goal.loop-at-preserved
loop-at-preserved c =
    one_more_stands c.args.nodes.now c.args.moments.now c.args.order.now c.loop-at.starts.items c.push.new.self.items c.loop-at.at _ _ c.loop-at.invariant
    (there c.args.order.now c.loop-at.at c.loop-at-test.true) c.stretch-from.ensures c.if-not-stands.ensures c.in_ok-push.ensures.items

pub returns : goal.returns
returns c = λ k l. c.loop-at.invariant.stand k (let b = c.loop-at-test.false in omega (arith, l, b))
