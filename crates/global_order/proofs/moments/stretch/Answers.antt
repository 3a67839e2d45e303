use Rattle.global_order.proofs.Stretches.{begins, smaller, extends}
use Rattle.global_order.proofs.moments.stretch.Goals as goal

pub loop-from-init : goal.loop-from-init
loop-from-init c = begins c.args.order.now c.args.at

pub loop-from-smaller : goal.loop-from-smaller
loop-from-smaller c = smaller c.args.order.now c.args.starts.now c.args.at c.requires.known c.requires.less c.loop-from.from c.loop-from-test.true c.loop-from.invariant

pub loop-from-preserved : goal.loop-from-preserved
loop-from-preserved c = extends c.args.order.now c.args.starts.now c.args.at c.requires.known c.requires.less c.loop-from.from c.args.global c.requires.there c.loop-from-test.true c.loop-from.invariant c.if-order-from.false
