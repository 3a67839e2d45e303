use Rattle.std.proofs.Common.{sym, ◌∙◌, arith, below_more}
use Rattle.global_order.proofs.Shown.{circle, all_ready}
use Rattle.global_order.proofs.marks.first_stuck.Goals as goal

pub returns-then-is_stuck_global : goal.returns-then-is_stuck_global
returns-then-is_stuck_global c = circle c.args.nodes.now c.args.marks.now c.loop-at.at c.requires.proof c.requires.all (sym c.is_stuck_global.ensures ∙ c.if-is_stuck_global.true) c.loop-at.invariant

pub loop-at-preserved : goal.loop-at-preserved
loop-at-preserved c = below_more _ _ c.loop-at.invariant (sym c.is_stuck_global.ensures ∙ c.if-is_stuck_global.false)

pub returns : goal.returns
returns c = all_ready c.args.nodes.now c.args.marks.now c.requires.proof c.requires.all (λ u i. c.loop-at.invariant u (omega arith))
