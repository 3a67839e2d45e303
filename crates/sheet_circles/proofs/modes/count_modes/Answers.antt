use Rattle.std.proofs.Common.{◌≡◌, ◌∙◌}
use Rattle.sheet_circles.proofs.Bounds.{counts_on, counts_still}
use Rattle.sheet_circles.proofs.modes.count_modes.Goals as goal
use Rattle.sheet_circles.proofs.modes.count_modes.Goals.{then-count-mode, else-count-mode}

pub loop-rule-preserved : goal.loop-rule-preserved
loop-rule-preserved c = elim c.if-count-mode.branch [
  | then-count-mode w ↦ w.count-is
      ∙ counts_on c.as_slice-rule-items.result.now c.loop-rule.rule-index c.loop-rule.count c.rule-item.result c.loop-rule-test.true c.rule-item.is c.loop-rule.invariant w.if-count-mode.true
  | else-count-mode w ↦ w.count-is
      ∙ counts_still c.as_slice-rule-items.result.now c.loop-rule.rule-index c.loop-rule.count c.rule-item.result c.loop-rule-test.true c.rule-item.is c.loop-rule.invariant w.if-count-mode.false
]
