use Rattle.std.proofs.Common.{refl, ap, sym, ◌∙◌, reverse, arith}
use Rattle.frames.specs.Apart.{base}
use Rattle.frames.proofs.Apart.{base_meets, base_none, base_passes}
use Rattle.frames.proofs.stack.Stack.outermost.Goals as goal

pub loop-frame-init : goal.loop-frame-init
loop-frame-init c = refl

pub returns-in-Apart : goal.returns-in-Apart
returns-in-Apart c =
    sym (ap base (sym c.self.view_is) ∙ ap (λ items. base (reverse items)) (sym c.as_slice-frame-items.ensures)
    ∙ base_meets c.as_slice-frame-items.result.now c.loop-frame.frame-index c.frame-item.result c.in-Apart.outer c.in-Apart.purpose c.loop-frame-test.true c.frame-item.is c.in-Apart.is
    c.loop-frame.invariant)

pub loop-frame-preserved : goal.loop-frame-preserved
loop-frame-preserved c =
    base_passes c.as_slice-frame-items.result.now c.loop-frame.frame-index c.frame-item.result c.loop-frame-test.true c.frame-item.is c.in_default.not-Apart c.loop-frame.invariant

pub returns : goal.returns
returns c =
    sym (ap base (sym c.self.view_is) ∙ ap (λ items. base (reverse items)) (sym c.as_slice-frame-items.ensures)
    ∙ base_none c.as_slice-frame-items.result.now c.loop-frame.frame-index (omega (arith, c.loop-frame-test.false)) c.loop-frame.invariant)
