use Rattle.std.proofs.Common.{arith, ap, ◌∙◌, Bool, Option}
use Rattle.std.specs.Option.{option_or}
use Rattle.sheet_making.proofs.TopLevel.{method_ends, method_goes_on}
use Rattle.sheet_making.proofs.tops.last_method.Goals as goal

pub loop-item-preserved : goal.loop-item-preserved
loop-item-preserved c = method_goes_on c.args.items.now c.loop-item.item-index c.item-item.result c.loop-item.last c.later-last.result _
    c.loop-item-test.true c.item-item.is c.loop-item.invariant (c.later-last.ensures ∙ ap (λ (m : Option Bool). option_or m c.loop-item.last) c.method_in.ensures)

pub returns : goal.returns
returns c = method_ends c.args.items.now c.loop-item.item-index c.loop-item.last _ (omega (arith, c.loop-item-test.false)) c.loop-item.invariant
