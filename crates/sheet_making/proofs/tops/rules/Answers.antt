use Rattle.std.proofs.Common.{arith}
use Rattle.sheet_making.proofs.TopLevel.{rules_end, rules_go_on}
use Rattle.sheet_making.proofs.tops.rules.Goals as goal

pub loop-item-preserved : goal.loop-item-preserved
loop-item-preserved c = rules_go_on c.args.making.now.names.now c.args.making.now.streams c.args.items.now c.loop-item.item-index c.item-item.result c.loop-item.place _
    c.loop-item.all c.add_rules_in.new.all _ c.loop-item-test.true c.item-item.is c.loop-item.invariant c.in_ok-add_rules_in.ensures c.in_ok-place.ensures

pub returns : goal.returns
returns c = rules_end c.args.making.now.names.now c.args.making.now.streams c.args.items.now c.loop-item.item-index c.loop-item.place c.loop-item.all _
    (omega (arith, c.loop-item-test.false)) c.loop-item.invariant
