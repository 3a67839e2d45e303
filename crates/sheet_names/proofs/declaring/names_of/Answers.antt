use Rattle.std.proofs.Common.{arith, refl}
use Rattle.sheet_names.specs.Declaring.{names_from, names_of, no_names, with_item}
use Rattle.sheet_names.proofs.Folds.{folds_end, folds_on}
use Rattle.sheet_names.proofs.declaring.names_of.Goals as goal

pub loop-item-preserved : goal.loop-item-preserved
loop-item-preserved c = folds_on names_from with_item (λ names i is. refl) c.args.items.now c.loop-item.item-index c.item-item.result c.loop-item.names c.add_item.new.names
    (names_from no_names c.args.items.now) c.loop-item-test.true c.item-item.is c.loop-item.invariant c.in_ok-add_item.ensures

pub returns : goal.returns
unfolding names_of
returns c = folds_end names_from c.args.items.now c.loop-item.item-index c.loop-item.names (names_from no_names c.args.items.now) refl (omega (arith, c.loop-item-test.false)) c.loop-item.invariant
