use Rattle.std.proofs.Common.{arith, refl, []}
use Rattle.sheet_names.proofs.Folds.{folds_end, folds_on}
use Rattle.sheet_making.specs.Attributes.{attributes_from, with_attribute}
use Rattle.sheet_making.specs.Scopes.{scope}
use Rattle.sheet_making.proofs.instructions.literal_attributes.Goals as goal

pub loop-one-preserved : goal.loop-one-preserved
loop-one-preserved c =
    let S = scope c.args.making.now c.args.locals.now in
    folds_on (attributes_from S) (with_attribute S) (λ made given more. refl) c.args.given.now c.loop-one.one-index c.one-item.result c.loop-one.all c.add_attribute.new.made
    (attributes_from S [] c.args.given.now) c.loop-one-test.true c.one-item.is c.loop-one.invariant c.in_ok-add_attribute.ensures

pub returns : goal.returns
returns c =
    let S = scope c.args.making.now c.args.locals.now in
    folds_end (attributes_from S) c.args.given.now c.loop-one.one-index c.loop-one.all (attributes_from S [] c.args.given.now) refl (omega (arith, c.loop-one-test.false)) c.loop-one.invariant
