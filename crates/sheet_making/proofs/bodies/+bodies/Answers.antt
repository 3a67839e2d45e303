use Rattle.std.proofs.Common.{arith, ◌∙◌}
use Rattle.sheet_names.proofs.Lists.{longer_after, same_after}
use Rattle.sheet_making.specs.Instructions.{makes}
use Rattle.sheet_making.specs.Scopes.{scope}
use Rattle.sheet_making.proofs.Levels.{layered, no_level, one_level_made}
use Rattle.sheet_making.proofs.Turns.{ends, goes_on}
use Rattle.sheet_making.proofs.bodies.+bodies.Goals as goal

pub all-loop-one-preserved : goal.all-loop-one-preserved
all-loop-one-preserved t c = record {
  equal = goes_on (makes c.args.levels) c.args.making.now c.loop-one.locals c.item.new.locals c.enter.new.locals c.args.items.now c.loop-one.one-index c.one-item.result
      c.in_ok-made.made c.loop-one.content c.add.new.content _ c.loop-one-test.true c.one-item.is c.loop-one.invariant.equal c.in_ok-made.ensures.made c.in_ok-add.ensures
      c.in_ok-made.ensures.kept c.in_ok-enter.ensures;
  longer = longer_after c.len-kept.result c.loop-one.locals c.item.new.locals c.enter.new.locals c.one-item.result c.loop-one.invariant.longer c.in_ok-made.ensures.kept c.in_ok-enter.ensures;
  same = same_after c.len-kept.result _ c.loop-one.locals c.item.new.locals c.enter.new.locals c.one-item.result c.loop-one.invariant.longer c.loop-one.invariant.same
      c.in_ok-made.ensures.kept c.in_ok-enter.ensures;
}

pub all-returns-clause-made : goal.all-returns-clause-made
all-returns-clause-made t c = ends (makes c.args.levels) (scope c.args.making.now c.loop-one.locals) c.args.items.now c.loop-one.one-index c.loop-one.content _
    (omega (arith, c.loop-one-test.false)) c.loop-one.invariant.equal

pub all-returns-clause-kept : goal.all-returns-clause-kept
all-returns-clause-kept t c = c.keep.ensures ∙ c.loop-one.invariant.same

pub makes-returns-then-levels-eq0-clause-made : goal.makes-returns-then-levels-eq0-clause-made
makes-returns-then-levels-eq0-clause-made t c = no_level c.args.levels (scope c.args.making.now c.args.locals.now) c.args.element.now c.if-levels-eq0.true

pub makes-returns-else-levels-eq0-clause-made : goal.makes-returns-else-levels-eq0-clause-made
makes-returns-else-levels-eq0-clause-made t c =
    one_level_made c.args.levels (scope c.args.making.now c.args.locals.now) c.args.element.now c.layer.result c.if-levels-eq0.false c.layer.ensures.made

pub layer-returns-clause-made : goal.layer-returns-clause-made
layer-returns-clause-made t c = layered (makes c.args.levels) c.args.making.now c.args.locals.now c.all.new.locals c.args.element.now c.as_slice.result.now
    c.in_ok-content.content c.make.result c.in_ok-content.ensures.made c.as_slice.ensures c.in_ok-content.ensures.kept c.make.ensures
