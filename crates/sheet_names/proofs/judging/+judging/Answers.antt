use Rattle.std.proofs.Common.{◌≡◌, subst, sym, ◌∙◌, Err, arith, rules}
use Rattle.sheet_names.specs.Judging.{all, checked}
use Rattle.sheet_names.proofs.Levels.{no_level, one_level}
use Rattle.sheet_names.proofs.Lists.{longer_after, same_after}
use Rattle.sheet_names.proofs.Turns.{ends, goes_on, stops, told}
use Rattle.sheet_reading.specs.declared.stop.ReadStop.{ReadStop}
use Rattle.sheet_reading.specs.Judgement.{Answers}
use Rattle.sheet_names.proofs.judging.+judging.Goals as goal

pub all-loop-one-preserved : goal.all-loop-one-preserved
all-loop-one-preserved t c = record {
  equal = goes_on (checked c.args.levels c.args.names.now) c.loop-one.locals c.item.new.locals c.enter.new.locals c.args.items.now c.loop-one.one-index c.one-item.result _ _
      c.loop-one-test.true c.one-item.is c.loop-one.invariant.equal c.in_ok-item.ensures.answers c.in_ok-item.ensures.kept c.in_ok-enter.ensures;
  longer = longer_after c.len-kept.result c.loop-one.locals c.item.new.locals c.enter.new.locals c.one-item.result c.loop-one.invariant.longer c.in_ok-item.ensures.kept c.in_ok-enter.ensures;
  same = same_after c.len-kept.result _ c.loop-one.locals c.item.new.locals c.enter.new.locals c.one-item.result c.loop-one.invariant.longer c.loop-one.invariant.same
      c.in_ok-item.ensures.kept c.in_ok-enter.ensures;
}

pub all-returns-in_err-item-clause-answers : goal.all-returns-in_err-item-clause-answers
all-returns-in_err-item-clause-answers t c =
    let f = checked c.args.levels c.args.names.now in
    let stop : ReadStop = c.in_err-item.field-0.0 in
    let given : c.from_residual.result ≡ Err stop = search rules in
    told (all f c.args.locals.now c.args.items.now) c.from_residual.result stop given
    (stops f c.loop-one.locals c.args.items.now c.loop-one.one-index c.one-item.result stop _ c.loop-one-test.true c.one-item.is c.loop-one.invariant.equal c.in_err-item.ensures.answers)

pub all-returns-clause-answers : goal.all-returns-clause-answers
all-returns-clause-answers t c =
    ends (checked c.args.levels c.args.names.now) c.loop-one.locals c.args.items.now c.loop-one.one-index _ (omega (arith, c.loop-one-test.false)) c.loop-one.invariant.equal

pub all-returns-clause-kept : goal.all-returns-clause-kept
all-returns-clause-kept t c = c.keep.ensures ∙ c.loop-one.invariant.same

pub checked-returns-then-levels-eq0-clause-answers : goal.checked-returns-then-levels-eq0-clause-answers
checked-returns-then-levels-eq0-clause-answers t c =
    let names = c.args.names.now in let locals = c.args.locals.now in let e = c.args.element.now in
    subst (λ s. Answers (checked c.args.levels names locals e) (Err s)) (sym c.refused.ensures) (no_level c.args.levels names locals e c.if-levels-eq0.true)

pub checked-returns-else-levels-eq0-clause-answers : goal.checked-returns-else-levels-eq0-clause-answers
checked-returns-else-levels-eq0-clause-answers t c =
    one_level c.args.levels c.args.names.now c.args.locals.now c.args.element.now c.layer.result c.if-levels-eq0.false c.layer.ensures.answers
