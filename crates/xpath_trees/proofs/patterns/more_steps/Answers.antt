use Rattle.std.proofs.Common.{Ok, Err, subst}
use Rattle.std.proofs.lemmas.Result.{err_from_is_err_and}
use Rattle.xpath_grammar.specs.Productions as rule
use Rattle.xpath_words.specs.Seen.{ReadsSo, most_levels, seen}
use Rattle.xpath_words.proofs.Steps.{failed}
use Rattle.xpath_trees.specs.Patterns.{Added}
use Rattle.xpath_trees.proofs.PatternSteps.{viewed, steps_go, steps_fail, steps_end, fewer_words}
use Rattle.xpath_trees.proofs.patterns.more_steps.Goals as goal

pub loop-deep-init : goal.loop-deep-init
loop-deep-init c = λ a h.
    subst (λ parts. Added parts (ReadsSo most_levels rule.more_pattern_steps (seen c.args.words.now)) a) c.going_on-parts.ensures.0
    (subst (λ rest. Added c.going_on-parts.result.0 (ReadsSo most_levels rule.more_pattern_steps (seen rest)) a) c.going_on-parts.ensures.1 h)

pub returns-in_err-part : goal.returns-in_err-part
returns-in_err-part c =
    let p = err_from_is_err_and c.from_residual.result c.from_residual.ensures.1 in
    rw (p.1, p.2) (failed viewed (ReadsSo most_levels rule.pattern_step (seen c.in-Some.next.now)) viewed
    (Added c.args.before (ReadsSo most_levels rule.more_pattern_steps (seen c.args.words.now))) c.in_err-part.field-0.0
    (λ r h. c.loop-deep.invariant (Err r) (steps_fail c.in-Some.deep c.in-Some.ensures h)) c.in_err-part.ensures)

pub loop-deep-smaller : goal.loop-deep-smaller
loop-deep-smaller c = fewer_words c.in-Some.deep c.loop-deep.rest.now c.in-Some.next.now c.in_ok-part.behind.now c.in_ok-part.part c.in-Some.ensures c.in_ok-part.ensures

pub loop-deep-preserved : goal.loop-deep-preserved
loop-deep-preserved c = λ a h.
    c.loop-deep.invariant a (steps_go most_levels c.in-Some.deep (seen c.loop-deep.rest.now) (seen c.in-Some.next.now) (seen c.in_ok-part.behind.now)
    c.loop-deep.parts c.in_ok-part.part c.in-Some.ensures c.in_ok-part.ensures a
    (subst (λ parts. Added parts (ReadsSo most_levels rule.more_pattern_steps (seen c.in_ok-part.behind.now)) a) c.in_ok-push.ensures.ok h))

pub returns : goal.returns
returns c = c.loop-deep.invariant (Ok (c.loop-deep.parts, seen c.loop-deep.rest.now)) (steps_end c.loop-deep.parts c.in_default.ensures.0 c.in_default.ensures.1)
