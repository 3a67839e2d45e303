use Rattle.std.proofs.Common.{◌∙◌, sym}
use Rattle.std.specs.Prelude.{codes}
use Rattle.xpath_chains.specs.Mentions.{mentions}
use Rattle.patterns.proofs.Keeping.{any_here, any_on, any_end}
use Rattle.patterns.proofs.siblings.any_mentions_last.Goals as goal

pub returns-then-mentions_last : goal.returns-then-mentions_last
returns-then-mentions_last c =
    let calls = mentions (codes "last") in
    sym (any_here calls c.args.predicates.now c.loop-predicate.predicate-index c.predicate-item.result c.loop-predicate-test.true c.predicate-item.is (sym c.if-mentions_last.ensures))
    ∙ c.loop-predicate.invariant

pub loop-predicate-preserved : goal.loop-predicate-preserved
loop-predicate-preserved c =
    let calls = mentions (codes "last") in
    sym (any_on calls c.args.predicates.now c.loop-predicate.predicate-index c.predicate-item.result c.loop-predicate-test.true c.predicate-item.is (sym c.if-mentions_last.ensures))
    ∙ c.loop-predicate.invariant

pub returns : goal.returns
returns c = sym (any_end (mentions (codes "last")) c.args.predicates.now c.loop-predicate.predicate-index c.loop-predicate-test.false) ∙ c.loop-predicate.invariant
