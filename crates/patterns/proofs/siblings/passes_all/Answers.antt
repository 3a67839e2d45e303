use Rattle.std.proofs.Common.{refl, map}
use Rattle.key_sources.proofs.Saying.{stands_on, went_none, went_moves, went_on, says_exit, says_same, says_stops, says_then, says_known, says_memory}
use Rattle.xpath_meaning.specs.Evaluation.{meant}
use Rattle.xpath_meaning.specs.Match.{passes}
use Rattle.xpath_nodes.proofs.Holding.{there_on}
use Rattle.patterns.proofs.Beside.{none_passed, all_passed}
use Rattle.patterns.proofs.Lasting.{keeps_beside}
use Rattle.patterns.proofs.siblings.passes_all.Goals as goal

pub returns-then-not-has_some-clause-went : goal.returns-then-not-has_some-clause-went
returns-then-not-has_some-clause-went g c = went_none c.requires.stands

pub returns-then-not-has_some-clause-answers : goal.returns-then-not-has_some-clause-answers
returns-then-not-has_some-clause-answers g c =
    says_known (λ R. none_passed R c.args.step.now c.args.above c.args.n c.as_slice-predicates.result.now c.as_slice-predicates.ensures (c.if-not-has_some.ensures.none refl))

pub returns-in_err-test-clause-went : goal.returns-in_err-test-clause-went
returns-in_err-test-clause-went g c = went_none c.requires.stands

pub returns-in_err-test-clause-answers : goal.returns-in_err-test-clause-answers
returns-in_err-test-clause-answers g c = says_exit c.from_residual.result c.from_residual.ensures.1 says_memory

pub returns-in_err-nodes-clause-went : goal.returns-in_err-nodes-clause-went
returns-in_err-nodes-clause-went g c = went_moves (g.met.K.KeySource.goes_on c.args.keys.now) c.in_err-nodes.ensures.moves c.requires.stands

pub returns-in_err-nodes-clause-answers : goal.returns-in_err-nodes-clause-answers
returns-in_err-nodes-clause-answers g c = says_exit c.from_residual-in_err-nodes.result c.from_residual-in_err-nodes.ensures.1
    (says_same
    (λ R. all_passed R c.args.step.now c.args.above c.args.n c.as_slice-predicates.result.now c.is_attribute_axis-attribute.result c.any_mentions_last-whole.result c.are_all_seen-known.result
    c.in_ok-test.test c.as_slice-predicates.ensures
    (c.if-not-has_some.ensures.some refl) c.is_attribute_axis-attribute.ensures c.any_mentions_last-whole.ensures c.are_all_seen-known.ensures c.in_ok-test.ensures)
    (says_stops (λ R nodes. passes R c.are_all_seen-known.result c.args.n (map meant c.as_slice-predicates.result.now) nodes) (c.in_err-nodes.ensures.answers _)))

pub passes-requires-clause-stands : goal.passes-requires-clause-stands
passes-requires-clause-stands g c = stands_on (g.met.K.KeySource.goes_on c.args.keys.now) c.in_ok-nodes.ensures.moves c.requires.stands

pub passes-requires-clause-there : goal.passes-requires-clause-there
passes-requires-clause-there g c = there_on _ _ c.args.n c.in_ok-nodes.ensures.moves c.requires.there

pub returns-clause-went : goal.returns-clause-went
returns-clause-went g c = went_on (went_moves (g.met.K.KeySource.goes_on c.args.keys.now) c.in_ok-nodes.ensures.moves c.requires.stands) c.passes.ensures.went

pub returns-clause-answers : goal.returns-clause-answers
returns-clause-answers g c =
    says_same
    (λ R. all_passed R c.args.step.now c.args.above c.args.n c.as_slice-predicates.result.now c.is_attribute_axis-attribute.result c.any_mentions_last-whole.result c.are_all_seen-known.result
    c.in_ok-test.test c.as_slice-predicates.ensures
    (c.if-not-has_some.ensures.some refl) c.is_attribute_axis-attribute.ensures c.any_mentions_last-whole.ensures c.are_all_seen-known.ensures c.in_ok-test.ensures)
    (says_then (λ R nodes. passes R c.are_all_seen-known.result c.args.n (map meant c.as_slice-predicates.result.now) nodes)
    (keeps_beside c.is_attribute_axis-attribute.result c.any_mentions_last-whole.result c.in_ok-test.test c.args.above c.args.n) c.in_ok-nodes.ensures.moves (c.in_ok-nodes.ensures.answers _)
    c.passes.ensures.went.moves c.passes.ensures.answers)
