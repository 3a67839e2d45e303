use Rattle.std.proofs.Common.{◌∙◌, sym, ap}
use Rattle.key_sources.proofs.Saying.{says_same}
use Rattle.xpath_meaning.specs.Tests.{on_axis}
use Rattle.xpath_core.proofs.node_tests.nodes_on.Goals as goal

pub returns-in-Some-clause-answers : goal.returns-in-Some-clause-answers
returns-in-Some-clause-answers g c = λ lookups. says_same (λ R. ap (λ o. on_axis R o c.args.test.now c.args.n) (sym c.axis_of.ensures ∙ c.in-Some.is)) (c.axis_nodes.ensures.answers lookups)
