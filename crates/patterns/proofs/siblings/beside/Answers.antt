use Rattle.std.proofs.Common.{ap}
use Rattle.key_sources.proofs.Saying.{says_same}
use Rattle.xpath_meaning.specs.Match.{beside}
use Rattle.patterns.proofs.siblings.beside.Goals as goal

pub returns-then-attribute-clause-answers : goal.returns-then-attribute-clause-answers
returns-then-attribute-clause-answers g c = λ lookups. says_same (λ R. ap (λ attribute. beside attribute c.args.whole c.args.test.now R c.args.above c.args.n) c.if-attribute.true)
    (c.nodes_on.ensures.answers lookups)

pub returns-clause-answers : goal.returns-clause-answers
returns-clause-answers g c = λ lookups. says_same (λ R. ap (λ attribute. beside attribute c.args.whole c.args.test.now R c.args.above c.args.n) c.if-attribute.false)
    (c.children_beside.ensures.answers lookups)
