use Rattle.std.proofs.Common.{ap, false}
use Rattle.key_sources.proofs.Saying.{says_same}
use Rattle.xpath_meaning.specs.Match.{beside}
use Rattle.patterns.proofs.siblings.children_beside.Goals as goal

pub returns-then-whole-clause-answers : goal.returns-then-whole-clause-answers
returns-then-whole-clause-answers g c = λ lookups. says_same (λ R. ap (λ whole. beside false whole c.args.test.now R c.args.above c.args.n) c.if-whole.true) (c.nodes_on.ensures.answers lookups)

pub returns-clause-answers : goal.returns-clause-answers
returns-clause-answers g c = λ lookups. says_same (λ R. ap (λ whole. beside false whole c.args.test.now R c.args.above c.args.n) c.if-whole.false) (c.children_up_to.ensures.answers lookups)
