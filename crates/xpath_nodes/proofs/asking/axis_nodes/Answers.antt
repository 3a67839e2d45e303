use Rattle.std.proofs.Common.{refl}
use Rattle.doc_model.specs.Axes.{axis_of}
use Rattle.xpath_nodes.proofs.ByView.{says_asked, says_unasked, axis_is}
use Rattle.xpath_nodes.proofs.asking.axis_nodes.Goals as goal

pub returns-in-Ok-clause-answers : goal.returns-in-Ok-clause-answers
returns-in-Ok-clause-answers g c = λ lookups. says_asked (λ rules steps. axis_of rules steps c.args.n c.args.axis c.args.test.now) c.in-Ok.nodes c.in-Ok.nodes
    (λ rules steps. axis_is lookups rules steps c.args.axis c.args.test.now c.args.n) refl c.in-Ok.ensures.answers

pub returns-in-Err-clause-answers : goal.returns-in-Err-clause-answers
returns-in-Err-clause-answers g c = λ lookups. says_unasked (λ rules steps. axis_of rules steps c.args.n c.args.axis c.args.test.now) c.in-Err.ask c.stop_for.result
    (λ rules steps. axis_is lookups rules steps c.args.axis c.args.test.now c.args.n) c.stop_for.ensures c.in-Err.ensures.answers
