use Rattle.std.proofs.Common.{◌∙◌, ap, sym, subst}
use Rattle.document_questions.proofs.Selecting.{next_is, path_there}
use Rattle.document_questions.specs.Following.{FollowNodes, next_in, select_in}
use Rattle.engine_questions.specs.Walks.{walk}
use Rattle.key_sources.proofs.Saying.{says_same}
use Rattle.xpath_core.specs.Left.{item_behind}
use Rattle.xpath_core.specs.Ready.{IsReady}
use Rattle.xpath_meaning.specs.Readings.{values_of}
use Rattle.document_questions.proofs.items.next_node.Goals as goal

pub returns-in-OfPath-clause-answers : goal.returns-in-OfPath-clause-answers
returns-in-OfPath-clause-answers g c =
    let s = g.V.NodeView.sees c.args.view.now in
    let lookups = (g.K.KeySource.made c.args.keys.now).lookups in
    let values = values_of c.args.env.now in
    let stream = c.in-OfPath.stream in
    let f = subst (λ nodes. FollowNodes nodes c.args.context.now c.args.taken lookups values s.rules s.steps) c.in-OfPath.is c.requires.follows in
    says_same
    (λ R. ap (λ nodes. next_in (walk (select_in nodes) c.args.context.now c.args.taken) values R) c.in-OfPath.is
    ∙ next_is stream.path.now c.args.context.now c.args.taken values R f.2
    ∙ ap (λ k. item_behind R stream.path.now k values c.args.context.now) (sym f.1)
    ∙ ap (λ x. item_behind R stream.path.now stream.given values x) (sym f.0))
    c.next.ensures.answers

pub returns-in-OfPath-clause-there : goal.returns-in-OfPath-clause-there
returns-in-OfPath-clause-there g c =
    let s = g.V.NodeView.sees c.args.view.now in
    let lookups = (g.K.KeySource.made c.args.keys.now).lookups in
    let values = values_of c.args.env.now in
    let stream = c.in-OfPath.stream in
    let f = subst (λ nodes. FollowNodes nodes c.args.context.now c.args.taken lookups values s.rules s.steps) c.in-OfPath.is c.requires.follows in
    path_there stream.path.now stream.given c.next.result (subst (λ x. IsReady s (g.K.KeySource.fits c.args.keys.now) values x) (sym f.0) c.requires.ready) c.next.ensures.went c.next.ensures.answers

pub returns-in-Children-clause-answers : goal.returns-in-Children-clause-answers
returns-in-Children-clause-answers g c =
    says_same (λ R. ap (λ nodes. next_in (walk (select_in nodes) c.args.context.now c.args.taken) (values_of c.args.env.now) R) c.in-Children.is)
    (c.next_child.ensures.answers (g.K.KeySource.made c.args.keys.now).lookups)
