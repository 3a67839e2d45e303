use Rattle.std.proofs.Common.{◌≡◌, ◌∙◌, ap, sym, subst, Ok}
use Rattle.doc_model.specs.Answers.{Known}
use Rattle.xpath_meaning.specs.Conversions.{text_of, text_of_first, first_of}
use Rattle.key_sources.proofs.Saying.{says_same, says_given}
use Rattle.xpath_nodes.specs.Held.{HasJoined}
use Rattle.xpath_nodes.proofs.Holding.{first_held}
use Rattle.xpath_nodes.proofs.Turning.{made_is}
use Rattle.xpath_nodes.proofs.texts.value_text.Goals as goal

pub first_text-requires : goal.first_text-requires
first_text-requires g c = first_held (g.V.NodeView.sees c.args.view.now).steps c.in-Nodes.nodes c.first_of.result
    (subst (HasJoined (g.V.NodeView.sees c.args.view.now).steps) c.in-Nodes.is c.requires) c.first_of.ensures

pub returns-in-Nodes-clause-answers : goal.returns-in-Nodes-clause-answers
returns-in-Nodes-clause-answers g c = λ lookups. says_same (λ R. ap (text_of R) c.in-Nodes.is ∙ ap (text_of_first R) (sym c.first_of.ensures)) (c.first_text.ensures.answers lookups)

pub returns-in-Atom-clause-answers : goal.returns-in-Atom-clause-answers
returns-in-Atom-clause-answers g c =
    λ lookups. says_same (λ R. ap (text_of R) c.in-Atom.is) (says_given _ c.made.result c.told.ensures (made_is c.text_of.result c.made.result _ c.text_of.ensures c.made.ensures))

pub returns-in-Fragment-clause-answers : goal.returns-in-Fragment-clause-answers
returns-in-Fragment-clause-answers g c =
    λ lookups. says_same (λ R. ap (text_of R) c.in-Fragment.is)
    (says_given _ c.made-in-Fragment.result c.told-in-Fragment.ensures (made_is c.fragment_text.result c.made-in-Fragment.result _ c.fragment_text.ensures c.made-in-Fragment.ensures))
