use Rattle.std.proofs.Common.{◌∙◌, ap, sym, subst}
use Rattle.whole_num.specs.Text as numbers
use Rattle.xpath_meaning.specs.Conversions.{number_of, text_of_first}
use Rattle.xpath_meaning.specs.Outcome.{◌>>=◌, calculated}
use Rattle.key_sources.proofs.Saying.{says_same, says_given}
use Rattle.xpath_nodes.specs.Held.{HasJoined}
use Rattle.xpath_nodes.proofs.Holding.{first_held}
use Rattle.xpath_nodes.proofs.Turning.{given_by}
use Rattle.xpath_nodes.proofs.texts.value_number.Goals as goal

pub first_number-requires : goal.first_number-requires
first_number-requires g c = first_held (g.V.NodeView.sees c.args.view.now).steps c.in-Nodes.nodes c.first_of.result
    (subst (HasJoined (g.V.NodeView.sees c.args.view.now).steps) c.in-Nodes.is c.requires) c.first_of.ensures

pub returns-in-Nodes-clause-answers : goal.returns-in-Nodes-clause-answers
returns-in-Nodes-clause-answers g c =
    λ lookups. says_same (λ R. ap (number_of R) c.in-Nodes.is ∙ ap (λ first. text_of_first R first >>= λ bytes. calculated (numbers.number_of bytes)) (sym c.first_of.ensures))
    (c.first_number.ensures.answers lookups)

pub returns-in-Atom-clause-answers : goal.returns-in-Atom-clause-answers
returns-in-Atom-clause-answers g c =
    λ lookups. says_same (λ R. ap (number_of R) c.in-Atom.is) (says_given _ c.calculated.result c.told.ensures (given_by c.number_of.ensures c.calculated.result c.calculated.ensures))

pub returns-in-Fragment-clause-answers : goal.returns-in-Fragment-clause-answers
returns-in-Fragment-clause-answers g c =
    λ lookups. says_same (λ R. ap (number_of R) c.in-Fragment.is) (says_given _ c.converted.result c.told-in-Fragment.ensures (c.converted.ensures c.in-Fragment.events c.fragment_number.ensures))
