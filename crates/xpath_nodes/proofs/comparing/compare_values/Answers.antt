use Rattle.std.proofs.Common.{◌∙◌, ap, sym, subst}
use Rattle.xpath_meaning.specs.Comparisons.{comparison}
use Rattle.xpath_values.specs.declared.value.Value.TheVariants.{Nodes}
use Rattle.key_sources.proofs.Saying.{says_same}
use Rattle.xpath_nodes.specs.Held.{AllJoined, HasJoined}
use Rattle.xpath_nodes.proofs.comparing.compare_values.Goals as goal

pub compare_nodes-requires-clause-left : goal.compare_nodes-requires-clause-left
compare_nodes-requires-clause-left g c =
    subst (AllJoined (g.V.NodeView.sees c.args.view.now).steps) (sym c.as_slice.ensures) (subst (HasJoined (g.V.NodeView.sees c.args.view.now).steps) c.in-Nodes.is c.requires.left)

pub returns-in-Nodes-clause-answers : goal.returns-in-Nodes-clause-answers
returns-in-Nodes-clause-answers g c =
    λ lookups. says_same (λ R. ap (λ a. comparison c.args.op R a c.args.b.now) c.in-Nodes.is ∙ ap (λ ns. comparison c.args.op R (Nodes ns) c.args.b.now) (sym c.as_slice.ensures))
    (c.compare_nodes.ensures.answers lookups)

pub returns-in-Atom-clause-answers : goal.returns-in-Atom-clause-answers
returns-in-Atom-clause-answers g c = λ lookups. says_same (λ R. ap (λ a. comparison c.args.op R a c.args.b.now) c.in-Atom.is) (c.compare_atom.ensures.answers lookups)

pub returns-in-Fragment-clause-answers : goal.returns-in-Fragment-clause-answers
returns-in-Fragment-clause-answers g c = λ lookups. says_same (λ R. ap (λ a. comparison c.args.op R a c.args.b.now) c.in-Fragment.is) (c.compare_fragment.ensures.answers lookups)
