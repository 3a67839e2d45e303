use Rattle.std.proofs.Common.{◌≡◌, ◌∙◌, ap, sym, subst, List, ℕ}
use Rattle.xpath_meaning.specs.Comparisons.{comparison, pairs, compare_pair, nodes_with_atom, some_left}
use Rattle.xpath_meaning.specs.Outcome.{some_holds}
use Rattle.xpath_values.specs.Fragments as fragments
use Rattle.xpath_values.specs.declared.atom.Atom.TheVariants.{Text}
use Rattle.xpath_values.specs.declared.value.Value.TheVariants.{Nodes}
use Rattle.key_sources.proofs.Saying.{says_same, says_after, says_memory}
use Rattle.xpath_nodes.specs.Held.{AllJoined, HasJoined}
use Rattle.xpath_nodes.proofs.Holding.{all_on}
use Rattle.xpath_nodes.proofs.Turning.{made_ok}
use Rattle.xpath_nodes.proofs.comparing.compare_nodes.Goals as goal

pub some_pair-requires-clause-right : goal.some_pair-requires-clause-right
some_pair-requires-clause-right g c =
    subst (AllJoined (g.V.NodeView.sees c.args.view.now).steps) (sym c.as_slice.ensures) (subst (HasJoined (g.V.NodeView.sees c.args.view.now).steps) c.in-Nodes.is c.requires.right)

pub returns-in-Nodes-clause-answers : goal.returns-in-Nodes-clause-answers
returns-in-Nodes-clause-answers g c =
    λ lookups. says_same (λ R. ap (comparison c.args.op R (Nodes c.args.nodes.now)) c.in-Nodes.is
    ∙ ap (λ (right : List ℕ). some_holds (compare_pair c.args.op R) (pairs c.args.nodes.now right)) (sym c.as_slice.ensures)) (c.some_pair.ensures.answers lookups)

pub returns-in-Atom-clause-answers : goal.returns-in-Atom-clause-answers
returns-in-Atom-clause-answers g c = λ lookups. says_same (λ R. ap (comparison c.args.op R (Nodes c.args.nodes.now)) c.in-Atom.is) (c.nodes_with_atom.ensures.answers lookups)

pub some_left-requires : goal.some_left-requires
some_left-requires g c = all_on _ _ _ c.told.ensures.grows c.requires.left

pub returns-in_ok-text-in-Fragment-clause-answers : goal.returns-in_ok-text-in-Fragment-clause-answers
returns-in_ok-text-in-Fragment-clause-answers g c = λ lookups. says_same
    (λ R. ap (comparison c.args.op R (Nodes c.args.nodes.now)) c.in-Fragment.is
    ∙ ap (λ t. some_left c.args.op R c.args.nodes.now (Text t))
    (sym (made_ok c.fragment_text.result c.in_ok-text-in-Fragment.text (fragments.text_of c.in-Fragment.events) c.fragment_text.ensures c.in_ok-text-in-Fragment.ensures)))
    (says_after c.told.ensures (c.some_left.ensures.answers lookups))
