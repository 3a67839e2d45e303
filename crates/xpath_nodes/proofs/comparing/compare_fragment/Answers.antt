use Rattle.std.proofs.Common.{◌≡◌, ◌∙◌, ap, sym, subst, List, ℕ}
use Rattle.xpath_meaning.specs.Comparisons.{comparison, some_right}
use Rattle.xpath_values.specs.Fragments as fragments
use Rattle.xpath_values.specs.declared.atom.Atom.TheVariants.{Text}
use Rattle.xpath_values.specs.declared.value.Value.TheVariants.{Fragment}
use Rattle.key_sources.proofs.Saying.{says_after, says_same}
use Rattle.xpath_nodes.specs.Held.{AllJoined, HasJoined}
use Rattle.xpath_nodes.proofs.Holding.{value_on}
use Rattle.xpath_nodes.proofs.Turning.{made_ok}
use Rattle.xpath_nodes.proofs.comparing.compare_fragment.Goals as goal

pub some_right-requires : goal.some_right-requires
some_right-requires g c =
    subst (λ (ns : List ℕ). AllJoined (g.V.NodeView.sees c.told.new.self).steps ns) (sym c.as_slice.ensures)
    (subst (HasJoined (g.V.NodeView.sees c.told.new.self).steps) c.in-Nodes.is (value_on _ _ c.args.b.now c.told.ensures.grows c.requires))

pub returns-in_ok-text-in-Nodes-clause-answers : goal.returns-in_ok-text-in-Nodes-clause-answers
returns-in_ok-text-in-Nodes-clause-answers g c = λ lookups. says_same
    (λ R. ap (comparison c.args.op R (Fragment c.args.events.now)) c.in-Nodes.is
    ∙ ap (λ (ns : List ℕ). some_right c.args.op R (Text (fragments.text_of c.args.events.now)) ns) (sym c.as_slice.ensures)
    ∙ ap (λ t. some_right c.args.op R (Text t) c.as_slice.result.now)
    (sym (made_ok c.fragment_text.result c.in_ok-text-in-Nodes.text (fragments.text_of c.args.events.now) c.fragment_text.ensures c.in_ok-text-in-Nodes.ensures)))
    (says_after c.told.ensures (c.some_right.ensures.answers lookups))
