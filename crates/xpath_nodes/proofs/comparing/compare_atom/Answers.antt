use Rattle.std.proofs.Common.{◌≡◌, ◌∙◌, ap, sym, List, ℕ}
use Rattle.xpath_meaning.specs.Comparisons.{comparison, compare_atoms, atom_with_nodes}
use Rattle.xpath_values.specs.Fragments as fragments
use Rattle.xpath_values.specs.declared.value.Value.TheVariants.{Atom}
use Rattle.key_sources.proofs.Saying.{gives_same, says_same, says_given}
use Rattle.xpath_nodes.proofs.Turning.{made_ok}
use Rattle.xpath_nodes.proofs.comparing.compare_atom.Goals as goal

pub returns-in-Nodes-clause-answers : goal.returns-in-Nodes-clause-answers
returns-in-Nodes-clause-answers g c =
    λ lookups. says_same (λ R. ap (comparison c.args.op R (Atom c.args.a.now)) c.in-Nodes.is
    ∙ ap (λ (ns : List ℕ). atom_with_nodes c.args.op R c.args.a.now ns) (sym c.as_slice.ensures)) (c.atom_with_nodes.ensures.answers lookups)

pub returns-in_ok-beside-in-Fragment-clause-answers : goal.returns-in_ok-beside-in-Fragment-clause-answers
returns-in_ok-beside-in-Fragment-clause-answers g c = λ lookups. says_same (λ R. ap (comparison c.args.op R (Atom c.args.a.now)) c.in-Fragment.is)
    (says_given _ c.compare_atoms-in-Fragment.result c.told-in-Fragment.ensures
    (gives_same (compare_atoms c.args.op c.args.a.now c.in_ok-beside-in-Fragment.beside)
    (compare_atoms c.args.op c.args.a.now (fragments.beside c.in-Fragment.events c.args.a.now)) c.compare_atoms-in-Fragment.result
    (ap (compare_atoms c.args.op c.args.a.now)
    (made_ok c.fragment_beside.result c.in_ok-beside-in-Fragment.beside
    (fragments.beside c.in-Fragment.events c.args.a.now) c.fragment_beside.ensures c.in_ok-beside-in-Fragment.ensures)) c.compare_atoms-in-Fragment.ensures))
