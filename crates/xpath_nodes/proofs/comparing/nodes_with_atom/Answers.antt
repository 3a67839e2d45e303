use Rattle.std.proofs.Common.{◌∙◌, ap, sym, eqb, length, not}
use Rattle.xpath_meaning.specs.Comparisons.{compare_atoms, nodes_with_atom, some_left}
use Rattle.xpath_values.specs.declared.atom.Atom.TheVariants.{Truth}
use Rattle.key_sources.proofs.Saying.{gives_same, says_same, says_given}
use Rattle.xpath_nodes.proofs.comparing.nodes_with_atom.Goals as goal

pub returns-in-Truth-clause-answers : goal.returns-in-Truth-clause-answers
returns-in-Truth-clause-answers g c = λ lookups. says_same (λ R. ap (nodes_with_atom c.args.op R c.args.nodes.now) c.in-Truth.is)
    (says_given (compare_atoms c.args.op (Truth (not (eqb (length c.args.nodes.now) 0))) (Truth c.in-Truth.field-0)) c.compare_atoms.result c.told.ensures
    (gives_same (compare_atoms c.args.op (Truth (not c.is_empty.result)) c.args.atom.now)
    (compare_atoms c.args.op (Truth (not (eqb (length c.args.nodes.now) 0))) (Truth c.in-Truth.field-0)) c.compare_atoms.result
    (ap (λ e. compare_atoms c.args.op (Truth (not e)) c.args.atom.now) c.is_empty.ensures
    ∙ ap (compare_atoms c.args.op (Truth (not (eqb (length c.args.nodes.now) 0)))) c.in-Truth.is) c.compare_atoms.ensures))

pub returns-in-Number-clause-answers : goal.returns-in-Number-clause-answers
returns-in-Number-clause-answers g c =
    λ lookups. says_same (λ R. ap (nodes_with_atom c.args.op R c.args.nodes.now) c.in-Number.is ∙ sym (ap (some_left c.args.op R c.args.nodes.now) c.in-Number.is))
    (c.some_left.ensures.answers lookups)

pub returns-in-Text-clause-answers : goal.returns-in-Text-clause-answers
returns-in-Text-clause-answers g c =
    λ lookups. says_same (λ R. ap (nodes_with_atom c.args.op R c.args.nodes.now) c.in-Text.is ∙ sym (ap (some_left c.args.op R c.args.nodes.now) c.in-Text.is))
    (c.some_left-in-Text.ensures.answers lookups)
