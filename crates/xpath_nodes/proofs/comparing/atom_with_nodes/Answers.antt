use Rattle.std.proofs.Common.{◌∙◌, ap, sym, eqb, length, not}
use Rattle.xpath_meaning.specs.Comparisons.{compare_atoms, atom_with_nodes, some_right}
use Rattle.xpath_values.specs.declared.atom.Atom.TheVariants.{Truth}
use Rattle.key_sources.proofs.Saying.{gives_same, says_same, says_given}
use Rattle.xpath_nodes.proofs.comparing.atom_with_nodes.Goals as goal

pub returns-in-Truth-clause-answers : goal.returns-in-Truth-clause-answers
returns-in-Truth-clause-answers g c = λ lookups. says_same (λ R. ap (λ a. atom_with_nodes c.args.op R a c.args.nodes.now) c.in-Truth.is)
    (says_given (compare_atoms c.args.op (Truth c.in-Truth.field-0) (Truth (not (eqb (length c.args.nodes.now) 0)))) c.compare_atoms.result c.told.ensures
    (gives_same (compare_atoms c.args.op c.args.atom.now (Truth (not c.is_empty.result)))
    (compare_atoms c.args.op (Truth c.in-Truth.field-0) (Truth (not (eqb (length c.args.nodes.now) 0)))) c.compare_atoms.result
    (ap (λ e. compare_atoms c.args.op c.args.atom.now (Truth (not e))) c.is_empty.ensures
    ∙ ap (λ a. compare_atoms c.args.op a (Truth (not (eqb (length c.args.nodes.now) 0)))) c.in-Truth.is) c.compare_atoms.ensures))

pub returns-in-Number-clause-answers : goal.returns-in-Number-clause-answers
returns-in-Number-clause-answers g c =
    λ lookups. says_same (λ R. ap (λ a. atom_with_nodes c.args.op R a c.args.nodes.now) c.in-Number.is ∙ sym (ap (λ a. some_right c.args.op R a c.args.nodes.now) c.in-Number.is))
    (c.some_right.ensures.answers lookups)

pub returns-in-Text-clause-answers : goal.returns-in-Text-clause-answers
returns-in-Text-clause-answers g c =
    λ lookups. says_same (λ R. ap (λ a. atom_with_nodes c.args.op R a c.args.nodes.now) c.in-Text.is ∙ sym (ap (λ a. some_right c.args.op R a c.args.nodes.now) c.in-Text.is))
    (c.some_right-in-Text.ensures.answers lookups)
