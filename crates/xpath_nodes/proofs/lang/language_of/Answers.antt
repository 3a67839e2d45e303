use Rattle.std.proofs.Common.{◌≡◌, ◌∙◌, ap, sym, subst, List, ℕ}
use Rattle.doc_model.specs.declared.node_test.Test.TheVariants as test
use Rattle.doc_model.specs.declared.row.Axis.TheVariants as axis
use Rattle.doc_laws.proofs.Moving.{moves_on}
use Rattle.xpath_laws.specs.Sound.{Each, IsThere}
use Rattle.xpath_meaning.specs.Functions.{nearest_lang}
use Rattle.key_sources.proofs.Saying.{keeps_axis, says_exit, says_failed, says_memory, says_then, says_same}
use Rattle.xpath_nodes.proofs.ByView.{any_lookups, axis_held}
use Rattle.xpath_nodes.proofs.Holding.{there_on}
use Rattle.xpath_nodes.proofs.lang.language_of.Goals as goal

pub axis_nodes-requires : goal.axis_nodes-requires
axis_nodes-requires g c = c.requires.0

pub returns-in_err-nodes-clause-answers : goal.returns-in_err-nodes-clause-answers
returns-in_err-nodes-clause-answers g c = λ lookups. says_failed (λ R nodes. nearest_lang R nodes) c.from_residual.result c.from_residual.ensures.1 (c.in_err-nodes.ensures.answers lookups)

pub returns-in_err-test-clause-answers : goal.returns-in_err-test-clause-answers
returns-in_err-test-clause-answers g c = λ lookups. says_exit c.from_residual-in_err-test.result c.from_residual-in_err-test.ensures.1 says_memory

pub nearest_lang-requires-clause-there : goal.nearest_lang-requires-clause-there
nearest_lang-requires-clause-there g c =
    let t = g.V.NodeView.sees c.axis_nodes.new.view in
    subst (λ (ns : List ℕ). Each (IsThere t.rules t.steps) ns) (sym c.as_slice.ensures)
    (axis_held axis.AncestorOrSelf test.Any c.args.n (there_on _ _ c.args.n c.in_ok-nodes.ensures.moves c.requires) (c.in_ok-nodes.ensures.answers any_lookups))

pub returns-clause-moves : goal.returns-clause-moves
returns-clause-moves g c = moves_on _ _ _ c.in_ok-nodes.ensures.moves c.nearest_lang.ensures.moves

pub returns-clause-answers : goal.returns-clause-answers
returns-clause-answers g c = λ lookups. says_then (λ R nodes. nearest_lang R nodes) (keeps_axis axis.AncestorOrSelf test.Any c.args.n) c.in_ok-nodes.ensures.moves
    (c.in_ok-nodes.ensures.answers lookups)
    c.nearest_lang.ensures.moves (says_same (λ R. sym (ap (nearest_lang R) c.as_slice.ensures)) (c.nearest_lang.ensures.answers lookups))
