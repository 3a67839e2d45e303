use Rattle.std.proofs.Common.{◌∙◌, ap, sym, subst}
use Rattle.doc_laws.proofs.Moving.{moves_on}
use Rattle.key_sources.proofs.Saying.{says_after, says_given, says_same}
use Rattle.xpath_operations.specs.Operands.{IsHeld, combined}
use Rattle.xpath_operations.proofs.Held.{held_on}
use Rattle.xpath_operations.proofs.combining.combined.Goals as goal

pub returns-in-Truth-clause-answers : goal.returns-in-Truth-clause-answers
returns-in-Truth-clause-answers g c = λ lookups. says_same (λ R. ap (λ x. combined c.args.op R x c.args.right) c.in-Truth.is) (says_given _ c.with_truth.result c.told.ensures c.with_truth.ensures)

pub returns-in-Number-clause-answers : goal.returns-in-Number-clause-answers
returns-in-Number-clause-answers g c = λ lookups. says_same (λ R. ap (λ x. combined c.args.op R x c.args.right) c.in-Number.is) (says_given _ c.with_number.result c.told.ensures c.with_number.ensures)

pub returns-in-Nodes-clause-answers : goal.returns-in-Nodes-clause-answers
returns-in-Nodes-clause-answers g c = λ lookups. says_same (λ R. ap (λ x. combined c.args.op R x c.args.right) c.in-Nodes.is) (says_given _ c.with_nodes.result c.told.ensures c.with_nodes.ensures)

pub with_value-requires-clause-left : goal.with_value-requires-clause-left
with_value-requires-clause-left g c = subst (IsHeld (g.V.NodeView.sees c.told.new.self).steps) c.in-Whole.is (held_on _ _ c.args.left c.told.ensures.grows c.requires.left)

pub with_value-requires-clause-right : goal.with_value-requires-clause-right
with_value-requires-clause-right g c = held_on _ _ c.args.right c.told.ensures.grows c.requires.right

pub returns-in-Whole-clause-moves : goal.returns-in-Whole-clause-moves
returns-in-Whole-clause-moves g c = moves_on _ _ _ c.told.ensures c.with_value.ensures.moves

pub returns-in-Whole-clause-answers : goal.returns-in-Whole-clause-answers
returns-in-Whole-clause-answers g c = λ lookups. says_same (λ R. ap (λ x. combined c.args.op R x c.args.right) c.in-Whole.is) (says_after c.told.ensures (c.with_value.ensures.answers lookups))

pub returns-in-Text-clause-answers : goal.returns-in-Text-clause-answers
returns-in-Text-clause-answers g c = λ lookups. says_same (λ R. ap (λ x. combined c.args.op R x c.args.right) c.in-Text.is) (says_given _ c.nothing.result c.told.ensures c.nothing.ensures)

pub returns-clause-answers : goal.returns-clause-answers
returns-clause-answers g c = λ lookups. says_same (λ R. ap (λ x. combined c.args.op R x c.args.right) c.in-Name.is) (says_given _ c.nothing-in-Name.result c.told.ensures c.nothing-in-Name.ensures)
