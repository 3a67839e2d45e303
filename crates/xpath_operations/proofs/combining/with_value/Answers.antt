use Rattle.std.proofs.Common.{◌∙◌, ap, sym, subst}
use Rattle.doc_laws.proofs.Moving.{moves_on}
use Rattle.key_sources.proofs.Saying.{says_after, says_given, says_same}
use Rattle.xpath_nodes.proofs.Holding.{value_on}
use Rattle.xpath_operations.specs.Operands.{IsHeld, with_value}
use Rattle.xpath_operations.proofs.Held.{held_on}
use Rattle.xpath_operations.proofs.combining.with_value.Goals as goal

pub compared-requires-clause-left : goal.compared-requires-clause-left
compared-requires-clause-left g c = value_on _ _ c.args.a c.told.ensures.grows c.requires.left

pub compared-requires-clause-right : goal.compared-requires-clause-right
compared-requires-clause-right g c = subst (IsHeld (g.V.NodeView.sees c.told.new.self).steps) c.in-Whole.is (held_on _ _ c.args.right c.told.ensures.grows c.requires.right)

pub returns-in-Whole-clause-moves : goal.returns-in-Whole-clause-moves
returns-in-Whole-clause-moves g c = moves_on _ _ _ c.told.ensures c.compared.ensures.moves

pub returns-in-Whole-clause-answers : goal.returns-in-Whole-clause-answers
returns-in-Whole-clause-answers g c = λ lookups. says_same (λ R. ap (with_value c.args.op R c.args.a) c.in-Whole.is) (says_after c.told.ensures (c.compared.ensures.answers lookups))

pub returns-in-Truth-clause-answers : goal.returns-in-Truth-clause-answers
returns-in-Truth-clause-answers g c = λ lookups. says_same (λ R. ap (with_value c.args.op R c.args.a) c.in-Truth.is) (says_given _ c.nothing.result c.told.ensures c.nothing.ensures)

pub returns-in-Number-clause-answers : goal.returns-in-Number-clause-answers
returns-in-Number-clause-answers g c =
    λ lookups. says_same (λ R. ap (with_value c.args.op R c.args.a) c.in-Number.is) (says_given _ c.nothing-in-Number.result c.told.ensures c.nothing-in-Number.ensures)

pub returns-in-Nodes-clause-answers : goal.returns-in-Nodes-clause-answers
returns-in-Nodes-clause-answers g c = λ lookups. says_same (λ R. ap (with_value c.args.op R c.args.a) c.in-Nodes.is) (says_given _ c.nothing-in-Nodes.result c.told.ensures c.nothing-in-Nodes.ensures)

pub returns-in-Text-clause-answers : goal.returns-in-Text-clause-answers
returns-in-Text-clause-answers g c = λ lookups. says_same (λ R. ap (with_value c.args.op R c.args.a) c.in-Text.is) (says_given _ c.nothing-in-Text.result c.told.ensures c.nothing-in-Text.ensures)

pub returns-in-Name-clause-answers : goal.returns-in-Name-clause-answers
returns-in-Name-clause-answers g c = λ lookups. says_same (λ R. ap (with_value c.args.op R c.args.a) c.in-Name.is) (says_given _ c.nothing-in-Name.result c.told.ensures c.nothing-in-Name.ensures)
