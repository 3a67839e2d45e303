use Rattle.std.proofs.Common.{ap, sym, refl}
use Rattle.doc_model.specs.Answers.{Known}
use Rattle.key_sources.proofs.Saying.{says_given, says_known, says_same}
use Rattle.xpath_operations.specs.declared.operand.Operand.TheVariants.{Truth}
use Rattle.xpath_operations.specs.Operands.{operand_by}
use Rattle.xpath_operations.proofs.operand.operand_of.Goals as goal

pub returns-in-Truth-clause-answers : goal.returns-in-Truth-clause-answers
returns-in-Truth-clause-answers g c = λ lookups. says_same (λ R. ap (λ k. operand_by k R c.args.value) c.in-Truth.is) (says_known (λ R. ap (λ b. Known (Truth b)) (sym c.value_truth.ensures)))

pub returns-in-Number-clause-answers : goal.returns-in-Number-clause-answers
returns-in-Number-clause-answers g c = λ lookups. says_same (λ R. ap (λ k. operand_by k R c.args.value) c.in-Number.is) (c.number_of.ensures.answers lookups)

pub returns-in-Nodes-clause-answers : goal.returns-in-Nodes-clause-answers
returns-in-Nodes-clause-answers g c = λ lookups. says_same (λ R. ap (λ k. operand_by k R c.args.value) c.in-Nodes.is) (says_given _ c.nodes_of.result c.told-in-Nodes.ensures c.nodes_of.ensures)

pub returns-in-Whole-clause-answers : goal.returns-in-Whole-clause-answers
returns-in-Whole-clause-answers g c = λ lookups. says_same (λ R. ap (λ k. operand_by k R c.args.value) c.in-Whole.is) (says_known (λ R. refl))

pub returns-in-Text-clause-answers : goal.returns-in-Text-clause-answers
returns-in-Text-clause-answers g c = λ lookups. says_same (λ R. ap (λ k. operand_by k R c.args.value) c.in-Text.is) (c.text_of.ensures.answers lookups)
