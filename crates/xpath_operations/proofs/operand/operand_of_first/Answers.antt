use Rattle.std.proofs.Common.{ap, sym, refl}
use Rattle.doc_model.specs.Answers.{Known}
use Rattle.key_sources.proofs.Saying.{says_known, says_same}
use Rattle.xpath_operations.specs.declared.operand.Operand.TheVariants.{Truth}
use Rattle.xpath_operations.specs.Operands.{operand_of_first}
use Rattle.xpath_operations.proofs.operand.operand_of_first.Goals as goal

pub returns-in-Truth-clause-answers : goal.returns-in-Truth-clause-answers
returns-in-Truth-clause-answers g c = λ lookups. says_same (λ R. ap (λ k. operand_of_first k R c.args.first) c.in-Truth.is) (says_known (λ R. ap (λ b. Known (Truth b)) (sym c.is_some.ensures)))

pub returns-in-Number-clause-answers : goal.returns-in-Number-clause-answers
returns-in-Number-clause-answers g c = λ lookups. says_same (λ R. ap (λ k. operand_of_first k R c.args.first) c.in-Number.is) (c.number_of_first.ensures.answers lookups)

pub returns-in-Text-clause-answers : goal.returns-in-Text-clause-answers
returns-in-Text-clause-answers g c = λ lookups. says_same (λ R. ap (λ k. operand_of_first k R c.args.first) c.in-Text.is) (c.text_of_first.ensures.answers lookups)

pub returns-in-Nodes-clause-answers : goal.returns-in-Nodes-clause-answers
returns-in-Nodes-clause-answers g c = λ lookups. says_same (λ R. ap (λ k. operand_of_first k R c.args.first) c.in-Nodes.is) (says_known (λ R. refl))

pub returns-in-Whole-clause-answers : goal.returns-in-Whole-clause-answers
returns-in-Whole-clause-answers g c = λ lookups. says_same (λ R. ap (λ k. operand_of_first k R c.args.first) c.in-Whole.is) (says_known (λ R. refl))
