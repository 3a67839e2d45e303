use Rattle.std.proofs.Common.{refl}
use Rattle.doc_model.specs.Answers.{Known}
use Rattle.key_sources.proofs.Saying.{says_failed, says_then_given}
use Rattle.xpath_operations.specs.declared.operand.Operand.TheVariants.{Number}
use Rattle.xpath_operations.proofs.operand.number_of_first.Goals as goal

pub returns-in_err-number-clause-answers : goal.returns-in_err-number-clause-answers
returns-in_err-number-clause-answers g c = λ lookups. says_failed (λ R n. Known (Number n)) c.from_residual.result c.from_residual.ensures.1 (c.in_err-number.ensures.answers lookups)

pub returns-clause-answers : goal.returns-clause-answers
returns-clause-answers g c = λ lookups. says_then_given (λ n. Known (Number n)) _ c.in_ok-number.ensures.moves (c.in_ok-number.ensures.answers lookups) refl
