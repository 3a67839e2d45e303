use Rattle.std.proofs.Common.{refl}
use Rattle.doc_model.specs.Answers.{Known}
use Rattle.key_sources.proofs.Saying.{says_failed, says_then_given}
use Rattle.xpath_operations.specs.declared.operand.Operand.TheVariants.{Text}
use Rattle.xpath_operations.proofs.operand.text_of_first.Goals as goal

pub returns-in_err-text-clause-answers : goal.returns-in_err-text-clause-answers
returns-in_err-text-clause-answers g c = λ lookups. says_failed (λ R bytes. Known (Text bytes)) c.from_residual.result c.from_residual.ensures.1 (c.in_err-text.ensures.answers lookups)

pub returns-clause-answers : goal.returns-clause-answers
returns-clause-answers g c = λ lookups. says_then_given (λ bytes. Known (Text bytes)) _ c.in_ok-text.ensures.moves (c.in_ok-text.ensures.answers lookups) refl
