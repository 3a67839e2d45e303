use Rattle.std.proofs.Common.{refl}
use Rattle.doc_model.specs.Answers.{Known}
use Rattle.xpath_meaning.specs.Conversions.{number}
use Rattle.key_sources.proofs.Saying.{says_failed, says_then_given}
use Rattle.xpath_calls.proofs.nodes.summed.Goals as goal

pub returns-in_err-total-clause-answers : goal.returns-in_err-total-clause-answers
returns-in_err-total-clause-answers g c = λ lookups. says_failed (λ R n. Known (number n)) c.from_residual.result c.from_residual.ensures.1 (c.in_err-total.ensures.answers lookups)

pub returns-clause-answers : goal.returns-clause-answers
returns-clause-answers g c = λ lookups. says_then_given (λ n. Known (number n)) _ c.in_ok-total.ensures.moves (c.in_ok-total.ensures.answers lookups) refl
