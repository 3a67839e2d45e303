use Rattle.std.proofs.Common.{refl}
use Rattle.doc_model.specs.Answers.{Known}
use Rattle.xpath_meaning.specs.Conversions.{truth}
use Rattle.key_sources.proofs.Saying.{says_failed, says_then_given}
use Rattle.xpath_operations.proofs.combining.compared.Goals as goal

pub returns-in_err-holds-clause-answers : goal.returns-in_err-holds-clause-answers
returns-in_err-holds-clause-answers g c = λ lookups. says_failed (λ R holds. Known (truth holds)) c.from_residual.result c.from_residual.ensures.1 (c.in_err-holds.ensures.answers lookups)

pub returns-clause-answers : goal.returns-clause-answers
returns-clause-answers g c = λ lookups. says_then_given (λ holds. Known (truth holds)) _ c.in_ok-holds.ensures.moves (c.in_ok-holds.ensures.answers lookups) refl
