use Rattle.doc_model.specs.Answers.{Known}
use Rattle.xpath_meaning.specs.Conversions.{truth}
use Rattle.key_sources.proofs.Saying.{says_failed, says_same, says_then_given}
use Rattle.xpath_calls.proofs.Completing.{spoken}
use Rattle.xpath_calls.proofs.nodes.speaking.Goals as goal

pub returns-in_err-speaks-clause-answers : goal.returns-in_err-speaks-clause-answers
returns-in_err-speaks-clause-answers g c =
    λ lookups. says_same (λ R. spoken R c.args.n c.args.asked.now) (says_failed (λ R b. Known (truth b)) c.from_residual.result c.from_residual.ensures.1 (c.in_err-speaks.ensures.answers lookups))

pub returns-clause-answers : goal.returns-clause-answers
returns-clause-answers g c = λ lookups. says_same (λ R. spoken R c.args.n c.args.asked.now)
    (says_then_given (λ b. Known (truth b)) c.truth_value.result c.in_ok-speaks.ensures.moves (c.in_ok-speaks.ensures.answers lookups) c.truth_value.ensures)
