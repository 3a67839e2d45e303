use Rattle.std.proofs.Common.{◌∙◌, ap, subst}
use Rattle.whole_num.specs.Text as numbers
use Rattle.xpath_meaning.specs.Outcome.{calculated}
use Rattle.key_sources.specs.Going.{Gives}
use Rattle.key_sources.proofs.Saying.{says_failed, says_then_given}
use Rattle.xpath_nodes.proofs.texts.node_number.Goals as goal

pub returns-in_err-text-clause-answers : goal.returns-in_err-text-clause-answers
returns-in_err-text-clause-answers g c =
    λ lookups. says_failed (λ R bytes. calculated (numbers.number_of bytes)) c.from_residual.result c.from_residual.ensures.1 (c.in_err-text.ensures.answers lookups)

pub returns-clause-answers : goal.returns-clause-answers
returns-clause-answers g c = λ lookups. says_then_given (λ bytes. calculated (numbers.number_of bytes)) c.calculated.result c.in_ok-text.ensures.moves (c.in_ok-text.ensures.answers lookups)
    (subst (λ r. Gives (calculated r) c.calculated.result) (c.parse.ensures.value ∙ ap numbers.number_of c.as_slice.ensures) c.calculated.ensures)
