use Rattle.std.proofs.Common.{◌∙◌, ap, pos, Ok, Err}
use Rattle.doc_model.specs.Answers.{Known}
use Rattle.whole_num.specs.Number.{difference_of}
use Rattle.whole_num.specs.declared.number.Num.TheVariants.{Whole}
use Rattle.xpath_meaning.specs.Conversions.{number}
use Rattle.xpath_meaning.specs.Outcome.{◌>>=◌, calculated}
use Rattle.key_sources.proofs.Saying.{gives_exit, gives_stops}
use Rattle.xpath_nodes.proofs.Turning.{given_by}
use Rattle.xpath_operations.specs.Operands.{negated, number_in}
use Rattle.xpath_operations.proofs.combining.negated.Goals as goal

pub returns-in_err-number : goal.returns-in_err-number
returns-in_err-number c = gives_exit (negated c.args.operand) c.from_residual.result c.in_err-number.field-0.0 c.from_residual.ensures.1
    (gives_stops (calculated (difference_of (Whole (pos 0)) (number_in c.args.operand))) (λ n. Known (number n)) c.in_err-number.field-0.0
    (given_by (c.sub.ensures.value ∙ ap (difference_of (Whole (pos 0))) c.number_in.ensures) (Err c.in_err-number.field-0.0) c.in_err-number.ensures))

pub returns : goal.returns
returns c = ap (λ o. o >>= λ n. Known (number n)) (given_by (c.sub.ensures.value ∙ ap (difference_of (Whole (pos 0))) c.number_in.ensures) (Ok c.in_ok-number.number) c.in_ok-number.ensures)
