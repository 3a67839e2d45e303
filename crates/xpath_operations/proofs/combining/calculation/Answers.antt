use Rattle.std.proofs.Common.{ap, Ok, Err}
use Rattle.doc_model.specs.Answers.{Known}
use Rattle.xpath_meaning.specs.Conversions.{number}
use Rattle.xpath_meaning.specs.Outcome.{◌>>=◌, calculated}
use Rattle.key_sources.proofs.Saying.{gives_exit, gives_stops}
use Rattle.xpath_nodes.proofs.Turning.{given_by}
use Rattle.xpath_operations.specs.Operands.{calculating, calculation}
use Rattle.xpath_operations.proofs.combining.calculation.Goals as goal

pub returns-in_err-number : goal.returns-in_err-number
returns-in_err-number c = gives_exit (calculation c.args.op c.args.a c.args.b) c.from_residual.result c.in_err-number.field-0.0 c.from_residual.ensures.1
    (gives_stops (calculated (calculating c.args.op c.args.a c.args.b)) (λ n. Known (number n)) c.in_err-number.field-0.0
    (given_by c.calculate.ensures (Err c.in_err-number.field-0.0) c.in_err-number.ensures))

pub returns : goal.returns
returns c = ap (λ o. o >>= λ n. Known (number n)) (given_by c.calculate.ensures (Ok c.in_ok-number.number) c.in_ok-number.ensures)
