use Rattle.std.proofs.Common.{◌∙◌, ap, length, pos, Ok, Err}
use Rattle.doc_model.specs.Answers.{Known}
use Rattle.key_sources.proofs.Saying.{gives_exit, gives_stops}
use Rattle.whole_num.specs.Number.{ranged}
use Rattle.xpath_funcs.specs.Characters.{characters}
use Rattle.xpath_meaning.specs.Calls.{length_of}
use Rattle.xpath_meaning.specs.Conversions.{number}
use Rattle.xpath_meaning.specs.Outcome.{◌>>=◌, calculated}
use Rattle.xpath_nodes.proofs.Turning.{given_by}
use Rattle.xpath_calls.proofs.texts.length_of.Goals as goal

pub returns-in_err-length : goal.returns-in_err-length
returns-in_err-length c = gives_exit (length_of c.args.a.now) c.from_residual.result c.in_err-length.field-0.0 c.from_residual.ensures.1
    (gives_stops (calculated (ranged (pos (length (characters c.args.a.now))))) (λ n. Known (number n)) c.in_err-length.field-0.0
    (given_by (c.ranged.ensures ∙ ap (λ n. ranged (pos n)) c.string_length.ensures) (Err c.in_err-length.field-0.0) c.in_err-length.ensures))

pub returns : goal.returns
returns c = ap (λ o. o >>= λ n. Known (number n)) (given_by (c.ranged.ensures ∙ ap (λ n. ranged (pos n)) c.string_length.ensures) (Ok c.in_ok-length.length) c.in_ok-length.ensures)
