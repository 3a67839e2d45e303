use Rattle.std.proofs.Common.{ap, sym}
use Rattle.doc_model.specs.Answers.{Known}
use Rattle.key_sources.proofs.Saying.{gives_exit}
use Rattle.xpath_meaning.specs.Conversions.{text}
use Rattle.xpath_meaning.specs.declared.stop.EvalStop.TheVariants.{Memory}
use Rattle.xpath_calls.proofs.texts.copied.Goals as goal

pub returns-in_err-text : goal.returns-in_err-text
returns-in_err-text c = gives_exit (Known (text c.args.a.now)) c.from_residual.result Memory c.from_residual.ensures.1 tt

pub returns : goal.returns
returns c = ap (λ t. Known (text t)) (sym c.in_ok-text.ensures)
