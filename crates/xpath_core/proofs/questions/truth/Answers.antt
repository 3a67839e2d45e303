use Rattle.std.proofs.Common.{ap, sym}
use Rattle.doc_model.specs.Answers.{Known}
use Rattle.key_sources.proofs.Saying.{says_exit, says_same, says_stops, says_then_given}
use Rattle.xpath_core.proofs.Asking.{truth_asked}
use Rattle.xpath_core.proofs.questions.truth.Goals as goal
use Rattle.xpath_core.specs.Asked.{truth_in}
use Rattle.xpath_meaning.specs.Evaluation.{meant}
use Rattle.xpath_meaning.specs.Readings.{values_of}

pub returns-in_err-x-clause-went : goal.returns-in_err-x-clause-went
returns-in_err-x-clause-went g c = c.in_err-x.ensures.went

pub returns-in_err-x-clause-answers : goal.returns-in_err-x-clause-answers
returns-in_err-x-clause-answers g c = says_exit c.from_residual.result c.from_residual.ensures.1
    (says_same (λ R. truth_asked (meant c.args.e.now) R (values_of c.args.env.now) c.args.ctx.now) (says_stops (λ R x. Known (truth_in x)) c.in_err-x.ensures.answers))

pub returns-clause-went : goal.returns-clause-went
returns-clause-went g c = c.in_ok-x.ensures.went

pub returns-clause-answers : goal.returns-clause-answers
returns-clause-answers g c = says_same (λ R. truth_asked (meant c.args.e.now) R (values_of c.args.env.now) c.args.ctx.now)
    (says_then_given (λ x. Known (truth_in x)) _ c.in_ok-x.ensures.went.moves c.in_ok-x.ensures.answers (ap Known (sym c.truth_in.ensures)))
