use Rattle.std.proofs.Common.{ap, sym}
use Rattle.doc_model.specs.Answers.{Known}
use Rattle.key_sources.proofs.Saying.{says_same, says_stops, says_exit, says_then_given}
use Rattle.patterns.specs.Trials.{steps_left, met_if, turn_of}
use Rattle.patterns.proofs.stepping.turn.Goals as goal

pub returns-in_err-met-clause-answers : goal.returns-in_err-met-clause-answers
returns-in_err-met-clause-answers g c =
    says_exit c.from_residual.result c.from_residual.ensures.1
    (says_same (λ R. ap (λ k. turn_of R c.args.path.now.start (steps_left c.args.path.now.parts k) c.args.at.node) c.if-at-eq0.true)
    (says_stops (λ R here. Known (met_if here)) c.in_err-met.ensures.answers))

pub returns-then-at-eq0-clause-answers : goal.returns-then-at-eq0-clause-answers
returns-then-at-eq0-clause-answers g c =
    says_same (λ R. ap (λ k. turn_of R c.args.path.now.start (steps_left c.args.path.now.parts k) c.args.at.node) c.if-at-eq0.true)
    (says_then_given (λ here. Known (met_if here)) _ c.in_ok-met.ensures.went.moves c.in_ok-met.ensures.answers (ap Known (sym c.met_if.ensures)))
