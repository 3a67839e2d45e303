use Rattle.std.proofs.Common.{◌≡◌, refl, sym, ap, ◌∙◌, subst, [], ◌∷◌, ◌++◌, ℕ, List, Option}
use Rattle.doc_model.specs.Answers.{Known}
use Rattle.doc_laws.proofs.Moving.{moves_on, moves_none}
use Rattle.key_sources.proofs.Saying.{stands_on, says_failed, says_then, went_moves, went_on}
use Rattle.xpath_nodes.proofs.Holding.{there_on}
use Rattle.xpath_calls.specs.Given.{given}
use Rattle.xpath_calls.proofs.Completing.{completed_kept}
use Rattle.xpath_calls.proofs.calling.called.Goals as goal

pub returns-in_err-completed-clause-went : goal.returns-in_err-completed-clause-went
returns-in_err-completed-clause-went g c = went_moves (g.met.K.KeySource.goes_on c.args.keys.now) c.in_err-completed.ensures.moves c.requires.stands

pub returns-in_err-completed-clause-answers : goal.returns-in_err-completed-clause-answers
returns-in_err-completed-clause-answers g c =
    says_failed (λ R xs. given c.args.function c.args.slot xs R c.args.ctx.now) c.from_residual.result c.from_residual.ensures.1 (c.in_err-completed.ensures.answers _)

pub given-requires-clause-stands : goal.given-requires-clause-stands
given-requires-clause-stands g c = stands_on (g.met.K.KeySource.goes_on c.args.keys.now) c.in_ok-completed.ensures.moves c.requires.stands

pub given-requires-clause-context : goal.given-requires-clause-context
given-requires-clause-context g c = there_on _ _ c.args.ctx.now.node c.in_ok-completed.ensures.moves c.requires.context

pub returns-clause-went : goal.returns-clause-went
returns-clause-went g c = went_on (went_moves (g.met.K.KeySource.goes_on c.args.keys.now) c.in_ok-completed.ensures.moves c.requires.stands) c.given.ensures.went

pub returns-clause-answers : goal.returns-clause-answers
returns-clause-answers g c = says_then (λ R xs. given c.args.function c.args.slot xs R c.args.ctx.now)
    (completed_kept c.args.function c.args.arguments c.args.ctx.now) c.in_ok-completed.ensures.moves (c.in_ok-completed.ensures.answers _)
    c.given.ensures.went.moves c.given.ensures.answers
