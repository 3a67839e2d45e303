use Rattle.std.proofs.Common.{◌-◌, ap, Some, cond, arith}
use Rattle.doc_model.specs.Answers.{Known}
use Rattle.doc_laws.proofs.Moving.{moves_none}
use Rattle.key_sources.proofs.Saying.{went_moves, went_on, says_exit, says_same, says_stops, says_then, says_known}
use Rattle.xpath_nodes.proofs.Holding.{there_on}
use Rattle.patterns.specs.declared.trials.Turn.TheVariants.{Missed}
use Rattle.patterns.specs.Trials.{turn_behind}
use Rattle.patterns.proofs.Forking.{turn_at}
use Rattle.patterns.proofs.Lasting.{keeps_step}
use Rattle.patterns.proofs.stepping.step_turn.Goals as goal

pub returns-in_err-here-clause-answers : goal.returns-in_err-here-clause-answers
returns-in_err-here-clause-answers g c =
    let some = c.requires.some in
    let within = c.requires.within in
    let step = c.step_at-step.result.now in
    let before = c.args.at.steps - 1 in
    says_exit c.from_residual.result c.from_residual.ensures.1
    (says_same (λ R. turn_at R c.args.path.now c.args.at.node c.args.at.steps before step (omega (arith, some)) (omega (arith, some, within)) c.step_at-step.ensures)
    (says_stops (λ R here. cond here (turn_behind R step.deep before c.args.at.node) (Known (Some Missed))) c.in_err-here.ensures.answers))

pub returns-then-not-here-clause-answers : goal.returns-then-not-here-clause-answers
returns-then-not-here-clause-answers g c =
    let some = c.requires.some in
    let within = c.requires.within in
    let step = c.step_at-step.result.now in
    let before = c.args.at.steps - 1 in
    says_same (λ R. turn_at R c.args.path.now c.args.at.node c.args.at.steps before step (omega (arith, some)) (omega (arith, some, within)) c.step_at-step.ensures)
    (says_then (λ R here. cond here (turn_behind R step.deep before c.args.at.node) (Known (Some Missed))) (keeps_step step c.args.at.node) c.in_ok-here.ensures.went.moves c.in_ok-here.ensures.answers
    (moves_none _ c.in_ok-here.ensures.went.moves.seen) (says_known (λ R. ap (λ here. cond here (turn_behind R step.deep before c.args.at.node) (Known (Some Missed))) c.if-not-here.true)))

pub turn_behind-requires : goal.turn_behind-requires
turn_behind-requires g c = there_on _ _ c.args.at.node c.in_ok-here.ensures.went.moves c.requires.there

pub returns-clause-went : goal.returns-clause-went
returns-clause-went g c =
    went_on c.in_ok-here.ensures.went (went_moves (g.met.K.KeySource.goes_on c.is_step_to.new.keys) c.turn_behind.ensures.moves c.in_ok-here.ensures.went.stands)

pub returns-clause-answers : goal.returns-clause-answers
returns-clause-answers g c =
    let some = c.requires.some in
    let within = c.requires.within in
    let step = c.step_at-step.result.now in
    let before = c.args.at.steps - 1 in
    says_same (λ R. turn_at R c.args.path.now c.args.at.node c.args.at.steps before step (omega (arith, some)) (omega (arith, some, within)) c.step_at-step.ensures)
    (says_then (λ R here. cond here (turn_behind R step.deep before c.args.at.node) (Known (Some Missed))) (keeps_step step c.args.at.node) c.in_ok-here.ensures.went.moves c.in_ok-here.ensures.answers
    c.turn_behind.ensures.moves (says_same (λ R. ap (λ here. cond here (turn_behind R step.deep before c.args.at.node) (Known (Some Missed))) c.if-not-here.false) (c.turn_behind.ensures.answers _)))
