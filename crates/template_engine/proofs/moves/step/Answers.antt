use Rattle.engine_core.proofs.Keeping.{kept_none}
use Rattle.engine_core.specs.Weight.{weight_of}
use Rattle.template_engine.proofs.Stepping.{step_err, step_ok}
use Rattle.template_engine.proofs.moves.step.Goals as goal

pub returns-in_default-clause-kept : goal.returns-in_default-clause-kept
returns-in_default-clause-kept g c = kept_none c.requires.ready.stands

pub returns-in_err-go-clause-steps : goal.returns-in_err-go-clause-steps
returns-in_err-go-clause-steps g c =
    step_err _ _ _ c.args.core.now c.in-Some.frame c.pop.new.self _ (weight_of c.in-Some.frame) _ _ c.in-Some.ensures c.in_err-go.ensures.goes c.from_residual.ensures.1

pub returns-clause-steps : goal.returns-clause-steps
returns-clause-steps g c = step_ok _ _ c.args.core.now c.in-Some.frame c.pop.new.self _ c.in-Some.ensures c.in_ok-go.ensures.goes
