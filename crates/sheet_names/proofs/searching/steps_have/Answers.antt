use Rattle.std.proofs.Common.{arith, sym, ◌∙◌}
use Rattle.sheet_names.specs.Searching as spec
use Rattle.sheet_names.specs.Searching.{search_for}
use Rattle.sheet_names.proofs.Found.{found_at, none_left}
use Rattle.sheet_names.proofs.searching.steps_have.Goals as goal

pub returns-then-branch : goal.returns-then-branch
returns-then-branch c =
    found_at (spec.pattern_step_has (search_for c.args.sought.now)) c.args.steps.now c.loop-step.step-index _ c.loop-step-test.true c.step-item.is
    (sym c.if-branch.true ∙ c.in_ok-step_has.ensures)

pub returns : goal.returns
returns c = none_left (spec.pattern_step_has (search_for c.args.sought.now)) c.args.steps.now c.loop-step.step-index c.loop-step.invariant (omega (arith, c.loop-step-test.false))
