use Rattle.std.proofs.Common.{◌≡◌, map, take}
use Rattle.sheet_making.specs.Rules.{marked_pattern_step}
use Rattle.sheet_making.proofs.rules.marked_steps.Given as goal

abbrev pub invariant-loop-step : goal.invariant-loop-step
invariant-loop-step l = l.made ≡ map (marked_pattern_step l.streams) (take l.step-index l.steps)
