use Rattle.std.proofs.Common.{◌≡◌, map, take, Ok}
use Rattle.xpath_binding.specs.Around.{scope}
use Rattle.xpath_binding.specs.Binding.{in_order, bound_pattern_step}
use Rattle.xpath_binding.proofs.patterns.bind_pattern_steps.Given as goal

abbrev pub invariant-loop-step : goal.invariant-loop-step
invariant-loop-step l = in_order (map (bound_pattern_step (scope l.around)) (take l.step-index l.step-items)) ≡ Ok l.bound
