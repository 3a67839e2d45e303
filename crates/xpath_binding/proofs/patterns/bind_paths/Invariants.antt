use Rattle.std.proofs.Common.{◌≡◌, map, take, Ok}
use Rattle.xpath_binding.specs.Around.{scope}
use Rattle.xpath_binding.specs.Binding.{in_order, bound_pattern_path}
use Rattle.xpath_binding.proofs.patterns.bind_paths.Given as goal

abbrev pub invariant-loop-path : goal.invariant-loop-path
invariant-loop-path l = in_order (map (bound_pattern_path (scope l.around)) (take l.path-index l.path-items)) ≡ Ok l.bound
