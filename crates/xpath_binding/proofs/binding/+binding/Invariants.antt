use Rattle.std.proofs.Common.{◌≡◌, ◌+◌, ◌*◌, map, take, drop, Ok}
use Rattle.xpath_binding.specs.Around.{scope}
use Rattle.xpath_binding.specs.Binding.{in_order, bound, bound_step}
use Rattle.xpath_binding.proofs.Carried.{carried}
use Rattle.xpath_binding.proofs.binding.+binding.Given as goal

-- what is left of the operators makes the whole of what is bound
abbrev pub invariant-bind_expr-loop-applied : goal.invariant-bind_expr-loop-applied
invariant-bind_expr-loop-applied l = carried (scope l.around) (Ok l.whole) (drop l.applied-index l.applied-items) ≡ bound (scope l.around) l.e

abbrev pub invariant-bind_all-loop-one : goal.invariant-bind_all-loop-one
invariant-bind_all-loop-one l = in_order (map (bound (scope l.around)) (take l.one-index l.one-items)) ≡ Ok l.bound

abbrev pub invariant-bind_steps-loop-step : goal.invariant-bind_steps-loop-step
invariant-bind_steps-loop-step l = in_order (map (bound_step (scope l.around)) (take l.step-index l.step-items)) ≡ Ok l.bound

abbrev pub decreases-bind_expr : goal.decreases-bind_expr
decreases-bind_expr l = 8 * goal.size-bind_expr l + 1

abbrev pub decreases-bind_operand : goal.decreases-bind_operand
decreases-bind_operand l = 8 * goal.size-bind_operand l + 0

abbrev pub decreases-bind_all : goal.decreases-bind_all
decreases-bind_all l = 8 * goal.size-bind_all l + 2

abbrev pub decreases-bind_call : goal.decreases-bind_call
decreases-bind_call l = 8 * goal.size-bind_call l + 3

abbrev pub decreases-bind_step : goal.decreases-bind_step
decreases-bind_step l = 8 * goal.size-bind_step l + 3

abbrev pub decreases-bind_steps : goal.decreases-bind_steps
decreases-bind_steps l = 8 * goal.size-bind_steps l + 4

abbrev pub decreases-bind_path : goal.decreases-bind_path
decreases-bind_path l = 8 * goal.size-bind_path l + 5

abbrev pub decreases-bind_tail : goal.decreases-bind_tail
decreases-bind_tail l = 8 * goal.size-bind_tail l + 6
