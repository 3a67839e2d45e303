use Rattle.std.proofs.Common.{◌≡◌, ◌≤◌, ◌+◌, ◌*◌, map, take, drop, ◌++◌}
use Rattle.xpath_syntax.proofs.expression.Expr.TheLaws.{the_size}
use Rattle.xpath_binding.specs.Marks.{marked, marked_step}
use Rattle.xpath_binding.proofs.Links.{Closes}
use Rattle.xpath_binding.proofs.marks.+mark.Given as goal

-- what stands above closes over what is marked of the rest
abbrev pub invariant-mark-loop-at : goal.invariant-mark-loop-at
invariant-mark-loop-at l = (the_size l.at ≤ the_size l.fn.e) × Closes l.above (marked l.allowed l.at) (marked l.allowed l.fn.e)

abbrev pub invariant-mark-loop-above : goal.invariant-mark-loop-above
invariant-mark-loop-above l = Closes l.above l.at (marked l.allowed l.fn.e)

abbrev pub invariant-mark_all-loop-i : goal.invariant-mark_all-loop-i
invariant-mark_all-loop-i l = l.all ≡ map (marked l.allowed) (take l.i l.fn.all) ++ drop l.i l.fn.all

abbrev pub invariant-mark_steps-loop-i : goal.invariant-mark_steps-loop-i
invariant-mark_steps-loop-i l = l.all ≡ map (marked_step l.allowed) (take l.i l.fn.all) ++ drop l.i l.fn.all

abbrev pub decreases-mark : goal.decreases-mark
decreases-mark l = 8 * goal.size-mark l + 1

abbrev pub decreases-mark_operand : goal.decreases-mark_operand
decreases-mark_operand l = 8 * goal.size-mark_operand l + 0

abbrev pub decreases-mark_tail : goal.decreases-mark_tail
decreases-mark_tail l = 8 * goal.size-mark_tail l + 6

abbrev pub decreases-mark_path : goal.decreases-mark_path
decreases-mark_path l = 8 * goal.size-mark_path l + 5

abbrev pub decreases-mark_steps : goal.decreases-mark_steps
decreases-mark_steps l = 8 * goal.size-mark_steps l + 4

abbrev pub decreases-mark_step : goal.decreases-mark_step
decreases-mark_step l = 8 * goal.size-mark_step l + 3

abbrev pub decreases-mark_all : goal.decreases-mark_all
decreases-mark_all l = 8 * goal.size-mark_all l + 2
