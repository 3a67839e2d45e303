use Rattle.std.proofs.Common.{◌≡◌, ◌≤◌, map, take}
use Rattle.xpath_syntax.proofs.expression.Expr.TheLaws.{the_size}
use Rattle.sheet_names.specs.Joining.{joined}
use Rattle.sheet_names.specs.Placing.{placed, placed_step}
use Rattle.sheet_names.proofs.placing.+placing.Given as goal

-- the operators passed over make the whole of what is left
abbrev pub invariant-place-loop-at : goal.invariant-place-loop-at
invariant-place-loop-at l = (the_size l.at ≤ the_size l.fn.e) × (joined (placed l.globals l.locals l.at) l.above ≡ placed l.globals l.locals l.fn.e)

abbrev pub invariant-place_all-loop-one : goal.invariant-place_all-loop-one
invariant-place_all-loop-one l = l.copies ≡ map (placed l.globals l.locals) (take l.one-index l.one-items)

abbrev pub invariant-place_steps-loop-step : goal.invariant-place_steps-loop-step
invariant-place_steps-loop-step l = l.copies ≡ map (placed_step l.globals l.locals) (take l.step-index l.step-items)
