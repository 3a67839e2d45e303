use Rattle.std.proofs.Common.{◌≡◌, ◌≤◌, take, false}
use Rattle.std.specs.List.{list_any}
use Rattle.xpath_syntax.proofs.expression.Expr.TheLaws.{the_size}
use Rattle.sheet_names.specs.Searching as spec
use Rattle.sheet_names.specs.Searching.{search_for}
use Rattle.sheet_names.proofs.searching.+searching.Given as goal

-- what is left has it where the whole has
abbrev pub invariant-has-loop-at : goal.invariant-has-loop-at
invariant-has-loop-at l = (the_size l.at ≤ the_size l.fn.e) × (spec.has (search_for l.sought) l.at ≡ spec.has (search_for l.sought) l.fn.e)

abbrev pub invariant-any_has-loop-one : goal.invariant-any_has-loop-one
invariant-any_has-loop-one l = list_any (spec.has (search_for l.sought)) (take l.one-index l.one-items) ≡ false

abbrev pub invariant-path_has-loop-step : goal.invariant-path_has-loop-step
invariant-path_has-loop-step l = list_any (spec.step_has (search_for l.sought)) (take l.step-index l.step-items) ≡ false
