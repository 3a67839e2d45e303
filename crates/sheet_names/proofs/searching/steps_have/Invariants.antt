use Rattle.std.proofs.Common.{◌≡◌, take, false}
use Rattle.std.specs.List.{list_any}
use Rattle.sheet_names.specs.Searching.{pattern_step_has, search_for}
use Rattle.sheet_names.proofs.searching.steps_have.Given as goal

abbrev pub invariant-loop-step : goal.invariant-loop-step
invariant-loop-step l = list_any (pattern_step_has (search_for l.sought)) (take l.step-index l.steps) ≡ false
