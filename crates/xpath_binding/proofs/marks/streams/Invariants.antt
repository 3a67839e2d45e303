use Rattle.std.proofs.Common.{◌≡◌, take, true}
use Rattle.std.specs.List.{list_all}
use Rattle.xpath_binding.specs.Marks.{is_plain}
use Rattle.xpath_binding.proofs.marks.streams.Given as goal

abbrev pub invariant-loop-step : goal.invariant-loop-step
invariant-loop-step l = list_all is_plain (take l.step-index l.step-items) ≡ true
