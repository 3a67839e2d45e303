use Rattle.std.proofs.Common.{◌≡◌, take}
use Rattle.xpath_chains.proofs.copies.copy_pattern_path.Given as goal

abbrev pub invariant-loop-step : goal.invariant-loop-step
invariant-loop-step l = l.parts ≡ take l.step-index l.step-items
