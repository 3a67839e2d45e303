use Rattle.std.proofs.Common.{◌≡◌, [], length}
use Rattle.sheet_source.specs.Building.{completed}
use Rattle.sheet_source.proofs.building.Building.finish.Given as goal

abbrev pub invariant-loop-building : goal.invariant-loop-building
invariant-loop-building l = completed l.building [] ≡ completed l.fn.self []

abbrev pub decreases-loop-building : goal.decreases-loop-building
decreases-loop-building l = length l.building.stack
