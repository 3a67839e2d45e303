use Rattle.std.proofs.Common.{◌≡◌, ◌++◌, drop, map}
use Rattle.engine_meaning.specs.Sorts.{how_of}
use Rattle.engine_frames.proofs.selects.hows_of.Given as goal

abbrev pub invariant-loop-sort : goal.invariant-loop-sort
invariant-loop-sort l = l.hows ++ map how_of (drop l.sort-index l.fn.sorts) ≡ map how_of l.fn.sorts
