use Rattle.std.proofs.Common.{◌≡◌, ◌++◌, drop, map}
use Rattle.engine_meaning.specs.Sorts.{node_in}
use Rattle.engine_frames.proofs.selects.nodes_in.Given as goal

abbrev pub invariant-loop-place : goal.invariant-loop-place
invariant-loop-place l = l.found ++ map (node_in l.fn.nodes) (drop l.place-index l.fn.places) ≡ map (node_in l.fn.nodes) l.fn.places
