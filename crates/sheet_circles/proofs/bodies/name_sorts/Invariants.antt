use Rattle.std.proofs.Common.{◌≡◌, ◌++◌, take}
use Rattle.std.specs.List.{flat_map}
use Rattle.sheet_graph.specs.Graph.{names_of}
use Rattle.sheet_graph.specs.Mentions.{sort_mentions}
use Rattle.sheet_circles.proofs.bodies.name_sorts.Given as goal

abbrev pub invariant-loop-sort : goal.invariant-loop-sort
invariant-loop-sort l = l.names ≡ l.initial.names ++ names_of l.sheet (flat_map sort_mentions (take l.sort-index l.sort-items))
