use Rattle.std.proofs.Common.{◌≡◌, ◌++◌, take}
use Rattle.std.specs.List.{flat_map}
use Rattle.sheet_graph.specs.Graph.{names_of}
use Rattle.sheet_graph.specs.Mentions.{part_mentions}
use Rattle.sheet_circles.proofs.expressions.name_parts.Given as goal

abbrev pub invariant-loop-part : goal.invariant-loop-part
invariant-loop-part l = l.names ≡ l.initial.names ++ names_of l.sheet (flat_map part_mentions (take l.part-index l.part-items))
