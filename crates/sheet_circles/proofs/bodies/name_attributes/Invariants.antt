use Rattle.std.proofs.Common.{◌≡◌, ◌++◌, take}
use Rattle.std.specs.List.{flat_map}
use Rattle.sheet_graph.specs.Graph.{names_of}
use Rattle.sheet_graph.specs.Mentions.{attribute_mentions}
use Rattle.sheet_circles.proofs.bodies.name_attributes.Given as goal

abbrev pub invariant-loop-attribute : goal.invariant-loop-attribute
invariant-loop-attribute l = l.names ≡ l.initial.names ++ names_of l.sheet (flat_map attribute_mentions (take l.attribute-index l.attribute-items))
