use Rattle.std.proofs.Common.{◌≡◌, ◌++◌, take}
use Rattle.std.specs.List.{flat_map}
use Rattle.sheet_graph.specs.Graph.{names_of}
use Rattle.sheet_graph.specs.Mentions.{instruction_mentions, variable_mentions}
use Rattle.sheet_circles.specs.Contents.{when_mentions}
use Rattle.sheet_circles.proofs.bodies.+bodies.Given as goal

abbrev pub invariant-name_body-loop-instruction : goal.invariant-name_body-loop-instruction
invariant-name_body-loop-instruction l = l.names ≡ l.initial.names ++ names_of l.sheet (flat_map instruction_mentions (take l.instruction-index l.instruction-items))

abbrev pub invariant-name_whens-loop-when : goal.invariant-name_whens-loop-when
invariant-name_whens-loop-when l = l.names ≡ l.initial.names ++ names_of l.sheet (flat_map when_mentions (take l.when-index l.when-items))

abbrev pub invariant-name_variables-loop-variable : goal.invariant-name_variables-loop-variable
invariant-name_variables-loop-variable l = l.names ≡ l.initial.names ++ names_of l.sheet (flat_map variable_mentions (take l.variable-index l.variable-items))
