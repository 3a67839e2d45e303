-- What the parts of instructions mention.
use Rattle.std.specs.Prelude.{List, [], Option, Some, None}
use Rattle.std.specs.List.{flat_map}
use Rattle.sheet_ast.specs.declared.instruction.Instruction.{Instruction}
use Rattle.sheet_ast.specs.declared.instruction.Instruction.TheFolds.{fold-When}
use Rattle.sheet_ast.specs.declared.instruction.When.{When}
use Rattle.sheet_graph.specs.Mentions.{Mentions, instruction_layer, value_layer, variable_layer, when_layer, instruction_mentions}

-- what a case of xsl:choose mentions
unfoldable pub when_mentions : When → Mentions
when_mentions = fold-When Mentions Mentions Mentions Mentions instruction_layer value_layer variable_layer when_layer

abbrev pub otherwise_mentions : Option (List Instruction) → Mentions
otherwise_mentions None = []
otherwise_mentions (Some body) = flat_map instruction_mentions body
