-- What the parts of instructions ask for.
use Rattle.std.specs.Prelude.{Bool, false, List, Option, Some, None}
use Rattle.std.specs.List.{list_any}
use Rattle.sheet_ast.specs.declared.instruction.Instruction.{Instruction}
use Rattle.sheet_ast.specs.declared.instruction.Instruction.TheFolds.{fold-When}
use Rattle.sheet_ast.specs.declared.instruction.When.{When}
use Rattle.engine_meaning.specs.Sizes.{layer_asks, value_layer_asks, variable_layer_asks, when_layer_asks, instruction_asks}

-- a case of xsl:choose asks for a context size
unfoldable pub when_asks : When → Bool
when_asks = fold-When Bool Bool Bool Bool layer_asks value_layer_asks variable_layer_asks when_layer_asks

abbrev pub otherwise_asks : Option (List Instruction) → Bool
otherwise_asks None = false
otherwise_asks (Some body) = list_any instruction_asks body
