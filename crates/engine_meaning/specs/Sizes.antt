-- Whether a stylesheet asks for context sizes outside predicates, so that the nodes of no select may be taken one by one.
use Rattle.std.specs.Prelude.{Bool, false, ◌||◌, List, Option, Some, None}
use Rattle.std.specs.List.{list_any}
use Rattle.sheet_ast.specs.declared.instruction.Instruction.{Instruction}
use Rattle.sheet_ast.specs.declared.instruction.Instruction.TheOpen.{Instruction-F, Variable-F, VarValue-F, When-F}
use Rattle.sheet_ast.specs.declared.instruction.Instruction.TheFolds.{fold-Instruction, fold-Variable, fold-VarValue}
use Rattle.sheet_ast.specs.declared.instruction.LiteralAttr.{LiteralAttr}
use Rattle.sheet_ast.specs.declared.instruction.SortDecl.{SortDecl}
use Rattle.sheet_ast.specs.declared.instruction.Variable.{Variable}
use Rattle.sheet_ast.specs.declared.instruction.VarValue.{VarValue}
use Rattle.sheet_ast.specs.declared.sheet.Global.{Global}
use Rattle.sheet_ast.specs.declared.sheet.KeyDecl.{KeyDecl}
use Rattle.sheet_ast.specs.declared.sheet.Sheet.{Sheet}
use Rattle.sheet_ast.specs.declared.sheet.Template.{Template}
use Rattle.xpath_chains.specs.Mentions.{any, last_outside}
use Rattle.xpath_syntax.specs.declared.pattern.Part.{Part}
use Rattle.xpath_syntax.specs.declared.pattern.Part.TheVariants as part

abbrev pub part_asks : Part → Bool
part_asks (part.Plain text) = false
part_asks (part.Value e) = last_outside e

abbrev pub parts_ask : List Part → Bool
parts_ask parts = list_any part_asks parts

abbrev pub some_parts_ask : Option (List Part) → Bool
some_parts_ask None = false
some_parts_ask (Some parts) = parts_ask parts

abbrev pub attribute_asks : LiteralAttr → Bool
attribute_asks attribute = parts_ask attribute.value

abbrev pub sort_asks : SortDecl → Bool
sort_asks sort = last_outside sort.select

abbrev pub some_ask : Option (List Bool) → Bool
some_ask None = false
some_ask (Some body) = any body

-- by what its parts ask for
abbrev pub layer_asks : Instruction-F Bool Bool Bool Bool → Bool
layer_asks (Instruction-F.LiteralText text) = false
layer_asks (Instruction-F.LiteralElement name attributes body) = list_any attribute_asks attributes || any body
layer_asks (Instruction-F.ValueOf e) = last_outside e
layer_asks (Instruction-F.CopyOf e) = last_outside e
layer_asks (Instruction-F.Copy body) = any body
layer_asks (Instruction-F.Element name namespace scopes body) = parts_ask name || (some_parts_ask namespace || any body)
layer_asks (Instruction-F.Attribute name namespace scopes body) = parts_ask name || (some_parts_ask namespace || any body)
layer_asks (Instruction-F.Processing name body) = parts_ask name || any body
layer_asks (Instruction-F.Comment body) = any body
layer_asks (Instruction-F.Message terminate body) = any body
layer_asks (Instruction-F.If test body) = last_outside test || any body
layer_asks (Instruction-F.Choose whens otherwise) = any whens || some_ask otherwise
layer_asks (Instruction-F.Local variable) = variable
layer_asks (Instruction-F.Apply select mode sorts params) = last_outside select || (list_any sort_asks sorts || any params)
layer_asks (Instruction-F.ForEach select sorts body) = last_outside select || (list_any sort_asks sorts || any body)
layer_asks (Instruction-F.CallTemplate template params) = any params

abbrev pub variable_layer_asks : Variable-F Bool Bool Bool Bool → Bool
variable_layer_asks variable = variable.value

abbrev pub value_layer_asks : VarValue-F Bool Bool Bool Bool → Bool
value_layer_asks (VarValue-F.Select e) = last_outside e
value_layer_asks (VarValue-F.Content body) = any body
value_layer_asks VarValue-F.Empty = false

abbrev pub when_layer_asks : When-F Bool Bool Bool Bool → Bool
when_layer_asks when = last_outside when.test || any when.body

unfoldable pub instruction_asks : Instruction → Bool
instruction_asks = fold-Instruction Bool Bool Bool Bool layer_asks value_layer_asks variable_layer_asks when_layer_asks

unfoldable pub variable_asks : Variable → Bool
variable_asks = fold-Variable Bool Bool Bool Bool layer_asks value_layer_asks variable_layer_asks when_layer_asks

unfoldable pub value_asks : VarValue → Bool
value_asks = fold-VarValue Bool Bool Bool Bool layer_asks value_layer_asks variable_layer_asks when_layer_asks

abbrev pub template_asks : Template → Bool
template_asks template = list_any variable_asks template.params || list_any instruction_asks template.body

abbrev pub global_asks : Global → Bool
global_asks global = value_asks global.value

abbrev pub key_asks : KeyDecl → Bool
key_asks key = last_outside key.value

-- some expression of the stylesheet has a call of last() that stands in no predicate, in whatever template, global or key it is; the expressions of patterns all stand in predicates
unfoldable pub asks_size : Sheet → Bool
asks_size sheet = list_any template_asks sheet.templates || (list_any global_asks sheet.globals || list_any key_asks sheet.keys)
