-- What expressions and instructions mention that a global may depend on.
use Rattle.std.specs.Prelude.{ℕ, List, [], ◌∷◌, ◌++◌, Option, Some, None}
use Rattle.std.specs.List.{flat_map}
use Rattle.sheet_ast.specs.declared.instruction.Instruction.{Instruction}
use Rattle.sheet_ast.specs.declared.instruction.Instruction.TheOpen.{Instruction-F, Variable-F, VarValue-F, When-F}
use Rattle.sheet_ast.specs.declared.instruction.Instruction.TheFolds.{fold-Instruction, fold-Variable, fold-VarValue}
use Rattle.sheet_ast.specs.declared.instruction.LiteralAttr.{LiteralAttr}
use Rattle.sheet_ast.specs.declared.instruction.SortDecl.{SortDecl}
use Rattle.sheet_ast.specs.declared.instruction.Variable.{Variable}
use Rattle.sheet_ast.specs.declared.instruction.VarValue.{VarValue}
use Rattle.xpath_syntax.specs.declared.expression.Expr.{Expr}
use Rattle.xpath_syntax.specs.declared.expression.Expr.TheOpen.{Expr-F, Path-F, StepExpr-F}
use Rattle.xpath_syntax.specs.declared.expression.Expr.TheFolds.{fold-Expr}
use Rattle.xpath_syntax.specs.declared.pattern.Part.{Part}
use Rattle.xpath_syntax.specs.declared.pattern.Part.TheVariants as part

-- a variable by its slot, the template at a place that is called, or the templates of a mode that are applied
pub data Mention : Type 0 where
  OfVariable : ℕ → Mention
  OfTemplate : ℕ → Mention
  OfMode : ℕ → Mention

abbrev pub Mentions : Type 0
Mentions = List Mention

abbrev pub joined : List Mentions → Mentions
joined lists = flat_map (λ mentions. mentions) lists

abbrev pub slot_mentions : Option ℕ → Mentions
slot_mentions None = []
slot_mentions (Some slot) = OfVariable slot ∷ []

-- By what its parts mention. In what order things are mentioned doesn't count: of operations and filters the last operand comes first.
abbrev pub expr_layer : Expr-F Mentions Mentions Mentions → Mentions
expr_layer (Expr-F.Binary op left right) = right ++ left
expr_layer (Expr-F.Minus inner) = inner
expr_layer (Expr-F.Literal text) = []
expr_layer (Expr-F.Number whole) = []
expr_layer (Expr-F.Variable name) = slot_mentions name.slot
expr_layer (Expr-F.Call name args) = joined args
expr_layer (Expr-F.Path path) = path
expr_layer (Expr-F.Filter primary predicates None) = joined predicates ++ primary
expr_layer (Expr-F.Filter primary predicates (Some tail)) = joined predicates ++ tail ++ primary

abbrev pub path_layer : Path-F Mentions Mentions Mentions → Mentions
path_layer path = joined path.parts

abbrev pub step_layer : StepExpr-F Mentions Mentions Mentions → Mentions
step_layer step = joined step.predicates

-- the variables of an expression
unfoldable pub expr_mentions : Expr → Mentions
expr_mentions = fold-Expr Mentions Mentions Mentions expr_layer path_layer step_layer

abbrev pub part_mentions : Part → Mentions
part_mentions (part.Plain text) = []
part_mentions (part.Value e) = expr_mentions e

abbrev pub parts_mention : List Part → Mentions
parts_mention parts = flat_map part_mentions parts

abbrev pub some_parts_mention : Option (List Part) → Mentions
some_parts_mention None = []
some_parts_mention (Some parts) = parts_mention parts

abbrev pub attribute_mentions : LiteralAttr → Mentions
attribute_mentions attribute = parts_mention attribute.value

abbrev pub sort_mentions : SortDecl → Mentions
sort_mentions sort = expr_mentions sort.select

abbrev pub some_mention : Option (List Mentions) → Mentions
some_mention None = []
some_mention (Some body) = joined body

abbrev pub instruction_layer : Instruction-F Mentions Mentions Mentions Mentions → Mentions
instruction_layer (Instruction-F.LiteralText text) = []
instruction_layer (Instruction-F.LiteralElement name attributes body) = flat_map attribute_mentions attributes ++ joined body
instruction_layer (Instruction-F.ValueOf e) = expr_mentions e
instruction_layer (Instruction-F.CopyOf e) = expr_mentions e
instruction_layer (Instruction-F.Copy body) = joined body
instruction_layer (Instruction-F.Element name namespace scope body) = parts_mention name ++ some_parts_mention namespace ++ joined body
instruction_layer (Instruction-F.Attribute name namespace scope body) = parts_mention name ++ some_parts_mention namespace ++ joined body
instruction_layer (Instruction-F.Processing name body) = parts_mention name ++ joined body
instruction_layer (Instruction-F.Comment body) = joined body
instruction_layer (Instruction-F.Message terminate body) = joined body
instruction_layer (Instruction-F.If test body) = expr_mentions test ++ joined body
instruction_layer (Instruction-F.Choose whens otherwise) = joined whens ++ some_mention otherwise
instruction_layer (Instruction-F.Local variable) = variable
instruction_layer (Instruction-F.Apply select mode sorts params) = expr_mentions select ++ flat_map sort_mentions sorts ++ joined params ++ OfMode mode ∷ []
instruction_layer (Instruction-F.ForEach select sorts body) = expr_mentions select ++ flat_map sort_mentions sorts ++ joined body
instruction_layer (Instruction-F.CallTemplate template params) = joined params ++ OfTemplate template ∷ []

abbrev pub variable_layer : Variable-F Mentions Mentions Mentions Mentions → Mentions
variable_layer variable = variable.value

abbrev pub value_layer : VarValue-F Mentions Mentions Mentions Mentions → Mentions
value_layer (VarValue-F.Select e) = expr_mentions e
value_layer (VarValue-F.Content body) = joined body
value_layer VarValue-F.Empty = []

abbrev pub when_layer : When-F Mentions Mentions Mentions Mentions → Mentions
when_layer when = expr_mentions when.test ++ joined when.body

unfoldable pub instruction_mentions : Instruction → Mentions
instruction_mentions = fold-Instruction Mentions Mentions Mentions Mentions instruction_layer value_layer variable_layer when_layer

unfoldable pub variable_mentions : Variable → Mentions
variable_mentions = fold-Variable Mentions Mentions Mentions Mentions instruction_layer value_layer variable_layer when_layer

unfoldable pub value_mentions : VarValue → Mentions
value_mentions = fold-VarValue Mentions Mentions Mentions Mentions instruction_layer value_layer variable_layer when_layer
