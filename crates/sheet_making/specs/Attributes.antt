-- What the attributes of an element give. Where the table of elements guarantees an attribute, what stands for one that is missing never comes.
use Rattle.std.specs.Prelude.{ℕ, ℤ, suc, Bool, false, List, [], ◌∷◌, ◌++◌, length, map, Option, Some, None, option_map, unwrap_or, slice_get}
use Rattle.sheet_ast.specs.declared.instruction.LiteralAttr.{LiteralAttr}
use Rattle.sheet_ast.specs.declared.instruction.SortDecl.{SortDecl}
use Rattle.sheet_elements.specs.declared.tag.Word.{Word}
use Rattle.sheet_elements.specs.declared.tag.Word.TheVariants as word
use Rattle.sheet_reading.specs.declared.tree.Given.{Given}
use Rattle.sheet_reading.specs.declared.tree.Name.{Name as Written}
use Rattle.sheet_values.specs.declared.value.NameTest.{NameTest}
use Rattle.sheet_values.specs.declared.value.Value.{Value}
use Rattle.sheet_values.specs.declared.value.Value.TheVariants as value
use Rattle.sheet_names.specs.declared.declaring.Names.{Names}
use Rattle.sheet_names.specs.Declaring.{first_name}
use Rattle.sheet_names.specs.Names.{Name, expanded, place_of}
use Rattle.sheet_names.specs.Values.{first_value}
use Rattle.sheet_names.specs.Placing.{placed}
use Rattle.xpath_binding.specs.Marks.{marked}
use Rattle.xpath_syntax.specs.declared.expression.AxisName.{AxisName}
use Rattle.xpath_syntax.specs.declared.expression.AxisName.TheVariants as axis
use Rattle.xpath_syntax.specs.declared.expression.Expr.{Expr}
use Rattle.xpath_syntax.specs.declared.expression.Expr.TheVariants as expr
use Rattle.xpath_syntax.specs.declared.expression.NameRef.{NameRef}
use Rattle.xpath_syntax.specs.declared.expression.Path.{roll-Path}
use Rattle.xpath_syntax.specs.declared.expression.StepExpr.{roll-StepExpr}
use Rattle.xpath_syntax.specs.declared.expression.TestExpr.TheVariants as test
use Rattle.xpath_syntax.specs.declared.pattern.Part.{Part}
use Rattle.xpath_syntax.specs.declared.pattern.Part.TheVariants as part
use Rattle.xpath_syntax.specs.declared.pattern.Pattern.{Pattern}
use Rattle.sheet_making.specs.Scopes.{Scope}

abbrev pub expression_in : Value → Option Expr
expression_in (value.Expression e) = Some e
expression_in _ = None

abbrev pub template_in : Value → Option (List Part)
template_in (value.Template parts) = Some parts
template_in _ = None

abbrev pub pattern_in : Value → Option Pattern
pattern_in (value.Pattern pattern) = Some pattern
pattern_in _ = None

abbrev pub tests_in : Value → Option (List NameTest)
tests_in (value.NameTests tests) = Some tests
tests_in _ = None

abbrev pub priority_in : Value → Option ℤ
priority_in (value.Priority hundredths) = Some hundredths
priority_in _ = None

-- which of two values that are listed an attribute has; the first where there is none
abbrev pub choice_in : Value → Option Bool
choice_in (value.IsText b) = Some b
choice_in (value.IsNumber b) = Some b
choice_in (value.IsDescending b) = Some b
choice_in (value.IsYes b) = Some b
choice_in _ = None

abbrev pub is_second : Word → List Given → Bool
is_second w given = unwrap_or (first_value choice_in w given) false

-- an expression with the slots of its variables and the marks of its paths
abbrev pub ready : Scope → Expr → Expr
ready S e = marked S.streams (placed S.names.globals S.locals e)

abbrev pub ready_part : Scope → Part → Part
ready_part S (part.Plain text) = part.Plain text
ready_part S (part.Value e) = part.Value (ready S e)

abbrev pub ready_parts : Scope → List Part → List Part
ready_parts S parts = map (ready_part S) parts

-- an expression, or what stands for it where it is missing
abbrev pub expression_or : Expr → Scope → Word → List Given → Expr
expression_or missing S w given = ready S (unwrap_or (first_value expression_in w given) missing)

abbrev pub empty_text : Expr
empty_text = expr.Literal []

abbrev pub expression : Scope → Word → List Given → Expr
expression S w given = expression_or empty_text S w given

-- a path of one step over all nodes of an axis
abbrev pub nodes_on : AxisName → Expr
nodes_on a = expr.Path (roll-Path (record {
  absolute = false;
  parts = roll-StepExpr (record { axis = a; test = test.Node; predicates = [] }) ∷ [];
  streams = false;
}))

-- a select, or else all nodes on an axis
abbrev pub select_or : AxisName → Scope → List Given → Expr
select_or a S given = expression_or (nodes_on a) S word.Select given

-- the select of xsl:apply-templates is `node()` where there is none (section 5.4)
abbrev pub select_of_children : Scope → List Given → Expr
select_of_children S given = select_or axis.Child S given

-- a sort key, whose select is `.` where there is none (section 10)
abbrev pub sort : Scope → List Given → SortDecl
sort S given = record { select = select_or axis.Itself S given; number = is_second word.DataType given; descending = is_second word.Order given }

abbrev pub some_template : Scope → Word → List Given → Option (List Part)
some_template S w given = option_map (ready_parts S) (first_value template_in w given)

abbrev pub template : Scope → Word → List Given → List Part
template S w given = unwrap_or (some_template S w given) []

-- a name that is missing
abbrev pub no_name : NameRef
no_name = record { prefix = []; local = []; uri = Some []; slot = None }

abbrev pub name_of : List Given → NameRef
name_of given = unwrap_or (first_name word.Name given) no_name

-- a name that is written, as a bound one
abbrev pub bound : Written → NameRef
bound name = record { prefix = name.prefix; local = name.local; uri = Some name.uri; slot = None }

-- an attribute of a literal result element, where its value is a template (section 7.1.1)
abbrev pub with_value : Scope → List LiteralAttr → Given → Option (List Part) → List LiteralAttr
with_value S made given None = made
with_value S made given (Some parts) = made ++ record { name = bound given.name; value = ready_parts S parts } ∷ []

abbrev pub with_attribute : Scope → List LiteralAttr → Given → List LiteralAttr
with_attribute S made given = with_value S made given (template_in given.value)

abbrev pub attributes_from : Scope → List LiteralAttr → List Given → List LiteralAttr
attributes_from S made [] = made
attributes_from S made (given ∷ more) = attributes_from S (with_attribute S made given) more

-- the attributes of a literal result element, in line order
abbrev pub literal_attributes : Scope → List Given → List LiteralAttr
literal_attributes S given = attributes_from S [] given

-- the number of a mode: its place among the modes that templates have, counted from 1; one that none has takes the number behind them
abbrev pub number_from : List Name → Option ℕ → ℕ
number_from modes None = suc (length modes)
number_from modes (Some place) = suc place

abbrev pub mode_number : List Name → Option NameRef → ℕ
mode_number modes None = 0
mode_number modes (Some name) = number_from modes (place_of modes (expanded name))

-- the template of a name, by its place among all
abbrev pub template_at : List ℕ → Option ℕ → ℕ
template_at places None = 0
template_at places (Some place) = unwrap_or (slice_get places place) 0

abbrev pub template_number : Names → NameRef → ℕ
template_number names name = template_at names.templates.places (place_of names.templates.names (expanded name))
