-- What an expression means: its value, by the values of its parts (XPath 1.0, section 3).
use Rattle.std.specs.Prelude.{ℕ, List, [], Option, Some, None, slice_get}
use Rattle.doc_model.specs.Answers.{Known}
use Rattle.whole_num.specs.declared.number.Num.TheVariants.{Whole}
use Rattle.xpath_syntax.specs.declared.expression.Expr.{Expr}
use Rattle.xpath_syntax.specs.declared.expression.Expr.TheOpen.{Expr-F, Path-F, StepExpr-F}
use Rattle.xpath_syntax.specs.declared.expression.Expr.TheFolds.{fold-Expr, fold-Path, fold-StepExpr}
use Rattle.xpath_syntax.specs.declared.expression.Path.{Path}
use Rattle.xpath_syntax.specs.declared.expression.StepExpr.{StepExpr}
use Rattle.xpath_values.specs.declared.value.Value.{Value}
use Rattle.xpath_values.specs.declared.value.Value.TheVariants.{Nodes}
use Rattle.xpath_meaning.specs.declared.context.Context.{Context}
use Rattle.xpath_meaning.specs.Calls.{call}
use Rattle.xpath_meaning.specs.Conversions.{text, number, nodes_of}
use Rattle.xpath_meaning.specs.Items.{path_items, if_streams}
use Rattle.xpath_meaning.specs.Meanings.{Meaning, Meant, MeantStep, MeantPath, plain, nodes_at}
use Rattle.xpath_meaning.specs.Operators.{binary, minus}
use Rattle.xpath_meaning.specs.Outcome.{Outcome, ◌>>=◌}
use Rattle.xpath_meaning.specs.Reading.{Reading}
use Rattle.xpath_meaning.specs.Steps.{filtered, path_nodes, tail_nodes}
use Rattle.xpath_meaning.specs.Streams.{Stream, all_of, stream_of}

abbrev pub or_nothing : Option Value → Value
or_nothing None = text []
or_nothing (Some v) = v

-- the value in a slot; a slot that there is not has the empty text
abbrev pub value_in : List Value → Option ℕ → Value
value_in values None = text []
value_in values (Some slot) = or_nothing (slice_get values slot)

abbrev pub path_value : MeantPath → Meaning (Outcome Value)
path_value path R values c = path_nodes path R values c >>= λ nodes. Known (Nodes nodes)

-- a primary that must be a node-set, the predicates on it in document order, and the path behind it
abbrev pub filter_value : Meant → List Meant → Option MeantPath → Meaning (Outcome Value)
filter_value primary predicates tail R values c =
    nodes_at primary R values c >>= λ nodes. filtered predicates nodes R values c >>= λ left. tail_nodes tail left R values c >>= λ found. Known (Nodes found)

abbrev pub expr_means : Expr-F Meant MeantPath MeantStep → Meant
expr_means (Expr-F.Binary op left right) = plain (binary op left right)
expr_means (Expr-F.Minus inner) = plain (minus inner)
expr_means (Expr-F.Literal bytes) = plain (λ R values c. Known (text bytes))
expr_means (Expr-F.Number whole) = plain (λ R values c. Known (number (Whole whole)))
expr_means (Expr-F.Variable name) = plain (λ R values c. Known (value_in values name.slot))
expr_means (Expr-F.Call name args) = plain (call name args)
expr_means (Expr-F.Path path) = record { value = path_value path; items = if_streams path.streams path }
expr_means (Expr-F.Filter primary predicates tail) = plain (filter_value primary predicates tail)

abbrev pub path_means : Path-F Meant MeantPath MeantStep → MeantPath
path_means path = record { absolute = path.absolute; parts = path.parts; streams = path.streams }

abbrev pub step_means : StepExpr-F Meant MeantPath MeantStep → MeantStep
step_means step = record { axis = step.axis; test = step.test; predicates = step.predicates }

-- what an expression, a path and a step mean
unfoldable pub meant : Expr → Meant
meant = fold-Expr Meant MeantPath MeantStep expr_means path_means step_means

unfoldable pub meant_path : Path → MeantPath
meant_path = fold-Path Meant MeantPath MeantStep expr_means path_means step_means

unfoldable pub meant_step : StepExpr → MeantStep
meant_step = fold-StepExpr Meant MeantPath MeantStep expr_means path_means step_means

-- the value of an expression
abbrev pub evaluation_of : Reading → Expr → List Value → Context → Outcome Value
evaluation_of R e values c = (meant e).value R values c

-- the items of a location path
abbrev pub path_items_of : Reading → Path → List Value → Context → Stream
path_items_of R path values c = path_items (meant_path path) R values c

abbrev pub items_by : Option (Meaning Stream) → Meaning (Outcome Value) → Meaning Stream
items_by None value R values c = stream_of (value R values c >>= nodes_of) (λ nodes. all_of nodes)
items_by (Some items) value R values c = items R values c

-- the items of an expression that selects nodes: of a path whose nodes may be taken one by one these, and of any other expression its nodes once they are known
abbrev pub items_of : Reading → Expr → List Value → Context → Stream
items_of R e values c = items_by (meant e).items (meant e).value R values c
