-- What expressions, paths and steps are made of: the meanings of their parts.
use Rattle.std.specs.Prelude.{ℕ, List, Bool, Option, Some, None}
use Rattle.std.specs.Option.{is_some}
use Rattle.doc_model.specs.Answers.{Known}
use Rattle.whole_num.specs.Text as numbers
use Rattle.whole_num.specs.declared.number.Num.{Num}
use Rattle.xpath_syntax.specs.declared.expression.AxisName.{AxisName}
use Rattle.xpath_syntax.specs.declared.expression.TestExpr.{TestExpr}
use Rattle.xpath_values.specs.Values.{truth_of_value}
use Rattle.xpath_values.specs.declared.value.Value.{Value}
use Rattle.xpath_meaning.specs.declared.context.Context.{Context}
use Rattle.xpath_meaning.specs.declared.context.Size.{Size}
use Rattle.xpath_meaning.specs.Conversions.{text_of, text_of_first, number_of, nodes_of, holds}
use Rattle.xpath_meaning.specs.Outcome.{Outcome, ◌>>=◌, calculated}
use Rattle.xpath_meaning.specs.Reading.{Reading}
use Rattle.xpath_meaning.specs.Streams.{Stream, first_item}

-- what is meant by a reading, the values of the variables, and a context
abbrev pub Meaning : Type 0 → Type 0
Meaning A = Reading → List Value → Context → A

-- an expression: its value, and its items if it is a location path whose nodes may be taken one by one
pub record Meant : Type 0 where
  pub value : Meaning (Outcome Value)
  pub items : Option (Meaning Stream)

-- a step: its axis and node test, and what its predicates mean
pub record MeantStep : Type 0 where
  pub axis : AxisName
  pub test : TestExpr
  pub predicates : List Meant

pub record MeantPath : Type 0 where
  pub absolute : Bool
  pub parts : List MeantStep
  pub streams : Bool

-- an expression that is no path
abbrev pub plain : Meaning (Outcome Value) → Meant
plain value = record { value = value; items = None }

-- A path whose nodes may be taken one by one is judged by its first item, where a string or a boolean is asked for.

abbrev pub text_by : Option (Meaning Stream) → Meaning (Outcome Value) → Meaning (Outcome (List ℕ))
text_by None value R values c = value R values c >>= text_of R
text_by (Some items) value R values c = first_item (items R values c) >>= text_of_first R

-- the expression as a string
abbrev pub text_at : Meant → Meaning (Outcome (List ℕ))
text_at m = text_by m.items m.value

abbrev pub truth_by : Option (Meaning Stream) → Meaning (Outcome Value) → Meaning (Outcome Bool)
truth_by None value R values c = value R values c >>= λ v. Known (truth_of_value v)
truth_by (Some items) value R values c = first_item (items R values c) >>= λ first. Known (is_some first)

-- the expression as a boolean
abbrev pub truth_at : Meant → Meaning (Outcome Bool)
truth_at m = truth_by m.items m.value

abbrev pub number_by : Option (Meaning Stream) → Meaning (Outcome Value) → Meaning (Outcome Num)
number_by None value R values c = value R values c >>= number_of R
number_by (Some items) value R values c = first_item (items R values c) >>= text_of_first R >>= λ bytes. calculated (numbers.number_of bytes)

-- the expression as a number, of a path that of its string
abbrev pub number_at : Meant → Meaning (Outcome Num)
number_at m = number_by m.items m.value

-- the expression where a node-set is needed
abbrev pub nodes_at : Meant → Meaning (Outcome (List ℕ))
nodes_at m R values c = m.value R values c >>= nodes_of

abbrev pub holds_by : Option (Meaning Stream) → Meaning (Outcome Value) → Meaning (Outcome Bool)
holds_by None value R values c = value R values c >>= λ v. Known (holds v c.position)
holds_by (Some items) value R values c = first_item (items R values c) >>= λ first. Known (is_some first)

-- the expression as a predicate
abbrev pub holds_at : Meant → Meaning (Outcome Bool)
holds_at m = holds_by m.items m.value

-- the same variables and current node, at another node
abbrev pub at_node : Context → Size → ℕ → ℕ → Context
at_node c size position n = record { node = n; position = position; size = size; current = c.current }
