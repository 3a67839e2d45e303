-- Operators by their operands, as operators and functions take them (XPath 1.0, sections 3.2 to 3.5).
use Rattle.std.specs.Prelude.{ℕ, Bool, true, false, List, [], ◌++◌, Option, Some, None, ⊤, Result, pos}
use Rattle.std.specs.Option.{is_some}
use Rattle.doc_model.specs.declared.step.Step.{Step}
use Rattle.doc_model.specs.Answers.{Known}
use Rattle.whole_num.specs.Number.{sum_of, difference_of, product_of, quotient_of, remainder_of}
use Rattle.whole_num.specs.Text as numbers
use Rattle.whole_num.specs.declared.number.Num.{Num}
use Rattle.whole_num.specs.declared.number.Num.TheVariants as num
use Rattle.whole_num.specs.declared.number.NumFault.{NumFault}
use Rattle.xpath_syntax.specs.declared.expression.Op.{Op}
use Rattle.xpath_syntax.specs.declared.expression.Op.TheVariants as op
use Rattle.xpath_values.specs.Values.{truth_of_value}
use Rattle.xpath_values.specs.declared.value.Value.{Value}
use Rattle.xpath_values.specs.declared.value.Value.TheVariants as value
use Rattle.xpath_meaning.specs.Comparisons.{comparison}
use Rattle.xpath_meaning.specs.Conversions.{number, number_of, nodes_of, text, text_of, text_of_first, truth}
use Rattle.xpath_meaning.specs.DocumentOrder.{document_order}
use Rattle.xpath_meaning.specs.Meanings.{Meaning, Meant, text_at, truth_at, number_at, nodes_at}
use Rattle.xpath_meaning.specs.Outcome.{Outcome, ◌>>=◌, calculated}
use Rattle.xpath_meaning.specs.Reading.{Reading}
use Rattle.xpath_nodes.specs.Held.{AllJoined, HasJoined}
use Rattle.xpath_operations.specs.declared.operand.Operand.{Operand}
use Rattle.xpath_operations.specs.declared.operand.Operand.TheVariants.{Truth, Number, Nodes, Whole, Text, Name}
use Rattle.xpath_operations.specs.declared.operand.OperandKind.{OperandKind}
use Rattle.xpath_operations.specs.declared.operand.OperandKind.TheVariants as kind

-- the nodes of an operand are there
abbrev pub IsHeld : List Step → Operand → Type 0
IsHeld steps (Truth b) = ⊤
IsHeld steps (Number n) = ⊤
IsHeld steps (Nodes nodes) = AllJoined steps nodes
IsHeld steps (Whole v) = HasJoined steps v
IsHeld steps (Text bytes) = ⊤
IsHeld steps Name = ⊤

-- what an operator takes
abbrev pub kind_of : Op → OperandKind
kind_of op.Or = kind.Truth
kind_of op.And = kind.Truth
kind_of op.Equal = kind.Whole
kind_of op.NotEqual = kind.Whole
kind_of op.Less = kind.Whole
kind_of op.LessEqual = kind.Whole
kind_of op.Greater = kind.Whole
kind_of op.GreaterEqual = kind.Whole
kind_of op.Add = kind.Number
kind_of op.Subtract = kind.Number
kind_of op.Multiply = kind.Number
kind_of op.Div = kind.Number
kind_of op.Mod = kind.Number
kind_of op.Union = kind.Nodes

abbrev pub operand_by : OperandKind → Reading → Value → Outcome Operand
operand_by kind.Truth R v = Known (Truth (truth_of_value v))
operand_by kind.Number R v = number_of R v >>= λ n. Known (Number n)
operand_by kind.Nodes R v = nodes_of v >>= λ nodes. Known (Nodes nodes)
operand_by kind.Whole R v = Known (Whole v)
operand_by kind.Text R v = text_of R v >>= λ bytes. Known (Text bytes)

-- whether an operand is a value that was converted to a boolean, a number or a string, so that a path whose nodes may be taken one by one is judged by its first node
abbrev pub is_converted : OperandKind → Bool
is_converted kind.Truth = true
is_converted kind.Number = true
is_converted kind.Nodes = false
is_converted kind.Whole = false
is_converted kind.Text = true

-- a first node, or none, as an operand; none of another kind is asked for
abbrev pub operand_of_first : OperandKind → Reading → Option ℕ → Outcome Operand
operand_of_first kind.Truth R first = Known (Truth (is_some first))
operand_of_first kind.Number R first = (text_of_first R first >>= λ bytes. calculated (numbers.number_of bytes)) >>= λ n. Known (Number n)
operand_of_first kind.Nodes R first = Known Name
operand_of_first kind.Whole R first = Known Name
operand_of_first kind.Text R first = text_of_first R first >>= λ bytes. Known (Text bytes)

-- an expression as an operand
abbrev pub operand_as : OperandKind → Meant → Meaning (Outcome Operand)
operand_as kind.Truth m R values c = truth_at m R values c >>= λ b. Known (Truth b)
operand_as kind.Number m R values c = number_at m R values c >>= λ n. Known (Number n)
operand_as kind.Nodes m R values c = nodes_at m R values c >>= λ nodes. Known (Nodes nodes)
operand_as kind.Whole m R values c = m.value R values c >>= λ v. Known (Whole v)
operand_as kind.Text m R values c = text_at m R values c >>= λ bytes. Known (Text bytes)

-- an expression as an operand of an operator
abbrev pub operand_in : Op → Meant → Meaning (Outcome Operand)
operand_in op m = operand_as (kind_of op) m

-- what the left operand decides
abbrev pub or_decided : Bool → Option Value
or_decided true = Some (truth true)
or_decided false = None

abbrev pub and_decided : Bool → Option Value
and_decided true = None
and_decided false = Some (truth false)

abbrev pub by_truth : Op → Bool → Option Value
by_truth op.Or b = or_decided b
by_truth op.And b = and_decided b
by_truth op.Equal b = None
by_truth op.NotEqual b = None
by_truth op.Less b = None
by_truth op.LessEqual b = None
by_truth op.Greater b = None
by_truth op.GreaterEqual b = None
by_truth op.Add b = None
by_truth op.Subtract b = None
by_truth op.Multiply b = None
by_truth op.Div b = None
by_truth op.Mod b = None
by_truth op.Union b = None

abbrev pub decided : Op → Operand → Option Value
decided op (Truth b) = by_truth op b
decided op (Number n) = None
decided op (Nodes nodes) = None
decided op (Whole v) = None
decided op (Text bytes) = None
decided op Name = None

-- the calculation of an operator; that of no other operator is asked for
abbrev pub calculating : Op → Num → Num → Result Num NumFault
calculating op.Or = sum_of
calculating op.And = sum_of
calculating op.Equal = sum_of
calculating op.NotEqual = sum_of
calculating op.Less = sum_of
calculating op.LessEqual = sum_of
calculating op.Greater = sum_of
calculating op.GreaterEqual = sum_of
calculating op.Add = sum_of
calculating op.Subtract = difference_of
calculating op.Multiply = product_of
calculating op.Div = quotient_of
calculating op.Mod = remainder_of
calculating op.Union = sum_of

abbrev pub calculation : Op → Num → Num → Outcome Value
calculation op a b = calculated (calculating op a b) >>= λ n. Known (number n)

abbrev pub union : List ℕ → List ℕ → Outcome Value
union a b = Known (value.Nodes (document_order (a ++ b)))

-- what an operator gives of two operands as it takes them; of operands of other kinds it gives the empty text
abbrev pub nothing : Outcome Value
nothing = Known (text [])

abbrev pub with_truth : Operand → Outcome Value
with_truth (Truth b) = Known (truth b)
with_truth (Number b) = nothing
with_truth (Nodes b) = nothing
with_truth (Whole b) = nothing
with_truth (Text b) = nothing
with_truth Name = nothing

abbrev pub with_number : Op → Num → Operand → Outcome Value
with_number op a (Truth b) = nothing
with_number op a (Number b) = calculation op a b
with_number op a (Nodes b) = nothing
with_number op a (Whole b) = nothing
with_number op a (Text b) = nothing
with_number op a Name = nothing

abbrev pub with_nodes : List ℕ → Operand → Outcome Value
with_nodes a (Truth b) = nothing
with_nodes a (Number b) = nothing
with_nodes a (Nodes b) = union a b
with_nodes a (Whole b) = nothing
with_nodes a (Text b) = nothing
with_nodes a Name = nothing

abbrev pub with_value : Op → Reading → Value → Operand → Outcome Value
with_value op R a (Truth b) = nothing
with_value op R a (Number b) = nothing
with_value op R a (Nodes b) = nothing
with_value op R a (Whole b) = comparison op R a b >>= λ holds. Known (truth holds)
with_value op R a (Text b) = nothing
with_value op R a Name = nothing

abbrev pub combined : Op → Reading → Operand → Operand → Outcome Value
combined op R (Truth a) y = with_truth y
combined op R (Number a) y = with_number op a y
combined op R (Nodes a) y = with_nodes a y
combined op R (Whole a) y = with_value op R a y
combined op R (Text a) y = nothing
combined op R Name y = nothing

-- an operation behind its left operand
abbrev pub unless_decided : Option Value → Outcome Value → Outcome Value
unless_decided None rest = rest
unless_decided (Some v) rest = Known v

abbrev pub applied : Op → Operand → Meant → Meaning (Outcome Value)
applied op x right R values c = unless_decided (decided op x) (operand_in op right R values c >>= λ y. combined op R x y)

-- the number of an operand; one that is none is not a number
abbrev pub number_in : Operand → Num
number_in (Truth b) = num.NaN
number_in (Number n) = n
number_in (Nodes nodes) = num.NaN
number_in (Whole v) = num.NaN
number_in (Text bytes) = num.NaN
number_in Name = num.NaN

-- the unary minus
abbrev pub negated : Operand → Outcome Value
negated x = calculated (difference_of (num.Whole (pos 0)) (number_in x)) >>= λ n. Known (number n)
