-- Which function a call is of, and how it takes its arguments (XPath 1.0, sections 3.2 and 4; XSLT 1.0, section 12).
use Rattle.std.specs.Prelude.{ℕ, suc, zero, List, [], ◌∷◌, Bool, true, false, Option, Some, None}
use Rattle.doc_model.specs.Answers.{Known}
use Rattle.xpath_binding.specs.Functions.{takes}
use Rattle.xpath_binding.specs.declared.functions.Function.{Function}
use Rattle.xpath_binding.specs.declared.functions.Function.TheVariants as function
use Rattle.xpath_meaning.specs.declared.context.Context.{Context}
use Rattle.xpath_meaning.specs.Calls.{function_of}
use Rattle.xpath_meaning.specs.Meanings.{Meaning, Meant}
use Rattle.xpath_meaning.specs.Outcome.{Outcome, ◌>>=◌}
use Rattle.xpath_meaning.specs.Reading.{Reading}
use Rattle.xpath_operations.specs.Operands.{operand_as, operand_by}
use Rattle.xpath_operations.specs.declared.operand.Operand.{Operand}
use Rattle.xpath_operations.specs.declared.operand.Operand.TheVariants.{Name}
use Rattle.xpath_operations.specs.declared.operand.OperandKind.{OperandKind}
use Rattle.xpath_operations.specs.declared.operand.OperandKind.TheVariants as kind
use Rattle.xpath_syntax.specs.declared.expression.NameRef.{NameRef}
use Rattle.xpath_values.specs.declared.value.Value.{Value}
use Rattle.xpath_values.specs.declared.value.Value.TheVariants as value

-- a function takes so many arguments; concat() takes any number here
abbrev pub accepts : Function → ℕ → Bool
accepts function.Concat n = true
accepts f n = takes f n

abbrev pub accepted_by : Function → Bool → Option Function
accepted_by f true = Some f
accepted_by f false = None

abbrev pub accepted : Option Function → ℕ → Option Function
accepted None n = None
accepted (Some f) n = accepted_by f (accepts f n)

-- the function that a call with so many arguments is of
abbrev pub call_of : NameRef → ℕ → Option Function
call_of name n = accepted (function_of name.prefix name.local) n

abbrev pub key_kind_at : ℕ → Option OperandKind
key_kind_at zero = None
key_kind_at (suc at) = Some kind.Whole

abbrev pub substring_kind_at : ℕ → Option OperandKind
substring_kind_at zero = Some kind.Text
substring_kind_at (suc at) = Some kind.Number

-- how a function takes its argument at a place, counted from 0; it does not evaluate the name of a key
abbrev pub kind_at : Function → ℕ → Option OperandKind
kind_at function.Count at = Some kind.Nodes
kind_at function.Sum at = Some kind.Nodes
kind_at function.LocalName at = Some kind.Nodes
kind_at function.NamespaceUri at = Some kind.Nodes
kind_at function.Name at = Some kind.Nodes
kind_at function.GenerateId at = Some kind.Nodes
kind_at function.Number at = Some kind.Number
kind_at function.Floor at = Some kind.Number
kind_at function.Ceiling at = Some kind.Number
kind_at function.Round at = Some kind.Number
kind_at function.Boolean at = Some kind.Truth
kind_at function.Not at = Some kind.Truth
kind_at function.Id at = Some kind.Whole
kind_at function.Key at = key_kind_at at
kind_at function.Substring at = substring_kind_at at
kind_at function.Last at = Some kind.Text
kind_at function.Position at = Some kind.Text
kind_at function.True at = Some kind.Text
kind_at function.False at = Some kind.Text
kind_at function.Current at = Some kind.Text
kind_at function.String at = Some kind.Text
kind_at function.StringLength at = Some kind.Text
kind_at function.NormalizeSpace at = Some kind.Text
kind_at function.Concat at = Some kind.Text
kind_at function.StartsWith at = Some kind.Text
kind_at function.Contains at = Some kind.Text
kind_at function.SubstringBefore at = Some kind.Text
kind_at function.SubstringAfter at = Some kind.Text
kind_at function.Translate at = Some kind.Text
kind_at function.Lang at = Some kind.Text

-- an argument that is taken so
abbrev pub argument : Option OperandKind → Meant → Meaning (Outcome Operand)
argument None m R values c = Known Name
argument (Some k) m R values c = operand_as k m R values c

-- the arguments from a place on, from the left
abbrev pub arguments : Function → ℕ → List Meant → Meaning (Outcome (List Operand))
arguments f at [] R values c = Known []
arguments f at (m ∷ ms) R values c = argument (kind_at f at) m R values c >>= λ x. arguments f (suc at) ms R values c >>= λ xs. Known (x ∷ xs)

-- functions that without an argument are those of the context node
abbrev pub is_of_context : Function → Bool
is_of_context function.String = true
is_of_context function.StringLength = true
is_of_context function.NormalizeSpace = true
is_of_context function.Number = true
is_of_context function.LocalName = true
is_of_context function.NamespaceUri = true
is_of_context function.Name = true
is_of_context function.GenerateId = true
is_of_context f = false

-- the context node as an argument
abbrev pub own_argument : Option OperandKind → Reading → Context → Outcome Operand
own_argument None R c = Known Name
own_argument (Some k) R c = operand_by k R (value.Nodes (c.node ∷ []))

abbrev pub own_arguments : Bool → Function → Reading → Context → Outcome (List Operand)
own_arguments true f R c = own_argument (kind_at f 0) R c >>= λ x. Known (x ∷ [])
own_arguments false f R c = Known []

-- the arguments with that of the context node, where there is none and it is needed
abbrev pub completed : Function → List Operand → Reading → Context → Outcome (List Operand)
completed f [] R c = own_arguments (is_of_context f) f R c
completed f (x ∷ xs) R c = Known (x ∷ xs)
