-- What tokens are to the grammar, and how tightly operators bind.
use Rattle.std.specs.Prelude.{ℕ, ◌==◌, ◌||◌, if◌then◌else◌, Bool, true, false, List, [], ◌∷◌, codes}
use Rattle.std.specs.Str.{bytes_eq}
use Rattle.name_grammar.specs.Names.{is_name}
use Rattle.xpath_syntax.specs.declared.expression.Op.{Op}
use Rattle.xpath_syntax.specs.declared.expression.Op.TheVariants as op
use Rattle.xpath_syntax.specs.declared.expression.AxisName.{AxisName}
use Rattle.xpath_syntax.specs.declared.expression.AxisName.TheVariants as axis
use Rattle.xpath_syntax.specs.declared.token.TokenKind.{TokenKind}
use Rattle.xpath_syntax.specs.declared.token.TokenKind.TheVariants as kind
use Rattle.xpath_grammar.specs.declared.sign.Sign.{Sign}
use Rattle.xpath_grammar.specs.declared.sign.Sign.TheVariants as sign
use Rattle.xpath_grammar.specs.declared.sign.Precedence.{Precedence}
use Rattle.xpath_grammar.specs.declared.sign.Precedence.TheVariants as precedence
use Rattle.xpath_grammar.specs.Words.{literal_of}

-- what stands beside a spelling in a table
abbrev pub spelled_in : List (List ℕ × Sign) → List ℕ → Sign
spelled_in [] text = sign.Unknown
spelled_in (x ∷ table) text = if bytes_eq text x.0 then x.1 else spelled_in table text

-- the operators, and after them those that bind as tightly as `+` or more
abbrev pub tighter_operators : List (List ℕ × Sign)
tighter_operators =
    (codes "+", sign.Operator op.Add) ∷ (codes "-", sign.Operator op.Subtract)
    ∷ (codes "*", sign.Operator op.Multiply) ∷ (codes "div", sign.Operator op.Div) ∷ (codes "mod", sign.Operator op.Mod)
    ∷ (codes "|", sign.Operator op.Union) ∷ (codes "/", sign.Slash) ∷ (codes "//", sign.Slashes) ∷ []

abbrev pub operators : List (List ℕ × Sign)
operators =
    (codes "or", sign.Operator op.Or) ∷ (codes "and", sign.Operator op.And)
    ∷ (codes "=", sign.Operator op.Equal) ∷ (codes "!=", sign.Operator op.NotEqual)
    ∷ (codes "<", sign.Operator op.Less) ∷ (codes "<=", sign.Operator op.LessEqual)
    ∷ (codes ">", sign.Operator op.Greater) ∷ (codes ">=", sign.Operator op.GreaterEqual)
    ∷ tighter_operators

abbrev pub marks : List (List ℕ × Sign)
marks =
    (codes "(", sign.Open) ∷ (codes ")", sign.Close) ∷ (codes "[", sign.OpenSquare) ∷ (codes "]", sign.CloseSquare)
    ∷ (codes ".", sign.Point) ∷ (codes "..", sign.Points) ∷ (codes "@", sign.At) ∷ (codes ",", sign.Comma) ∷ (codes "::", sign.Colons) ∷ []

abbrev pub node_types : List (List ℕ × Sign)
node_types = (codes "node", sign.Node) ∷ (codes "text", sign.Text) ∷ (codes "comment", sign.Comment) ∷ (codes "processing-instruction", sign.Instruction) ∷ []

-- the axes, and after the first seven the others
abbrev pub other_axes : List (List ℕ × Sign)
other_axes =
    (codes "following", sign.Axis axis.Following) ∷ (codes "preceding", sign.Axis axis.Preceding)
    ∷ (codes "following-sibling", sign.Axis axis.FollowingSibling) ∷ (codes "preceding-sibling", sign.Axis axis.PrecedingSibling)
    ∷ (codes "attribute", sign.Axis axis.Attribute) ∷ (codes "namespace", sign.Axis axis.Namespace) ∷ []

abbrev pub axes : List (List ℕ × Sign)
axes =
    (codes "self", sign.Axis axis.Itself) ∷ (codes "child", sign.Axis axis.Child) ∷ (codes "parent", sign.Axis axis.Parent)
    ∷ (codes "descendant", sign.Axis axis.Descendant) ∷ (codes "descendant-or-self", sign.Axis axis.DescendantOrSelf)
    ∷ (codes "ancestor", sign.Axis axis.Ancestor) ∷ (codes "ancestor-or-self", sign.Axis axis.AncestorOrSelf) ∷ other_axes

-- a literal whose text is a name, or another
abbrev pub literal_sign : List ℕ → Sign
literal_sign text = if is_name (literal_of text) then sign.NameLiteral else sign.Literal

abbrev pub function_sign : List ℕ → Sign
function_sign text = if bytes_eq text (codes "id") then sign.Id else if bytes_eq text (codes "key") then sign.Key else sign.Function

-- what a token of a kind and a text is to the grammar
abbrev pub sign_of : TokenKind → List ℕ → Sign
sign_of kind.Literal text = literal_sign text
sign_of kind.Number text = sign.Number
sign_of kind.Name text = sign.Name
sign_of kind.InPrefix text = sign.InPrefix
sign_of kind.Star text = sign.Star
sign_of kind.Variable text = sign.Variable
sign_of kind.Function text = function_sign text
sign_of kind.NodeType text = spelled_in node_types text
sign_of kind.Axis text = spelled_in axes text
sign_of kind.Operator text = spelled_in operators text
sign_of kind.Mark text = spelled_in marks text

-- how tightly an operator binds
abbrev pub precedence_of : Op → Precedence
precedence_of op.Or = precedence.Or
precedence_of op.And = precedence.And
precedence_of op.Equal = precedence.Equality
precedence_of op.NotEqual = precedence.Equality
precedence_of op.Less = precedence.Relational
precedence_of op.LessEqual = precedence.Relational
precedence_of op.Greater = precedence.Relational
precedence_of op.GreaterEqual = precedence.Relational
precedence_of op.Add = precedence.Additive
precedence_of op.Subtract = precedence.Additive
precedence_of op.Multiply = precedence.Multiplicative
precedence_of op.Div = precedence.Multiplicative
precedence_of op.Mod = precedence.Multiplicative
precedence_of op.Union = precedence.Union

-- its place among them, from the tightest
abbrev pub place : Precedence → ℕ
place precedence.Path = 0
place precedence.Union = 1
place precedence.Unary = 2
place precedence.Multiplicative = 3
place precedence.Additive = 4
place precedence.Relational = 5
place precedence.Equality = 6
place precedence.And = 7
place precedence.Or = 8

-- the next tighter one
abbrev pub tighter : Precedence → Precedence
tighter precedence.Path = precedence.Path
tighter precedence.Union = precedence.Path
tighter precedence.Unary = precedence.Union
tighter precedence.Multiplicative = precedence.Unary
tighter precedence.Additive = precedence.Multiplicative
tighter precedence.Relational = precedence.Additive
tighter precedence.Equality = precedence.Relational
tighter precedence.And = precedence.Equality
tighter precedence.Or = precedence.And

-- an operator of a precedence
abbrev pub is_operator : Precedence → Sign → Bool
is_operator p (sign.Operator o) = place (precedence_of o) == place p
is_operator p s = false

abbrev pub is_minus : Sign → Bool
is_minus (sign.Operator op.Subtract) = true
is_minus s = false

abbrev pub is_slash : Sign → Bool
is_slash sign.Slash = true
is_slash s = false

abbrev pub is_slashes : Sign → Bool
is_slashes sign.Slashes = true
is_slashes s = false

abbrev pub is_open : Sign → Bool
is_open sign.Open = true
is_open s = false

abbrev pub is_close : Sign → Bool
is_close sign.Close = true
is_close s = false

abbrev pub is_open_square : Sign → Bool
is_open_square sign.OpenSquare = true
is_open_square s = false

abbrev pub is_close_square : Sign → Bool
is_close_square sign.CloseSquare = true
is_close_square s = false

abbrev pub is_point : Sign → Bool
is_point sign.Point = true
is_point s = false

abbrev pub is_points : Sign → Bool
is_points sign.Points = true
is_points s = false

abbrev pub is_at : Sign → Bool
is_at sign.At = true
is_at s = false

abbrev pub is_comma : Sign → Bool
is_comma sign.Comma = true
is_comma s = false

abbrev pub is_colons : Sign → Bool
is_colons sign.Colons = true
is_colons s = false

abbrev pub is_plain_name : Sign → Bool
is_plain_name sign.Name = true
is_plain_name s = false

abbrev pub is_in_prefix : Sign → Bool
is_in_prefix sign.InPrefix = true
is_in_prefix s = false

abbrev pub is_star : Sign → Bool
is_star sign.Star = true
is_star s = false

abbrev pub is_variable : Sign → Bool
is_variable sign.Variable = true
is_variable s = false

abbrev pub is_id : Sign → Bool
is_id sign.Id = true
is_id s = false

abbrev pub is_key : Sign → Bool
is_key sign.Key = true
is_key s = false

-- a function, id and key among them
abbrev pub is_function : Sign → Bool
is_function sign.Id = true
is_function sign.Key = true
is_function sign.Function = true
is_function s = false

-- a node type that takes no literal
abbrev pub is_node_type : Sign → Bool
is_node_type sign.Node = true
is_node_type sign.Text = true
is_node_type sign.Comment = true
is_node_type s = false

abbrev pub is_instruction : Sign → Bool
is_instruction sign.Instruction = true
is_instruction s = false

abbrev pub is_literal : Sign → Bool
is_literal sign.NameLiteral = true
is_literal sign.Literal = true
is_literal s = false

abbrev pub is_name_literal : Sign → Bool
is_name_literal sign.NameLiteral = true
is_name_literal s = false

abbrev pub is_number : Sign → Bool
is_number sign.Number = true
is_number s = false

abbrev pub is_axis : Sign → Bool
is_axis (sign.Axis a) = true
is_axis s = false

-- an axis that a pattern may have
abbrev pub is_pattern_axis : Sign → Bool
is_pattern_axis (sign.Axis axis.Child) = true
is_pattern_axis (sign.Axis axis.Attribute) = true
is_pattern_axis s = false

-- the axis of a word that names one
abbrev pub axis_of : Sign → AxisName
axis_of (sign.Axis a) = a
axis_of s = axis.Child

-- the operator of a word that is one
abbrev pub op_of : Sign → Op
op_of (sign.Operator o) = o
op_of s = op.Or

-- a node test begins so
abbrev pub begins_test : Sign → Bool
begins_test sign.Name = true
begins_test sign.InPrefix = true
begins_test sign.Star = true
begins_test sign.Node = true
begins_test sign.Text = true
begins_test sign.Comment = true
begins_test sign.Instruction = true
begins_test s = false

-- a step begins so
abbrev pub begins_step : Sign → Bool
begins_step sign.Point = true
begins_step sign.Points = true
begins_step sign.At = true
begins_step (sign.Axis a) = true
begins_step s = begins_test s

-- a step of a pattern begins so
abbrev pub begins_pattern_step : Sign → Bool
begins_pattern_step sign.At = true
begins_pattern_step (sign.Axis a) = is_pattern_axis (sign.Axis a)
begins_pattern_step s = begins_test s

-- a primary begins so
abbrev pub begins_primary : Sign → Bool
begins_primary sign.Variable = true
begins_primary sign.Open = true
begins_primary sign.NameLiteral = true
begins_primary sign.Literal = true
begins_primary sign.Number = true
begins_primary s = is_function s

-- an expression begins so
abbrev pub begins_expression : Sign → Bool
begins_expression s = is_minus s || begins_primary s || is_slash s || is_slashes s || begins_step s

-- a nesting level opens so
abbrev pub opens_level : Sign → Bool
opens_level s = is_minus s || is_open s || is_open_square s || is_function s
