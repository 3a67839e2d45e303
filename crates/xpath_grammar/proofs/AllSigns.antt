-- A test that holds of each sign in the list of all holds of any.
use Rattle.std.proofs.Common.{◌≡◌, refl, sym, ap, ◌∙◌, ℕ, zero, suc, List, [], ◌∷◌, Option, Some, None, Bool, true, false}
use Rattle.xpath_syntax.specs.declared.expression.AxisName.TheVariants as axis
use Rattle.xpath_syntax.specs.declared.expression.Op.TheVariants as op
use Rattle.xpath_grammar.specs.declared.sign.Sign.{Sign}
use Rattle.xpath_grammar.specs.declared.sign.Sign.TheVariants as sign

abbrev both : Bool → Bool → Bool
both true b = b
both false b = false

abbrev pub hold : (Sign → Bool) → List Sign → Bool
hold p [] = true
hold p (s ∷ ss) = both (p s) (hold p ss)

abbrev at : ℕ → List Sign → Option Sign
at n [] = None
at zero (s ∷ ss) = Some s
at (suc n) (s ∷ ss) = at n ss

both_first : (a b : Bool) → both a b ≡ true → a ≡ true
both_first true b h = refl
both_first false b h = h

both_second : (a b : Bool) → both a b ≡ true → b ≡ true
both_second true b h = h
both_second false b h = cc

holds_at : (p : Sign → Bool) (ss : List Sign) (n : ℕ) (s : Sign) → hold p ss ≡ true → at n ss ≡ Some s → p s ≡ true
holds_at p [] n s h e = cc
holds_at p (t ∷ ss) zero s h e = let i : t ≡ s = cc in ap p (sym i) ∙ both_first (p t) (hold p ss) h
holds_at p (t ∷ ss) (suc n) s h e = holds_at p ss n s (both_second (p t) (hold p ss) h) e

abbrev pub all_signs : List Sign
all_signs =
    (sign.Operator op.Or)
    ∷ (sign.Operator op.And)
    ∷ (sign.Operator op.Equal)
    ∷ (sign.Operator op.NotEqual)
    ∷ (sign.Operator op.Less)
    ∷ (sign.Operator op.LessEqual)
    ∷ (sign.Operator op.Greater)
    ∷ (sign.Operator op.GreaterEqual)
    ∷ (sign.Operator op.Add)
    ∷ (sign.Operator op.Subtract)
    ∷ (sign.Operator op.Multiply)
    ∷ (sign.Operator op.Div)
    ∷ (sign.Operator op.Mod)
    ∷ (sign.Operator op.Union)
    ∷ (sign.Axis axis.Itself)
    ∷ (sign.Axis axis.Child)
    ∷ (sign.Axis axis.Parent)
    ∷ (sign.Axis axis.Descendant)
    ∷ (sign.Axis axis.DescendantOrSelf)
    ∷ (sign.Axis axis.Ancestor)
    ∷ (sign.Axis axis.AncestorOrSelf)
    ∷ (sign.Axis axis.Following)
    ∷ (sign.Axis axis.Preceding)
    ∷ (sign.Axis axis.FollowingSibling)
    ∷ (sign.Axis axis.PrecedingSibling)
    ∷ (sign.Axis axis.Attribute)
    ∷ (sign.Axis axis.Namespace)
    ∷ sign.Slash
    ∷ sign.Slashes
    ∷ sign.Open
    ∷ sign.Close
    ∷ sign.OpenSquare
    ∷ sign.CloseSquare
    ∷ sign.Point
    ∷ sign.Points
    ∷ sign.At
    ∷ sign.Comma
    ∷ sign.Colons
    ∷ sign.Name
    ∷ sign.InPrefix
    ∷ sign.Star
    ∷ sign.Variable
    ∷ sign.Id
    ∷ sign.Key
    ∷ sign.Function
    ∷ sign.Node
    ∷ sign.Text
    ∷ sign.Comment
    ∷ sign.Instruction
    ∷ sign.NameLiteral
    ∷ sign.Literal
    ∷ sign.Number
    ∷ sign.Unknown ∷ []

abbrev index : Sign → ℕ
index (sign.Operator op.Or) = 0
index (sign.Operator op.And) = 1
index (sign.Operator op.Equal) = 2
index (sign.Operator op.NotEqual) = 3
index (sign.Operator op.Less) = 4
index (sign.Operator op.LessEqual) = 5
index (sign.Operator op.Greater) = 6
index (sign.Operator op.GreaterEqual) = 7
index (sign.Operator op.Add) = 8
index (sign.Operator op.Subtract) = 9
index (sign.Operator op.Multiply) = 10
index (sign.Operator op.Div) = 11
index (sign.Operator op.Mod) = 12
index (sign.Operator op.Union) = 13
index (sign.Axis axis.Itself) = 14
index (sign.Axis axis.Child) = 15
index (sign.Axis axis.Parent) = 16
index (sign.Axis axis.Descendant) = 17
index (sign.Axis axis.DescendantOrSelf) = 18
index (sign.Axis axis.Ancestor) = 19
index (sign.Axis axis.AncestorOrSelf) = 20
index (sign.Axis axis.Following) = 21
index (sign.Axis axis.Preceding) = 22
index (sign.Axis axis.FollowingSibling) = 23
index (sign.Axis axis.PrecedingSibling) = 24
index (sign.Axis axis.Attribute) = 25
index (sign.Axis axis.Namespace) = 26
index sign.Slash = 27
index sign.Slashes = 28
index sign.Open = 29
index sign.Close = 30
index sign.OpenSquare = 31
index sign.CloseSquare = 32
index sign.Point = 33
index sign.Points = 34
index sign.At = 35
index sign.Comma = 36
index sign.Colons = 37
index sign.Name = 38
index sign.InPrefix = 39
index sign.Star = 40
index sign.Variable = 41
index sign.Id = 42
index sign.Key = 43
index sign.Function = 44
index sign.Node = 45
index sign.Text = 46
index sign.Comment = 47
index sign.Instruction = 48
index sign.NameLiteral = 49
index sign.Literal = 50
index sign.Number = 51
index sign.Unknown = 52

found : (s : Sign) → at (index s) all_signs ≡ Some s
found (sign.Operator op.Or) = refl
found (sign.Operator op.And) = refl
found (sign.Operator op.Equal) = refl
found (sign.Operator op.NotEqual) = refl
found (sign.Operator op.Less) = refl
found (sign.Operator op.LessEqual) = refl
found (sign.Operator op.Greater) = refl
found (sign.Operator op.GreaterEqual) = refl
found (sign.Operator op.Add) = refl
found (sign.Operator op.Subtract) = refl
found (sign.Operator op.Multiply) = refl
found (sign.Operator op.Div) = refl
found (sign.Operator op.Mod) = refl
found (sign.Operator op.Union) = refl
found (sign.Axis axis.Itself) = refl
found (sign.Axis axis.Child) = refl
found (sign.Axis axis.Parent) = refl
found (sign.Axis axis.Descendant) = refl
found (sign.Axis axis.DescendantOrSelf) = refl
found (sign.Axis axis.Ancestor) = refl
found (sign.Axis axis.AncestorOrSelf) = refl
found (sign.Axis axis.Following) = refl
found (sign.Axis axis.Preceding) = refl
found (sign.Axis axis.FollowingSibling) = refl
found (sign.Axis axis.PrecedingSibling) = refl
found (sign.Axis axis.Attribute) = refl
found (sign.Axis axis.Namespace) = refl
found sign.Slash = refl
found sign.Slashes = refl
found sign.Open = refl
found sign.Close = refl
found sign.OpenSquare = refl
found sign.CloseSquare = refl
found sign.Point = refl
found sign.Points = refl
found sign.At = refl
found sign.Comma = refl
found sign.Colons = refl
found sign.Name = refl
found sign.InPrefix = refl
found sign.Star = refl
found sign.Variable = refl
found sign.Id = refl
found sign.Key = refl
found sign.Function = refl
found sign.Node = refl
found sign.Text = refl
found sign.Comment = refl
found sign.Instruction = refl
found sign.NameLiteral = refl
found sign.Literal = refl
found sign.Number = refl
found sign.Unknown = refl

pub by_all : (p : Sign → Bool) → hold p all_signs ≡ true → (s : Sign) → p s ≡ true
by_all p h s = holds_at p all_signs (index s) s h (found s)
