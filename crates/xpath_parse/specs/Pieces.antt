-- What stands at the front of an attribute value template.
use Rattle.std.specs.Prelude.{◌≡◌, ℕ, ◌+◌, ◌<◌, ◌≤◌, List, [], ◌∷◌, ◌++◌, length, take, drop, None, Result, Ok, Err}
use Rattle.xpath_syntax.specs.declared.expression.Expr.{Expr}
use Rattle.xpath_syntax.specs.declared.pattern.Part.{Part}
use Rattle.xpath_syntax.specs.declared.pattern.Part.TheVariants as part
use Rattle.xpath_grammar.specs.Productions as rule
use Rattle.xpath_grammar.specs.declared.sign.Precedence.TheVariants as precedence
use Rattle.xpath_parse.specs.declared.error.ParseError.{ParseError}
use Rattle.xpath_parse.specs.declared.error.ParseError.TheVariants as error
use Rattle.xpath_parse.specs.declared.templates.Piece.{Piece}
use Rattle.xpath_parse.specs.declared.templates.Piece.TheVariants as piece
use Rattle.xpath_parse.specs.Places.{Spells, IsRefusal}
use Rattle.xpath_parse.specs.Templates.{IsInner, IsExpression, IsTemplate, IsRefused, quote_behind, with_byte, moved}

-- behind so many bytes of an expression comes its `}`
pub record Closes (bs : List ℕ) (n : ℕ) : Type 0 where
  pub is : bs ≡ take n bs ++ 125 ∷ drop (n + 1) bs
  pub len : length (take n bs) ≡ n
  pub inner : IsInner (take n bs)
  pub closed : quote_behind None (take n bs) ≡ None

-- so many bytes are one byte of text: what the rest has, the whole has behind it
pub record IsText (bs : List ℕ) (b n : ℕ) : Type 0 where
  pub some : 0 < n
  pub within : n ≤ length bs
  pub read : (ps : List Part) → IsTemplate (drop n bs) ps → IsTemplate bs (with_byte b ps)
  pub refused : (r : ParseError) → IsRefused (drop n bs) r → IsRefused bs (moved n r)

-- a `{`, an expression of so many bytes, and its `}`
pub record IsValue (bs : List ℕ) (n : ℕ) : Type 0 where
  pub expression : IsExpression (take n (drop 1 bs))
  pub len : length (take n (drop 1 bs)) ≡ n
  pub is : bs ≡ 123 ∷ (take n (drop 1 bs) ++ 125 ∷ drop (n + 2) bs)

abbrev pub IsPiece : List ℕ → Piece → Type 0
IsPiece bs (piece.Text b n) = IsText bs b n
IsPiece bs (piece.Value n) = IsValue bs n
IsPiece bs (piece.Refused p) = (p ≤ length bs) × IsRefused bs (error.Syntax p)

-- the place that a refusal names
abbrev pub place : ParseError → ℕ
place (error.Lex p) = p
place (error.Syntax p) = p
place (error.FractionLiteral p) = p
place (error.NumberLimit p) = p
place (error.TooDeep p) = p
place error.Memory = 0

-- what a call answers for an expression in a template, with its places from the template's front
abbrev pub AnswersValue : ℕ → List ℕ → Result Expr ParseError → Type 0
AnswersValue from inner (Ok e) = Spells (rule.level precedence.Or) inner e
AnswersValue from inner (Err error.Memory) = Unit {0}
AnswersValue from inner (Err e) = (r : ParseError) × IsRefusal (rule.level precedence.Or) inner r × (e ≡ moved from r)

-- text that is not empty is a part
abbrev pub plain_part : List ℕ → List Part
plain_part [] = []
plain_part (b ∷ bs) = part.Plain (b ∷ bs) ∷ []
