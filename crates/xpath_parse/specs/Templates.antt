-- Attribute value templates (XSLT 1.0, 7.6.2): which parts a text has, and where it is refused.
use Rattle.std.specs.Prelude.{◌≡◌, ℕ, suc, ◌+◌, ◌==◌, ◌||◌, if◌then◌else◌, Bool, true, false, List, [], ◌∷◌, ◌++◌, length, Option, Some, None, Result, Ok, Err}
use Rattle.xpath_syntax.specs.declared.expression.Expr.{Expr}
use Rattle.xpath_syntax.specs.declared.pattern.Part.{Part}
use Rattle.xpath_syntax.specs.declared.pattern.Part.TheVariants as part
use Rattle.xpath_grammar.specs.Productions as rule
use Rattle.xpath_grammar.specs.declared.sign.Precedence.TheVariants as precedence
use Rattle.xpath_parse.specs.declared.error.ParseError.{ParseError}
use Rattle.xpath_parse.specs.declared.error.ParseError.TheVariants as error
use Rattle.xpath_parse.specs.Places.{Spells, IsRefusal}

-- `{` and `}`
abbrev pub is_brace : ℕ → Bool
is_brace b = b == 123 || b == 125

abbrev pub is_quote : ℕ → Bool
is_quote b = b == 39 || b == 34

-- the quote that is open behind a byte, by the one that is open before it
abbrev pub quote_after : Option ℕ → ℕ → Option ℕ
quote_after None b = if is_quote b then Some b else None
quote_after (Some q) b = if b == q then None else Some q

-- the quote that is open behind these bytes
abbrev pub quote_behind : Option ℕ → List ℕ → Option ℕ
quote_behind q [] = q
quote_behind q (b ∷ bs) = quote_behind (quote_after q b) bs

-- a byte that ends an expression behind these bytes: a `}` that stands in no literal
abbrev pub Ends : List ℕ → ℕ → Type 0
Ends before b = (b ≡ 125) × (quote_behind None before ≡ None)

-- the bytes of an expression, none of which ends it
abbrev pub IsInner : List ℕ → Type 0
IsInner inner = (before after : List ℕ) (b : ℕ) → inner ≡ before ++ b ∷ after → Ends before b → ⊥

-- the bytes begin with this one
abbrev pub Begins : ℕ → List ℕ → Type 0
Begins b bs = (rest : List ℕ) × (bs ≡ b ∷ rest)

-- the bytes between an expression's braces: `{{` begins none, and the `}` behind it is the first that stands in no literal
pub record IsExpression (inner : List ℕ) : Type 0 where
  pub single : Begins 123 inner → ⊥
  pub none_ends : IsInner inner
  pub closed : quote_behind None inner ≡ None

-- a byte of text begins the first part where that is text, and else is a part before it
abbrev pub with_byte : ℕ → List Part → List Part
with_byte b (part.Plain bytes ∷ ps) = part.Plain (b ∷ bytes) ∷ ps
with_byte b ps = part.Plain (b ∷ []) ∷ ps

-- the bytes of a template and its parts: text, where `{{` and `}}` are one brace, and expressions in braces
pub data IsTemplate : List ℕ → List Part → Type 0 where
  end : IsTemplate [] []
  plain : {bs : List ℕ} {ps : List Part} (b : ℕ) → is_brace b ≡ false → IsTemplate bs ps → IsTemplate (b ∷ bs) (with_byte b ps)
  doubled : {bs : List ℕ} {ps : List Part} (b : ℕ) → is_brace b ≡ true → IsTemplate bs ps → IsTemplate (b ∷ b ∷ bs) (with_byte b ps)
  value : {bs : List ℕ} {ps : List Part} {e : Expr} (inner : List ℕ) → IsExpression inner → Spells (rule.level precedence.Or) inner e → IsTemplate bs ps
      → IsTemplate (123 ∷ (inner ++ 125 ∷ bs)) (part.Value e ∷ ps)

-- a refusal that is moved to the right
abbrev pub moved : ℕ → ParseError → ParseError
moved n (error.Lex p) = error.Lex (n + p)
moved n (error.Syntax p) = error.Syntax (n + p)
moved n (error.FractionLiteral p) = error.FractionLiteral (n + p)
moved n (error.NumberLimit p) = error.NumberLimit (n + p)
moved n (error.TooDeep p) = error.TooDeep (n + p)
moved n error.Memory = error.Memory

-- the first refusal from the left, with its place from the front of the bytes
pub data IsRefused : List ℕ → ParseError → Type 0 where
  past_plain : {bs : List ℕ} {r : ParseError} (b : ℕ) → is_brace b ≡ false → IsRefused bs r → IsRefused (b ∷ bs) (moved 1 r)
  past_doubled : {bs : List ℕ} {r : ParseError} (b : ℕ) → is_brace b ≡ true → IsRefused bs r → IsRefused (b ∷ b ∷ bs) (moved 2 r)
  past_value : {bs : List ℕ} {r : ParseError} {e : Expr} (inner : List ℕ) → IsExpression inner → Spells (rule.level precedence.Or) inner e → IsRefused bs r
      → IsRefused (123 ∷ (inner ++ 125 ∷ bs)) (moved (length inner + 2) r)
  -- a `}` alone; an expression without its `}`; an expression that is refused
  lone : {bs : List ℕ} → (Begins 125 bs → ⊥) → IsRefused (125 ∷ bs) (error.Syntax 0)
  unclosed : {bs : List ℕ} → (Begins 123 bs → ⊥) → IsInner bs → IsRefused (123 ∷ bs) (error.Syntax (suc (length bs)))
  in_value : (inner bs : List ℕ) (r : ParseError) → IsExpression inner → IsRefusal (rule.level precedence.Or) inner r → IsRefused (123 ∷ (inner ++ 125 ∷ bs)) (moved 1 r)

-- what a call answers for a template: its parts, or its first refusal, unless memory runs out
abbrev pub AnswersTemplate : List ℕ → Result (List Part) ParseError → Type 0
AnswersTemplate text (Ok ps) = IsTemplate text ps
AnswersTemplate text (Err error.Memory) = Unit {0}
AnswersTemplate text (Err r) = IsRefused text r
