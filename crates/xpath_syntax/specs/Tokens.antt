-- Which tokens a text has (XPath 1.0, 3.7).
use Rattle.std.specs.Prelude.{◌≡◌, ℕ, ◌+◌, ◌<◌, ◌≤◌, ◌==◌, if◌then◌else◌, List, [], ◌∷◌, length, take, drop, Option, Some, None, Result, Ok, Err, Bool, true, false, codes}
use Rattle.std.specs.Str.{bytes_eq}
use Rattle.std.specs.List.{prefix_len, list_any}
use Rattle.xpath_syntax.specs.declared.token.Token.{Token}
use Rattle.xpath_syntax.specs.declared.token.TokenKind.{TokenKind}
use Rattle.xpath_syntax.specs.declared.token.TokenKind.TheVariants as kind
use Rattle.xpath_syntax.specs.declared.token.LexError.{LexError}
use Rattle.xpath_syntax.specs.declared.token.LexError.TheVariants as error
use Rattle.xpath_syntax.specs.declared.form.Form.{Form}
use Rattle.xpath_syntax.specs.declared.form.Form.TheVariants as form
use Rattle.xpath_syntax.specs.Forms.{is_space, Spells}

-- the first n bytes are a token of this form, and no longer front is one of any
pub record IsLongest (bs : List ℕ) (n : ℕ) (f : Form) : Type 0 where
  pub within : n ≤ length bs
  pub is : Spells f (take n bs)
  pub longest : (m : ℕ) (g : Form) → n < m → m ≤ length bs → Spells g (take m bs) → ⊥

abbrev pub is_among : List (List ℕ) → List ℕ → Bool
is_among words word = list_any (bytes_eq word) words

abbrev pub is_operator_name : List ℕ → Bool
is_operator_name = is_among (codes "and" ∷ codes "or" ∷ codes "mod" ∷ codes "div" ∷ [])

abbrev pub is_node_type : List ℕ → Bool
is_node_type = is_among (codes "comment" ∷ codes "text" ∷ codes "processing-instruction" ∷ codes "node" ∷ [])

-- what follows the whitespace
abbrev pub behind_space : List ℕ → List ℕ
behind_space bs = drop (prefix_len is_space bs) bs

abbrev pub kind_before_colon : List ℕ → TokenKind
kind_before_colon [] = kind.Name
kind_before_colon (b ∷ bs) = if b == 58 then kind.Axis else kind.Name

-- a name is a function or a node type before `(`, and an axis before `::`
abbrev pub kind_before : List ℕ → List ℕ → TokenKind
kind_before word [] = kind.Name
kind_before word (b ∷ bs) =
    if b == 40 then (if is_node_type word then kind.NodeType else kind.Function)
    else if b == 58 then kind_before_colon bs
    else kind.Name

-- which token these bytes are, or none. `operand` says that a token stands before it that is neither `@`, `::`, `(`, `[`,
-- `,` nor an operator; then `*` is multiply and a name is an operator's.
abbrev pub kind_of : Bool → Form → List ℕ → List ℕ → Option TokenKind
kind_of operand form.Literal word rest = Some kind.Literal
kind_of operand form.Number word rest = Some kind.Number
kind_of operand form.InPrefix word rest = Some kind.InPrefix
kind_of operand form.Variable word rest = Some kind.Variable
kind_of operand form.Operator word rest = Some kind.Operator
kind_of operand form.Opening word rest = Some kind.Mark
kind_of operand form.Closing word rest = Some kind.Mark
kind_of true form.Star word rest = Some kind.Operator
kind_of false form.Star word rest = Some kind.Star
kind_of true form.Name word rest = if is_operator_name word then Some kind.Operator else None
kind_of false form.Name word rest = Some (kind_before word (behind_space rest))

-- behind this token an operand has ended
abbrev pub ends_operand : Form → TokenKind → Bool
ends_operand form.Opening k = false
ends_operand f kind.Operator = false
ends_operand f k = true

-- the tokens of the bytes from a place on, where an operand has just ended or not: slices in order, each the longest token,
-- with whitespace between them
pub data Tokens : ℕ → Bool → List ℕ → List Token → Type 0 where
  end : {at : ℕ} {operand : Bool} → Tokens at operand [] []
  space : {at : ℕ} {operand : Bool} {bs : List ℕ} {ts : List Token} (b : ℕ) → is_space b ≡ true → Tokens (at + 1) operand bs ts → Tokens at operand (b ∷ bs) ts
  token : {at : ℕ} {operand : Bool} {bs : List ℕ} {ts : List Token} {f : Form} {k : TokenKind} (n : ℕ) → IsLongest bs n f
      → kind_of operand f (take n bs) (drop n bs) ≡ Some k → Tokens (at + n) (ends_operand f k) (drop n bs) ts
      → Tokens at operand bs (record { kind = k; at = at; len = n } ∷ ts)

-- no token begins here
abbrev pub NoToken : Bool → List ℕ → Type 0
NoToken operand bs = (n : ℕ) (f : Form) → IsLongest bs n f → kind_of operand f (take n bs) (drop n bs) ≡ None

-- behind tokens and whitespace comes a byte from which no token can be read, and here is its place
pub data Stuck : ℕ → Bool → List ℕ → ℕ → Type 0 where
  here : {at : ℕ} {operand : Bool} {bs : List ℕ} (b : ℕ) → is_space b ≡ false → NoToken operand (b ∷ bs) → Stuck at operand (b ∷ bs) at
  past_space : {at p : ℕ} {operand : Bool} {bs : List ℕ} (b : ℕ) → is_space b ≡ true → Stuck (at + 1) operand bs p → Stuck at operand (b ∷ bs) p
  past_token : {at p : ℕ} {operand : Bool} {bs : List ℕ} {f : Form} {k : TokenKind} (n : ℕ) → IsLongest bs n f
      → kind_of operand f (take n bs) (drop n bs) ≡ Some k → Stuck (at + n) (ends_operand f k) (drop n bs) p → Stuck at operand bs p

-- a text's tokens, and the least byte from which none can be read
abbrev pub TokensOf : List ℕ → List Token → Type 0
TokensOf = Tokens 0 false

abbrev pub StuckAt : List ℕ → ℕ → Type 0
StuckAt = Stuck 0 false

abbrev pub Answers : List ℕ → Result (List Token) LexError → Type 0
Answers text (Ok ts) = TokensOf text ts
Answers text (Err (error.At p)) = StuckAt text p
Answers text (Err error.Memory) = Unit {0}

-- what one step finds at the front: no token, or one with its form, kind and length
abbrev pub NextIs : Bool → List ℕ → Option (Form × TokenKind × ℕ) → Type 0
NextIs operand bs None = NoToken operand bs
NextIs operand bs (Some x) = (0 < x.2) × IsLongest bs x.2 x.0 × (kind_of operand x.0 (take x.2 bs) (drop x.2 bs) ≡ Some x.1)
