-- What the reading functions answer.
use Rattle.std.specs.Prelude.{◌≡◌, ℕ, ◌≤◌, Bool, true, false, List, ◌∷◌, length, map, Some, None, Result, Ok, Err}
use Rattle.xpath_syntax.specs.declared.expression.Expr.TheVariants as expr
use Rattle.xpath_syntax.specs.declared.expression.Op.{Op}
use Rattle.xpath_syntax.specs.declared.expression.StepExpr.{StepExpr}
use Rattle.xpath_syntax.specs.declared.expression.TestExpr.TheVariants as test
use Rattle.whole_num.specs.declared.number.NumFault.{NumFault}
use Rattle.xpath_grammar.specs.Words as words
use Rattle.xpath_grammar.specs.Words.{whole_numbers, literal_of, number_of, variable_of}
use Rattle.xpath_grammar.specs.Signs as signs
use Rattle.xpath_grammar.specs.Signs.{place, is_operator, is_open, is_close, is_slash, is_slashes, is_literal, is_variable, op_of}
use Rattle.xpath_grammar.specs.Productions as rule
use Rattle.xpath_grammar.specs.Productions.{Nonterminal, Tree, Production, gives, word, part, either, number, nested}
use Rattle.xpath_grammar.specs.Grammar.{production, any_depth, test_of}
use Rattle.xpath_grammar.specs.Trees.{IsTree}
use Rattle.xpath_grammar.specs.Refusal.{Refused}
use Rattle.xpath_grammar.specs.Reading.{Answer, Reads, Skips, Starts}
use Rattle.xpath_grammar.specs.declared.sign.Sign.{Sign}
use Rattle.xpath_grammar.specs.declared.sign.Precedence.{Precedence}
use Rattle.xpath_grammar.specs.declared.sign.Precedence.TheVariants as precedence
use Rattle.xpath_grammar.specs.declared.sign.Cause.{Cause}
use Rattle.xpath_grammar.specs.declared.sign.Cause.TheVariants as cause
use Rattle.xpath_words.specs.declared.word.Word.{Word}
use Rattle.xpath_words.specs.declared.leaf.Lookahead.{Lookahead}
use Rattle.xpath_words.specs.declared.leaf.Lookahead.TheVariants as lookahead
use Rattle.xpath_words.specs.declared.stop.ParseStop.{ParseStop}
use Rattle.xpath_words.specs.declared.stop.ParseStop.TheVariants as stop

-- the most levels that may be nested
abbrev pub most_levels : ℕ
most_levels = 100

-- the words of the grammar
abbrev pub seen_word : Word → words.Word
seen_word w = record { sign = w.sign; text = w.text.now }

abbrev pub seen : List Word → List words.Word
seen ws = map seen_word ws

-- which words are looked for
abbrev pub passes : Lookahead → Sign → Bool
passes lookahead.Minus = signs.is_minus
passes lookahead.Bar = signs.is_operator precedence.Union
passes lookahead.Slash = signs.is_slash
passes lookahead.Slashes = signs.is_slashes
passes lookahead.Open = signs.is_open
passes lookahead.Close = signs.is_close
passes lookahead.OpenSquare = signs.is_open_square
passes lookahead.CloseSquare = signs.is_close_square
passes lookahead.Point = signs.is_point
passes lookahead.Points = signs.is_points
passes lookahead.At = signs.is_at
passes lookahead.Comma = signs.is_comma
passes lookahead.Colons = signs.is_colons
passes lookahead.Axis = signs.is_axis
passes lookahead.PatternAxis = signs.is_pattern_axis
passes lookahead.Star = signs.is_star
passes lookahead.InPrefix = signs.is_in_prefix
passes lookahead.NodeType = signs.is_node_type
passes lookahead.Instruction = signs.is_instruction
passes lookahead.Name = signs.is_plain_name
passes lookahead.Variable = signs.is_variable
passes lookahead.Number = signs.is_number
passes lookahead.Literal = signs.is_literal
passes lookahead.NameLiteral = signs.is_name_literal
passes lookahead.Function = signs.is_function
passes lookahead.Id = signs.is_id
passes lookahead.Key = signs.is_key
passes lookahead.Step = signs.begins_step
passes lookahead.PatternStep = signs.begins_pattern_step
passes lookahead.Primary = signs.begins_primary
passes lookahead.Expression = signs.begins_expression

-- a word that passes comes, and then the others
pub record Passes (t : Sign → Bool) (ws : List words.Word) (w : words.Word) (rest : List words.Word) : Type 0 where
  pub is : ws ≡ w ∷ rest
  pub passes : t w.sign ≡ true

-- a test of the next word
abbrev pub Tested : Bool → (Sign → Bool) → List words.Word → Type 0
Tested true t ws = Starts t ws
Tested false t ws = Skips t ws

-- `/` comes, or `//`
abbrev pub Slashed : Bool → List words.Word → List words.Word → Type 0
Slashed false ws rest = (w : words.Word) × Passes is_slash ws w rest
Slashed true ws rest = (w : words.Word) × Skips is_slash ws × Passes is_slashes ws w rest

-- the steps behind `/` or `//`
abbrev pub led : Bool → List StepExpr → List StepExpr
led false ss = ss
led true ss = any_depth ∷ ss

-- a tree and the words left, or why the first of them is refused
abbrev pub Read : Type 0 → Type 0
Read T = Result (T × List words.Word) (Cause × List words.Word)

-- a nonterminal read from words
abbrev pub ReadsSo : ℕ → (v : Nonterminal) → List words.Word → Answer v → Type 0
ReadsSo d v = Reads whole_numbers d v (production v)

-- what a function returned is an answer of this kind, unless memory ran out; a refusal is told with the number of words left
abbrev pub Answered : {X T : Type 0} → (X → T × List words.Word) → (Read T → Type 0) → Result X ParseStop → Type 0
Answered view P (Ok x) = P (Ok (view x))
Answered view P (Err stop.Memory) = Unit {0}
Answered view P (Err (stop.Refused c n)) = (rest : List words.Word) × P (Err (c, rest)) × (n ≡ length rest)

-- the primaries that open no level
abbrev pub atom : Production rule.primary
atom =
    either is_literal (word is_literal (λ w. gives (expr.Literal (literal_of w.text))))
    (number (λ w. gives (expr.Number (number_of w.text)))
    (word is_variable (λ w. gives (expr.Variable (variable_of w.text)))))

-- steps behind `/` or `//`, or at the front
abbrev pub led_steps : Bool → Production rule.more_steps
led_steps deep = part rule.steps (λ ss. gives (led deep ss))

-- a location path as an expression
abbrev pub location_path : Production (rule.level precedence.Path)
location_path = part rule.location (λ p. gives (expr.Path p))

-- what stands behind `processing-instruction`, and behind another node type
abbrev pub behind_instruction : Production rule.node_test
behind_instruction = word is_open (λ o.
    either is_literal (word is_literal (λ l. word is_close (λ c. gives (test.Instruction (Some (literal_of l.text))))))
    (word is_close (λ c. gives (test.Instruction None))))

abbrev pub behind_node_type : Sign → Production rule.node_test
behind_node_type s = word is_open (λ o. word is_close (λ c. gives (test_of s)))

-- an operator of a precedence comes, and then the others
pub record IsOperator (p : Precedence) (ws : List words.Word) (o : Op) (rest : List words.Word) : Type 0 where
  pub at : words.Word
  pub comes : Passes (is_operator p) ws at rest
  pub is : o ≡ op_of at.sign

-- a precedence is one of those from one to another
abbrev pub Within : Precedence → Precedence → Precedence → Type 0
Within from to p = (place from ≤ place p) × (place p ≤ place to)

-- no operator of these precedences
abbrev pub IsOutside : Precedence → Precedence → Sign → Type 0
IsOutside from to s = (p : Precedence) → Within from to p → is_operator p s ≡ false

-- no operator of these precedences comes
abbrev pub NoOperator : Precedence → Precedence → List words.Word → Type 0
NoOperator from to ws = (p : Precedence) → Within from to p → Skips (is_operator p) ws

-- a number is refused, with so many words left
abbrev pub IsFlaw : List ℕ → ℕ → ParseStop → Type 0
IsFlaw text left e = (f : NumFault) × (whole_numbers text ≡ Some f) × (e ≡ stop.Refused (cause.Literal f) left)

-- what is answered for all the words, unless memory ran out
abbrev pub Whole : (v : Nonterminal) → List words.Word → Result (Tree v) ParseStop → Type 0
Whole v ws (Ok x) = IsTree whole_numbers most_levels v ws x
Whole v ws (Err stop.Memory) = Unit {0}
Whole v ws (Err (stop.Refused c n)) = (rest : List words.Word) × Refused whole_numbers most_levels v ws c rest × (n ≡ length rest)
