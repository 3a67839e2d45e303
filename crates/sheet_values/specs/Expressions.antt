-- Expressions, patterns and value templates of texts, with their names bound where each prefix is bound so.
use Rattle.std.specs.Prelude.{ℕ, List, Bool, true, false, None, Result, Ok, Err}
use Rattle.std.specs.List.{list_any}
use Rattle.xpath_grammar.specs.Productions as rule
use Rattle.xpath_grammar.specs.declared.sign.Precedence.TheVariants as precedence
use Rattle.xpath_syntax.specs.declared.expression.Expr.{Expr}
use Rattle.xpath_syntax.specs.declared.pattern.Part.{Part}
use Rattle.xpath_syntax.specs.declared.pattern.Part.TheVariants as part
use Rattle.xpath_syntax.specs.declared.pattern.Pattern.{Pattern}
use Rattle.xpath_syntax.specs.declared.token.Token.{Token}
use Rattle.xpath_syntax.specs.declared.token.TokenKind.{TokenKind}
use Rattle.xpath_syntax.specs.declared.token.TokenKind.TheVariants as token
use Rattle.xpath_binding.specs.Binding.{bound, bound_pattern}
use Rattle.xpath_binding.specs.Names.{Resolution}
use Rattle.xpath_binding.specs.Scope.{outside_patterns}
use Rattle.sheet_elements.specs.declared.fault.SheetKind.{SheetKind}
use Rattle.sheet_elements.specs.declared.fault.SheetKind.TheVariants as kind
use Rattle.sheet_values.specs.Refusals.{◌>>=◌, each, or_kind, unbound, unparsed}
use Rattle.sheet_values.specs.TreeOf.{parts_of, tokens_of, tree_of}

-- an expression is read and then bound
unfoldable pub expression_of : Resolution → List ℕ → Result Expr SheetKind
expression_of R text = do
  e ← or_kind unparsed (tree_of (rule.level precedence.Or) text)
  or_kind unbound (bound (outside_patterns R None) e)

abbrev pub is_variable_kind : TokenKind → Bool
is_variable_kind token.Variable = true
is_variable_kind _ = false

abbrev pub is_variable : Token → Bool
is_variable t = is_variable_kind t.kind

-- a variable is among the tokens
abbrev pub has_variable : List ℕ → Bool
has_variable text = list_any is_variable (tokens_of text)

abbrev pub unless : Bool → SheetKind → Result (Unit {0}) SheetKind
unless true k = Err k
unless false k = Ok tt

abbrev pub without_variable : List ℕ → Result (Unit {0}) SheetKind
without_variable text = unless (has_variable text) kind.VariableInPattern

-- a pattern, which has no variable (XSLT 1.0, section 5.3)
unfoldable pub pattern_of : Resolution → List ℕ → Result Pattern SheetKind
pattern_of R text = do
  p ← or_kind unparsed (tree_of rule.pattern text)
  q ← or_kind unbound (bound_pattern R p)
  _ ← without_variable text
  Ok q

abbrev pub bound_part : Resolution → Part → Result Part SheetKind
bound_part R (part.Plain text) = Ok (part.Plain text)
bound_part R (part.Value e) = or_kind unbound (bound (outside_patterns R None) e) >>= λ b. Ok (part.Value b)

-- all expressions of a template are read before one is bound
unfoldable pub template_of : Resolution → List ℕ → Result (List Part) SheetKind
template_of R text = do
  ps ← or_kind unparsed (parts_of text)
  each (bound_part R) ps
