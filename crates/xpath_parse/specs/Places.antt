-- Words of tokens, and the places at which texts are refused.
use Rattle.std.specs.Prelude.{◌≡◌, ℕ, if◌then◌else◌, List, [], ◌∷◌, ◌++◌, length, Result, Ok, Err}
use Rattle.whole_num.specs.declared.number.NumFault.TheVariants as fault
use Rattle.xpath_syntax.specs.declared.token.Token.{Token}
use Rattle.xpath_syntax.specs.Tokens.{TokensOf, StuckAt}
use Rattle.xpath_grammar.specs.Words.{whole_numbers}
use Rattle.xpath_grammar.specs.Signs.{is_function}
use Rattle.xpath_grammar.specs.Productions.{Nonterminal, Tree}
use Rattle.xpath_grammar.specs.Trees.{IsTree}
use Rattle.xpath_grammar.specs.Refusal.{Refused}
use Rattle.xpath_grammar.specs.declared.sign.Cause.{Cause}
use Rattle.xpath_grammar.specs.declared.sign.Cause.TheVariants as cause
use Rattle.xpath_words.specs.Seen.{most_levels}
use Rattle.xpath_words.specs.Words.{word_of, words_of}
use Rattle.xpath_parse.specs.declared.error.ParseError.{ParseError}
use Rattle.xpath_parse.specs.declared.error.ParseError.TheVariants as error

-- the text's tokens are this tree
abbrev pub Spells : (v : Nonterminal) → List ℕ → Tree v → Type 0
Spells v text x = (ts : List Token) × TokensOf text ts × IsTree whole_numbers most_levels v (words_of text ts) x

-- where a level opens: at the token, or for an argument list at the bracket behind the function's name
abbrev pub level_place : List ℕ → List Token → ℕ
level_place text [] = length text
level_place text (t ∷ []) = t.at
level_place text (t ∷ u ∷ ts) = if is_function (word_of text t).sign then u.at else t.at

-- the place of a refusal, by the tokens from the refused one on
abbrev pub place_of : List ℕ → Cause → List Token → ℕ
place_of text cause.TooDeep ts = level_place text ts
place_of text c [] = length text
place_of text c (t ∷ ts) = t.at

-- the text's tokens are refused at this place
pub record RefusedAt (v : Nonterminal) (text : List ℕ) (c : Cause) (place : ℕ) : Type 0 where
  pub before : List Token
  pub from : List Token
  pub tokens : TokensOf text (before ++ from)
  pub refused : Refused whole_numbers most_levels v (words_of text (before ++ from)) c (words_of text from)
  pub is : place ≡ place_of text c from

-- the text is refused so: no token can be read there, or its tokens are refused there
abbrev pub IsRefusal : Nonterminal → List ℕ → ParseError → Type 0
IsRefusal v text (error.Lex p) = StuckAt text p
IsRefusal v text (error.Syntax p) = RefusedAt v text cause.Syntax p
IsRefusal v text (error.FractionLiteral p) = RefusedAt v text (cause.Literal fault.Fraction) p
IsRefusal v text (error.NumberLimit p) = RefusedAt v text (cause.Literal fault.NumberRange) p
IsRefusal v text (error.TooDeep p) = RefusedAt v text cause.TooDeep p
IsRefusal v text error.Memory = ⊥

-- what a call answers for a nonterminal and a text: its tree, or its refusal, unless memory runs out
abbrev pub Answers : (v : Nonterminal) → List ℕ → Result (Tree v) ParseError → Type 0
Answers v text (Ok x) = Spells v text x
Answers v text (Err error.Memory) = Unit {0}
Answers v text (Err e) = IsRefusal v text e
