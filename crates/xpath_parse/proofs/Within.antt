-- The place of a refusal is within its text.
use Rattle.std.proofs.Common.{ℕ, ◌+◌, ◌≤◌, List, [], ◌∷◌, ◌++◌, length, Bool, true, false, length-drop, arith}
use Rattle.std.specs.Prelude.{if◌then◌else◌, Err}
use Rattle.whole_num.specs.declared.number.NumFault.TheVariants as fault
use Rattle.xpath_syntax.specs.declared.token.Token.{Token}
use Rattle.xpath_syntax.specs.Tokens.{Tokens, end, space, token, Stuck, here, past_space, past_token}
use Rattle.xpath_grammar.specs.Productions.{Nonterminal}
use Rattle.xpath_grammar.specs.Signs.{is_function}
use Rattle.xpath_grammar.specs.declared.sign.Cause.{Cause}
use Rattle.xpath_grammar.specs.declared.sign.Cause.TheVariants as cause
use Rattle.xpath_words.specs.Words.{word_of}
use Rattle.xpath_parse.specs.declared.error.ParseError.{ParseError}
use Rattle.xpath_parse.specs.declared.error.ParseError.TheVariants as error
use Rattle.xpath_parse.specs.Places.{level_place, place_of, RefusedAt, Answers}
use Rattle.xpath_parse.specs.Pieces.{place}

stuck_within : {at p : ℕ} {operand : Bool} {bs : List ℕ} → Stuck at operand bs p → p ≤ at + length bs
stuck_within (here {at = at} b e n) = omega arith
stuck_within (past_space b e s) = omega (arith, stuck_within s)
stuck_within (past_token {bs = bs} n L e s) = omega (arith, L.within, length-drop n bs, stuck_within s)

-- each token begins within the text
data Each (limit : ℕ) : List Token → Type 0 where
  none : Each limit []
  one : {t : Token} {ts : List Token} → t.at ≤ limit → Each limit ts → Each limit (t ∷ ts)

tokens_within : {at : ℕ} {operand : Bool} {bs : List ℕ} {ts : List Token} → (limit : ℕ) → Tokens at operand bs ts → at + length bs ≤ limit → Each limit ts
tokens_within limit end h = none
tokens_within limit (space b e t) h = tokens_within limit t (omega arith)
tokens_within limit (token {bs = bs} n L e t) h = one (omega arith) (tokens_within limit t (omega (arith, L.within, length-drop n bs)))

behind : (limit : ℕ) (before from : List Token) → Each limit (before ++ from) → Each limit from
behind limit [] from e = e
behind limit (t ∷ before) from (one h e) = behind limit before from e

level_test : (limit : ℕ) (b : Bool) (t u : Token) → t.at ≤ limit → u.at ≤ limit → (if b then u.at else t.at) ≤ limit
level_test limit true t u h g = g
level_test limit false t u h g = h

level_within : (text : List ℕ) (ts : List Token) → Each (length text) ts → level_place text ts ≤ length text
level_within text [] none = omega arith
level_within text (t ∷ []) (one h e) = h
level_within text (t ∷ u ∷ ts) (one h (one g e)) = level_test (length text) (is_function (word_of text t).sign) t u h g

place_within : (text : List ℕ) (c : Cause) (ts : List Token) → Each (length text) ts → place_of text c ts ≤ length text
place_within text cause.TooDeep ts e = level_within text ts e
place_within text cause.Syntax [] e = omega arith
place_within text cause.Syntax (t ∷ ts) (one h e) = h
place_within text (cause.Literal f) [] e = omega arith
place_within text (cause.Literal f) (t ∷ ts) (one h e) = h

refused_within : (v : Nonterminal) (text : List ℕ) (c : Cause) (p : ℕ) → RefusedAt v text c p → p ≤ length text
refused_within v text c p R = rw R.is (place_within text c R.from (behind (length text) R.before R.from (tokens_within (length text) R.tokens (omega arith))))

pub answer_within : (v : Nonterminal) (text : List ℕ) (e : ParseError) → Answers v text (Err e) → place e ≤ length text
answer_within v text (error.Lex p) R = let h : p ≤ 0 + length text = stuck_within R in omega arith
answer_within v text (error.Syntax p) R = refused_within v text cause.Syntax p R
answer_within v text (error.FractionLiteral p) R = refused_within v text (cause.Literal fault.Fraction) p R
answer_within v text (error.NumberLimit p) R = refused_within v text (cause.Literal fault.NumberRange) p R
answer_within v text (error.TooDeep p) R = refused_within v text cause.TooDeep p R
answer_within v text error.Memory R = omega arith
