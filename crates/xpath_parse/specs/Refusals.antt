-- Refusals, by what they tell.
use Rattle.std.specs.Prelude.{ℕ}
use Rattle.whole_num.specs.declared.number.NumFault.TheVariants as fault
use Rattle.xpath_syntax.specs.declared.token.LexError.{LexError}
use Rattle.xpath_syntax.specs.declared.token.LexError.TheVariants as lex
use Rattle.xpath_grammar.specs.declared.sign.Cause.{Cause}
use Rattle.xpath_grammar.specs.declared.sign.Cause.TheVariants as cause
use Rattle.xpath_parse.specs.declared.error.ParseError.{ParseError}
use Rattle.xpath_parse.specs.declared.error.ParseError.TheVariants as error

-- why a text has no tokens
abbrev pub no_tokens : LexError → ParseError
no_tokens (lex.At p) = error.Lex p
no_tokens lex.Memory = error.Memory

-- why and where tokens are refused
abbrev pub refusal : Cause → ℕ → ParseError
refusal cause.Syntax p = error.Syntax p
refusal (cause.Literal fault.Fraction) p = error.FractionLiteral p
refusal (cause.Literal fault.NumberRange) p = error.NumberLimit p
refusal cause.TooDeep p = error.TooDeep p
