-- Values, or why they are refused.
use Rattle.std.specs.Prelude.{List, [], ◌∷◌, Result, Ok, Err}
use Rattle.xpath_parse.specs.declared.error.ParseError.{ParseError}
use Rattle.xpath_parse.specs.declared.error.ParseError.TheVariants as parsing
use Rattle.xpath_binding.specs.declared.error.BindError.{BindError}
use Rattle.xpath_binding.specs.declared.error.BindError.TheVariants as binding
use Rattle.sheet_elements.specs.declared.fault.SheetKind.{SheetKind}
use Rattle.sheet_elements.specs.declared.fault.SheetKind.TheVariants as kind
use Rattle.sheet_values.specs.declared.stop.ValueStop.{ValueStop}
use Rattle.sheet_values.specs.declared.stop.ValueStop.TheVariants.{Refused, Memory}

-- what a first part is, and then what comes of it; or its refusal
infixl 10 ◌>>=◌
abbrev pub ◌>>=◌ : {A B : Type 0} → Result A SheetKind → (A → Result B SheetKind) → Result B SheetKind
Ok x >>= f = f x
Err k >>= f = Err k

-- each from the left
abbrev pub each : {A B : Type 0} → (A → Result B SheetKind) → List A → Result (List B) SheetKind
each f [] = Ok []
each f (x ∷ xs) = do
  y ← f x
  ys ← each f xs
  Ok (y ∷ ys)

abbrev pub or_kind : {A E : Type 0} → (E → SheetKind) → Result A E → Result A SheetKind
or_kind f (Ok x) = Ok x
or_kind f (Err e) = Err (f e)

-- why a text has no tree; none is refused for want of memory, so the last case never comes
abbrev pub unparsed : ParseError → SheetKind
unparsed (parsing.Lex place) = kind.Lex
unparsed (parsing.Syntax place) = kind.Syntax
unparsed (parsing.FractionLiteral place) = kind.FractionLiteral
unparsed (parsing.NumberLimit place) = kind.NumberLimit
unparsed (parsing.TooDeep place) = kind.ExprTooDeep
unparsed parsing.Memory = kind.Syntax

-- why names aren't bound; here no variable is unknown, and none is refused for want of memory
abbrev pub unbound : BindError → SheetKind
unbound binding.UnboundPrefix = kind.UnboundPrefix
unbound binding.UnknownFunction = kind.UnknownFunction
unbound binding.WrongArgs = kind.WrongArgs
unbound binding.Unsupported = kind.Unsupported
unbound binding.UnknownVariable = kind.UnknownVariable
unbound binding.Memory = kind.Unsupported

-- what a call stops with
abbrev pub stop_unparsed : ParseError → ValueStop
stop_unparsed (parsing.Lex place) = Refused kind.Lex
stop_unparsed (parsing.Syntax place) = Refused kind.Syntax
stop_unparsed (parsing.FractionLiteral place) = Refused kind.FractionLiteral
stop_unparsed (parsing.NumberLimit place) = Refused kind.NumberLimit
stop_unparsed (parsing.TooDeep place) = Refused kind.ExprTooDeep
stop_unparsed parsing.Memory = Memory

abbrev pub stop_unbound : BindError → ValueStop
stop_unbound binding.UnboundPrefix = Refused kind.UnboundPrefix
stop_unbound binding.UnknownFunction = Refused kind.UnknownFunction
stop_unbound binding.WrongArgs = Refused kind.WrongArgs
stop_unbound binding.Unsupported = Refused kind.Unsupported
stop_unbound binding.UnknownVariable = Refused kind.UnknownVariable
stop_unbound binding.Memory = Memory
