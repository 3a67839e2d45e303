-- Variables and calls where an expression stands (XPath 1.0, sections 3.1 and 3.2; XSLT 1.0, sections 11 and 12).
use Rattle.std.specs.Prelude.{ℕ, List, [], ◌∷◌, ◌++◌, Bool, true, false, ◌&&◌, not, if◌then◌else◌, Option, Some, None, Result, Ok, Err}
use Rattle.name_grammar.specs.Names.{is_name, prefix_of}
use Rattle.xpath_syntax.specs.declared.expression.NameRef.{NameRef}
use Rattle.xpath_binding.specs.declared.error.BindError.{BindError}
use Rattle.xpath_binding.specs.declared.error.BindError.TheVariants as error
use Rattle.xpath_binding.specs.declared.functions.Function.{Function}
use Rattle.xpath_binding.specs.declared.functions.Function.TheVariants as function
use Rattle.xpath_binding.specs.declared.names.VarNames.{VarNames}
use Rattle.xpath_binding.specs.Functions.{functions, named_in, takes}
use Rattle.xpath_binding.specs.Names.{◌>>=◌, Resolution, uri_of, is_named}
use Rattle.xpath_binding.specs.Places.{last_place}

-- what names are judged by: what prefixes are bound to, the variables where these are known, and whether they stand in a pattern
pub record Scope : Type 0 where
  pub uris : Resolution
  pub vars : Option VarNames
  pub in_pattern : Bool

abbrev pub outside_patterns : Resolution → Option VarNames → Scope
outside_patterns R vars = record { uris = R; vars = vars; in_pattern = false }

abbrev pub or_unknown : Option ℕ → Result ℕ BindError
or_unknown None = Err error.UnknownVariable
or_unknown (Some k) = Ok k

-- the place of a variable: globals are numbered first, and the last of a name is meant
abbrev pub slot_in : VarNames → List ℕ → List ℕ → Result ℕ BindError
slot_in vars uri local = or_unknown (last_place (is_named uri local) (vars.globals ++ vars.locals))

-- a variable with the URI of its prefix, and with its place where the variables are known
abbrev pub placed : Option VarNames → NameRef → List ℕ → Result NameRef BindError
placed None name uri = Ok (record name { uri = Some uri })
placed (Some vars) name uri = slot_in vars uri name.local >>= λ k. Ok (record name { uri = Some uri; slot = Some k })

abbrev pub bound_variable : Scope → NameRef → Result NameRef BindError
bound_variable S name = uri_of S.uris name.prefix >>= λ uri. placed S.vars name uri

abbrev pub or_no_function : Option Function → Result Function BindError
or_no_function None = Err error.UnknownFunction
or_no_function (Some f) = Ok f

-- the function of a name; one with a prefix is none, whatever the prefix is bound to
abbrev pub called : Resolution → List ℕ → List ℕ → Result Function BindError
called R [] local = or_no_function (named_in functions local)
called R (b ∷ prefix) local = uri_of R (b ∷ prefix) >>= λ uri. Err error.UnknownFunction

abbrev pub is_key : Function → Bool
is_key function.Key = true
is_key _ = false

abbrev pub is_current : Function → Bool
is_current function.Current = true
is_current _ = false

-- the first argument is a literal that is a name
abbrev pub is_name_literal : Option (List ℕ) → Bool
is_name_literal None = false
is_name_literal (Some text) = is_name text

-- a function by the number of its arguments and the text of the first, where that is a literal; or what is refused at its name
abbrev pub judged : Bool → Function → ℕ → Option (List ℕ) → Result Function BindError
judged in_pattern f count first =
    if not (takes f count) then Err error.WrongArgs
    else if is_key f && not (is_name_literal first) then Err error.WrongArgs
    else if is_current f && in_pattern then Err error.Unsupported
    else Ok f

-- the prefix of the key that the first argument names
abbrev pub key_prefix : Option (List ℕ) → List ℕ
key_prefix None = []
key_prefix (Some text) = prefix_of text

-- the URI that the name of a call has: that of the key that a call of key() names, and else the empty one
abbrev pub uri_for : Resolution → Option (List ℕ) → Function → Result (List ℕ) BindError
uri_for R first f = if is_key f then uri_of R (key_prefix first) else Ok []

abbrev pub call_uri : Scope → NameRef → ℕ → Option (List ℕ) → Result (List ℕ) BindError
call_uri S name count first =
    called S.uris name.prefix name.local >>= λ f. judged S.in_pattern f count first >>= uri_for S.uris first
