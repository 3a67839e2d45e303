-- What names are bound to (XPath 1.0, section 1; XSLT 1.0, section 2.4 and 11).
use Rattle.std.specs.Prelude.{◌≡◌, ℕ, List, [], ◌∷◌, Bool, false, ◌&&◌, Option, Some, None, Result, Ok, Err}
use Rattle.std.specs.Str.{bytes_eq}
use Rattle.xml_names.specs.Bindings.{Scoped, resolved}
use Rattle.xpath_syntax.specs.declared.expression.NameRef.{NameRef}
use Rattle.xpath_binding.specs.declared.error.BindError.{BindError}
use Rattle.xpath_binding.specs.declared.error.BindError.TheVariants as error

-- what a first part is, and then what comes of it; or its refusal
infixl 10 ◌>>=◌
abbrev pub ◌>>=◌ : {A B : Type 0} → Result A BindError → (A → Result B BindError) → Result B BindError
Ok x >>= f = f x
Err e >>= f = Err e

-- what a call answers: this, unless memory runs out
abbrev pub Answers : {A : Type 0} → Result A BindError → Result A BindError → Type 0
Answers means (Err error.Memory) = Unit {0}
Answers means (Err e) = means ≡ Err e
Answers means (Ok x) = means ≡ Ok x

-- what each prefix is bound to
abbrev pub Resolution : Type 0
Resolution = List ℕ → Option (List ℕ)

abbrev pub resolution : Scoped → Resolution
resolution scopes = resolved scopes.scopes

abbrev pub or_unbound : Option (List ℕ) → Result (List ℕ) BindError
or_unbound None = Err error.UnboundPrefix
or_unbound (Some uri) = Ok uri

-- the URI of a prefix, which is empty where there is none
abbrev pub uri_of : Resolution → List ℕ → Result (List ℕ) BindError
uri_of R [] = Ok []
uri_of R (b ∷ prefix) = or_unbound (R (b ∷ prefix))

-- a name with the URI of its prefix
abbrev pub bound_name : Resolution → NameRef → Result NameRef BindError
bound_name R name = uri_of R name.prefix >>= λ uri. Ok (record name { uri = Some uri })

-- a variable has this name
abbrev pub is_named : List ℕ → List ℕ → NameRef → Bool
is_named uri local variable = has variable.uri
  where
    has : Option (List ℕ) → Bool
    has None = false
    has (Some own) = bytes_eq own uri && bytes_eq variable.local local
