-- Names and name tests in attributes (XSLT 1.0, sections 2.4 and 3.4). The default namespace doesn't hold for them.
use Rattle.std.specs.Prelude.{ℕ, List, [], ◌∷◌, Bool, ◌&&◌, ◌||◌, not, if◌then◌else◌, Option, Some, None, Result, Ok, Err, codes}
use Rattle.std.specs.List.{list_all}
use Rattle.std.specs.Str.{bytes_eq}
use Rattle.name_grammar.specs.Names.{is_name, is_ncname, local_of, prefix_of}
use Rattle.xpath_binding.specs.Names.{Resolution}
use Rattle.xpath_funcs.specs.Spaces.{words}
use Rattle.xpath_syntax.specs.declared.expression.NameRef.{NameRef}
use Rattle.sheet_elements.specs.declared.fault.SheetKind.{SheetKind}
use Rattle.sheet_elements.specs.declared.fault.SheetKind.TheVariants as kind
use Rattle.sheet_values.specs.declared.value.NameTest.{NameTest}
use Rattle.sheet_values.specs.Refusals.{◌>>=◌, each}

abbrev pub or_unbound : Option (List ℕ) → Result (List ℕ) SheetKind
or_unbound None = Err kind.UnboundPrefix
or_unbound (Some uri) = Ok uri

-- the URI of a prefix, which is empty where there is none
abbrev pub uri_of : Resolution → List ℕ → Result (List ℕ) SheetKind
uri_of R [] = Ok []
uri_of R (b ∷ prefix) = or_unbound (R (b ∷ prefix))

abbrev pub name_with : List ℕ → List ℕ → NameRef
name_with text uri = record { prefix = prefix_of text; local = local_of text; uri = Some uri; slot = None }

abbrev pub bound_name : Resolution → List ℕ → Result NameRef SheetKind
bound_name R text = uri_of R (prefix_of text) >>= λ uri. Ok (name_with text uri)

-- a name with the URI of its prefix
unfoldable pub name_of : Resolution → List ℕ → Result NameRef SheetKind
name_of R text = if not (is_name text) then Err kind.BadAttribute else bound_name R text

abbrev pub is_star : List ℕ → Bool
is_star word = bytes_eq word (codes "*")

-- `*`, a name, or a prefix with `:*`
abbrev pub is_test : List ℕ → Bool
is_test word = is_star word || is_name word || is_ncname (prefix_of word) && is_star (local_of word)

abbrev pub local_of_test : List ℕ → Option (List ℕ)
local_of_test word = if is_star (local_of word) then None else Some (local_of word)

abbrev pub any_name : NameTest
any_name = record { uri = None; local = None }

abbrev pub bound_test : Resolution → List ℕ → Result NameTest SheetKind
bound_test R word = uri_of R (prefix_of word) >>= λ uri. Ok (record { uri = Some uri; local = local_of_test word })

-- the names that a word means
unfoldable pub test_of : Resolution → List ℕ → Result NameTest SheetKind
test_of R word = if is_star word then Ok any_name else bound_test R word

-- the name tests between whitespace: each word is one, before any is bound
unfoldable pub name_tests : Resolution → List ℕ → Result (List NameTest) SheetKind
name_tests R text = if not (list_all is_test (words text)) then Err kind.BadAttribute else each (test_of R) (words text)
