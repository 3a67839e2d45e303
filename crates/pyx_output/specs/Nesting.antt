-- The open elements, as a writer keeps them: each with its name and the numbers of prefixes that it declares, and the scopes of their declarations.
use Rattle.std.specs.Prelude.{◌≡◌, ℕ, ◌<◌, ◌^◌, List, [], ◌∷◌, ◌++◌, true, Option, Some, None}
use Rattle.xml_names.specs.declared.scopes.Binding.{Binding}
use Rattle.xml_names.specs.Bindings.{xml_binding, all_bindings}
use Rattle.pyx_output.specs.Bytes.{Element}
use Rattle.pyx_output.specs.Declaring.{declares}
use Rattle.pyx_output.specs.FreeNumbers.{has_number}
use Rattle.pyx_output.specs.Numbered.{numbered}
use Rattle.pyx_output.specs.declared.nest.Open.{Open}

-- the elements with these scopes, the innermost first
abbrev pub elements_of : List Open → List (List Binding) → List Element
elements_of [] scopes = []
elements_of (inner ∷ opened) [] = []
elements_of (inner ∷ opened) (scope ∷ scopes) = record { name = inner.name; bound = all_bindings (scope ∷ scopes) } ∷ elements_of opened scopes

-- the numbers are those of all numbered prefixes that are declared here, up to 64 bits, and maybe others
abbrev pub HasNumbers : List Binding → List ℕ → Type 0
HasNumbers scope numbers = (k : ℕ) → k < 2 ^ 64 → declares (numbered k) scope ≡ true → has_number k numbers ≡ true

-- there is a scope for each element, and outside all elements `xml` alone is bound
abbrev pub AreNested : List Open → List (List Binding) → Type 0
AreNested [] [] = ⊥
AreNested [] (scope ∷ []) = scope ≡ xml_binding ∷ []
AreNested [] (scope ∷ next ∷ scopes) = ⊥
AreNested (inner ∷ opened) [] = ⊥
AreNested (inner ∷ opened) (scope ∷ scopes) = HasNumbers scope inner.numbers × AreNested opened scopes

-- one more binding in the innermost element
abbrev pub with_declared : Binding → List Element → List Element
with_declared binding [] = []
with_declared binding (element ∷ outer) = record element { bound = binding ∷ element.bound } ∷ outer

-- one more number of the innermost element, if there is one
abbrev pub noted : Option ℕ → List Open → List Open
noted None opened = opened
noted (Some number) [] = []
noted (Some number) (inner ∷ opened) = record { name = inner.name; numbers = inner.numbers ++ number ∷ [] } ∷ opened
