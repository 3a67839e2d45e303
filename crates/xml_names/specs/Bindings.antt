-- Namespace bindings, and what a prefix is bound to (Namespaces in XML 1.0, sections 3 and 6).
use Rattle.std.specs.Prelude.{ℕ, List, [], ◌∷◌, Bool, ◌||◌, if◌then◌else◌, Option, Some, None, codes}
use Rattle.std.specs.List.{flat_map}
use Rattle.std.specs.Str.{bytes_eq}
use Rattle.xml_names.specs.declared.scopes.Binding.{Binding}

-- the binding that stands from the start
abbrev pub xml_binding : Binding
xml_binding = record { prefix = codes "xml"; uri = codes "http://www.w3.org/XML/1998/namespace" }

-- a prefix that is never bound anew
abbrev pub is_fixed : List ℕ → Bool
is_fixed prefix = bytes_eq prefix (codes "xml") || bytes_eq prefix (codes "xmlns")

-- the URI of the first of these bindings that has the prefix
abbrev pub uri_in : List ℕ → List Binding → Option (List ℕ)
uri_in prefix [] = None
uri_in prefix (binding ∷ bindings) = if bytes_eq binding.prefix prefix then Some binding.uri else uri_in prefix bindings

-- a URI; an empty one binds nothing
abbrev pub unless_empty : Option (List ℕ) → Option (List ℕ)
unless_empty None = None
unless_empty (Some []) = None
unless_empty (Some (b ∷ uri)) = Some (b ∷ uri)

-- the bindings of scopes, the innermost scope first and the latest binding of each scope first
abbrev pub all_bindings : List (List Binding) → List Binding
all_bindings scopes = flat_map (λ scope. scope) scopes

-- what the innermost binding of the prefix binds it to
abbrev pub resolved : List (List Binding) → List ℕ → Option (List ℕ)
resolved scopes prefix = unless_empty (uri_in prefix (all_bindings scopes))

-- the scopes with one more binding in the innermost
abbrev pub bound_in : List (List Binding) → Binding → List (List Binding)
bound_in [] binding = (binding ∷ []) ∷ []
bound_in (inner ∷ outer) binding = (binding ∷ inner) ∷ outer

-- the URIs before the first declaration: the empty one and that of `xml`
abbrev pub first_uris : List (List ℕ)
first_uris = [] ∷ xml_binding.uri ∷ []

-- scopes, and the URIs that were bound in them, each once, in the order of their first declarations after the first URIs
pub record Scoped : Type 0 where
  pub scopes : List (List Binding)
  pub uris : List (List ℕ)
