-- The namespaces in force in an element (Namespaces in XML 1.0, section 6). The innermost scope stands first, in it the latest declaration.
use Rattle.std.specs.Prelude.{List, [], ◌∷◌, if◌then◌else◌}
use Rattle.xml_names.specs.declared.scopes.Binding.{Binding}
use Rattle.xml_names.specs.Bindings.{bound_in, is_fixed}

-- with one more declaration in the innermost scope; one of `xml` or `xmlns` has no effect
abbrev pub declared : List (List Binding) → Binding → List (List Binding)
declared scopes binding = if is_fixed binding.prefix then scopes else bound_in scopes binding

abbrev pub all_declared : List (List Binding) → List Binding → List (List Binding)
all_declared scopes [] = scopes
all_declared scopes (binding ∷ bindings) = all_declared (declared scopes binding) bindings

-- inside of an element with these declarations, in line order
abbrev pub inside : List (List Binding) → List Binding → List (List Binding)
inside scopes bindings = all_declared ([] ∷ scopes) bindings

-- the scopes around the innermost
abbrev pub around : List (List Binding) → List (List Binding)
around [] = []
around (inner ∷ outer) = outer
