-- The scopes of the namespaces that elements declare, numbered in line order (Namespaces in XML 1.0, section 6).
use Rattle.std.specs.Prelude.{ℕ, ◌+◌, List, [], ◌∷◌}
use Rattle.xml_names.specs.declared.scopes.Binding.{Binding}
use Rattle.sheet_scopes.specs.declared.scope.ScopeEntry.{ScopeEntry}
use Rattle.sheet_source.specs.declared.tree.Start.{Start}

-- the entries of an element's declarations, where its parent has this scope and so many entries stand before: each is around the next
abbrev pub entries_of : ℕ → ℕ → List Binding → List ScopeEntry
entries_of outer count [] = []
entries_of outer count (binding ∷ bindings) = record { outer = outer; prefix = binding.prefix; uri = binding.uri } ∷ entries_of (count + 1) (count + 1) bindings

-- the scope of the element: that of its last declaration, or its parent's
abbrev pub scope_of : ℕ → ℕ → List Binding → ℕ
scope_of outer count [] = outer
scope_of outer count (binding ∷ bindings) = scope_of (count + 1) (count + 1) bindings

-- the scope of the innermost of these elements
abbrev pub innermost : List Start → ℕ
innermost [] = 0
innermost (start ∷ stack) = start.scope
