-- The bindings that are in force in the scopes of a stylesheet (Namespaces in XML 1.0, sections 3 and 6).
use Rattle.std.specs.Prelude.{ℕ, ◌+◌, ◌==◌, List, [], ◌∷◌, Option, if◌then◌else◌, length, reverse}
use Rattle.xml_names.specs.Bindings.{xml_binding, is_fixed, uri_in, unless_empty}
use Rattle.xml_names.specs.declared.scopes.Binding.{Binding}
use Rattle.sheet_scopes.specs.declared.scope.ScopeEntry.{ScopeEntry}

abbrev pub binding_of : ScopeEntry → Binding
binding_of entry = record { prefix = entry.prefix; uri = entry.uri }

-- the bindings in force in a scope, the innermost first, where the entries stand with the last one first: the scope that
-- an entry numbers has its binding, and those of the scope around it, which an earlier entry numbers
abbrev pub in_force_among : List ScopeEntry → ℕ → List Binding
in_force_among [] at = []
in_force_among (entry ∷ before) at = if at == length before + 1 then binding_of entry ∷ in_force_among before entry.outer else in_force_among before at

-- the bindings in force in a scope, the innermost first
abbrev pub in_force : List ScopeEntry → ℕ → List Binding
in_force entries at = in_force_among (reverse entries) at

-- what the prefix is bound to in a scope: `xml` to its own URI and `xmlns` to none, any other by the innermost binding
abbrev pub resolved_at : List ScopeEntry → ℕ → List ℕ → Option (List ℕ)
resolved_at entries at prefix = if is_fixed prefix then uri_in prefix (xml_binding ∷ []) else unless_empty (uri_in prefix (in_force entries at))
