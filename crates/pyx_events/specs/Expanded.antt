-- Expanded names in a set.
use Rattle.std.specs.Prelude.{ℕ, List, Bool, ◌==◌, ◌&&◌}
use Rattle.std.specs.List.{list_any}
use Rattle.std.specs.Str.{bytes_eq}
use Rattle.pyx_events.specs.declared.expanded_names.ExpandedName.{ExpandedName}
use Rattle.pyx_events.specs.declared.expanded_names.ExpandedNames.{ExpandedNames}

-- the set has the local name under the URI of this number
abbrev pub has_name : ExpandedNames → ℕ → List ℕ → Bool
has_name set uri local = list_any (λ (name : ExpandedName). uri == name.uri && bytes_eq local name.local.items) set.names.keys
