-- Where the attributes of an element stand, by their expanded names.
use Rattle.std.specs.Prelude.{◌≡◌, ℕ, ◌+◌, List, [], ◌∷◌, Option, Some, None, if◌then◌else◌}
use Rattle.std.specs.Ordering.{nat_cmp, ordering_then}
use Rattle.std.specs.Cmp.Lexicographic.{slice_cmp}
use Rattle.std.specs.BTreeMap.{BTreeMap, get_by}
use Rattle.std.specs.declared.cmp.Ordering.{Ordering}
use Rattle.result_events.specs.Tidy.{same_expanded}
use Rattle.result_events.specs.declared.event.Name.{Name}
use Rattle.result_events.specs.declared.event.Attribute.{Attribute}
use Rattle.result_events.specs.declared.index.ExpandedName.{ExpandedName}

-- where the first attribute of this expanded name stands, the first of the list at the number given
abbrev pub place_from : Name → ℕ → List Attribute → Option ℕ
place_from name at [] = None
place_from name at (attribute ∷ later) = if same_expanded attribute.name name then Some at else place_from name (at + 1) later

-- a name is compared with a key by local names, then by URIs
abbrev pub name_cmp : Name → ExpandedName → Ordering
name_cmp name key = ordering_then (slice_cmp nat_cmp name.local key.local.items) (slice_cmp nat_cmp name.uri key.uri.items)

-- where the index finds a name
abbrev pub found : Name → BTreeMap ExpandedName ℕ → Option ℕ
found name index = get_by (name_cmp name) index

-- the index finds each name where its first attribute stands
abbrev pub Finds : BTreeMap ExpandedName ℕ → List Attribute → Type 0
Finds index attributes = (name : Name) → found name index ≡ place_from name 0 attributes
