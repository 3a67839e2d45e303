-- The names that instructions compute (XSLT 1.0, sections 7.1.2, 7.1.3 and 7.3).
use Rattle.std.specs.Prelude.{◌≡◌, ◌⊎◌, ℕ, List, [], ◌∷◌, Bool, ◌||◌, ◌&&◌, not, ◌==◌, true, false, length, if◌then◌else◌, Option, Some, None, Result, Ok, Err, codes}
use Rattle.std.specs.Str.{bytes_eq}
use Rattle.name_grammar.specs.Names.{is_name, is_ncname, prefix_of, local_of}
use Rattle.result_events.specs.declared.event.Name.{Name}
use Rattle.sheet_scopes.specs.Scopes.{resolved_at}
use Rattle.sheet_scopes.specs.declared.scope.ScopeEntry.{ScopeEntry}
use Rattle.computed_names.specs.declared.stop.NameStop.{NameStop}
use Rattle.computed_names.specs.declared.stop.NameStop.TheVariants.{BadName, UnboundPrefix, Memory}

abbrev pub is_xmlns : List ℕ → Bool
is_xmlns name = bytes_eq name (codes "xmlns")

-- the namespace of a name without a prefix: that of an element is the default namespace, an attribute has none
abbrev pub default_uri : Bool → Option (List ℕ) → List ℕ
default_uri true found = []
default_uri false None = []
default_uri false (Some uri) = uri

-- the namespace of a name whose prefix is bound to this
abbrev pub uri_of : Bool → List ℕ → Option (List ℕ) → Option (List ℕ)
uri_of attribute [] found = Some (default_uri attribute found)
uri_of attribute (b ∷ prefix) found = found

-- the namespace of a name: the one that is handed in, or else that of its prefix
abbrev pub namespace_of : Bool → List ℕ → Option (List ℕ) → Option (List ℕ) → Option (List ℕ)
namespace_of attribute prefix (Some uri) found = Some uri
namespace_of attribute prefix None found = uri_of attribute prefix found

-- a name of this namespace; an attribute without namespace is never `xmlns`
abbrev pub named : Bool → List ℕ → List ℕ → Option (List ℕ) → Result Name NameStop
named attribute prefix local None = Err UnboundPrefix
named attribute prefix local (Some uri) = if attribute && length uri == 0 && is_xmlns local then Err BadName else Ok (record { prefix = prefix; uri = uri; local = local })

-- what a computed name stands for, where its prefix is bound to `found`: it has to be a name, and no attribute is `xmlns`
abbrev pub name_from : Bool → List ℕ → Option (List ℕ) → Option (List ℕ) → Result Name NameStop
name_from attribute name uri found = if not (is_name name) || attribute && is_xmlns name then Err BadName
    else named attribute (prefix_of name) (local_of name) (namespace_of attribute (prefix_of name) uri found)

-- what a computed name stands for in a scope
abbrev pub computed : Bool → List ℕ → Option (List ℕ) → List ScopeEntry → ℕ → Result Name NameStop
computed attribute name uri entries at = name_from attribute name uri (resolved_at entries at (prefix_of name))

-- what it stands for, or want of memory
abbrev pub Answers : Result Name NameStop → Result Name NameStop → Type 0
Answers wanted result = (result ≡ Err Memory) ⊎ (result ≡ wanted)

-- `xml` in any case
abbrev pub is_xml : List ℕ → Bool
is_xml (x ∷ m ∷ l ∷ []) = (x == 120 || x == 88) && (m == 109 || m == 77) && (l == 108 || l == 76)
is_xml bytes = false

-- the name of an instruction: an NCName, and not `xml` in any case
abbrev pub is_target : List ℕ → Bool
is_target name = is_ncname name && not (is_xml name)
