-- The names that rows have, counted once each.
use Rattle.std.specs.Prelude.{ℕ, ◌+◌, List, [], ◌∷◌, Bool, ◌&&◌, ◌||◌, ◌==◌, if◌then◌else◌, length, map, sum}
use Rattle.std.specs.List.{list_any}
use Rattle.std.specs.Str.{bytes_eq}
use Rattle.doc_model.specs.declared.row.Kind.{Kind}
use Rattle.doc_model.specs.Numbers.{kind_number}
use Rattle.doc_model.specs.declared.row.Row.{Row}
use Rattle.pyx_events.specs.declared.event.Event.{Event}
use Rattle.pyx_events.specs.Nodes.{node_rows}

-- a row of this kind has no name: a text or a comment
abbrev pub is_nameless : Kind → Bool
is_nameless kind = kind_number kind == 3 || kind_number kind == 5

-- one expanded name: local name and URI (Namespaces in XML 1.0, section 2.1)
abbrev pub same_expanded : Row → Row → Bool
same_expanded a b = bytes_eq a.local b.local && bytes_eq a.uri b.uri

-- one type: kind, URI and local name
abbrev pub same_type : Row → Row → Bool
same_type a b = kind_number a.kind == kind_number b.kind && same_expanded a b

-- one row of each type; texts and comments have no name
abbrev pub types : List Row → List Row
types [] = []
types (row ∷ rows) = if is_nameless row.kind || list_any (same_type row) rows then types rows else row ∷ types rows

-- each prefix once, the empty one left out
abbrev pub prefixes : List Row → List (List ℕ)
prefixes [] = []
prefixes (row ∷ rows) = if length row.prefix == 0 || list_any (λ other. bytes_eq row.prefix other.prefix) rows then prefixes rows else row.prefix ∷ prefixes rows

-- how many names are counted, and their bytes
pub record Names : Type 0 where
  pub count : ℕ
  pub bytes : ℕ

-- no name and no name's bytes
abbrev pub free_names : Names
free_names = record { count = 0; bytes = 0 }

-- the distinct triples of kind, URI and local name, and the distinct nonempty prefixes, of rows
abbrev pub row_names : List Row → Names
row_names rows = record {
  count = length (types rows) + length (prefixes rows);
  bytes = sum (map (λ row. length row.uri + length row.local) (types rows)) + sum (map (λ prefix. length prefix) (prefixes rows));
}

-- the names of these events' nodes; none where names are free
abbrev pub names_of : Bool → List Event → Names
names_of free events = if free then free_names else row_names (node_rows events)
