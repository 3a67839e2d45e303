-- Type numbers that are known of names by the numbers of their URIs.
use Rattle.std.specs.Prelude.{◌≡◌, ℕ, ◌<◌, List, length, Option, Some, slice_get}
use Rattle.std.specs.BTreeMap.{is_at}
use Rattle.std.specs.Map.{lookup}
use Rattle.doc_model.specs.declared.row.Kind.{Kind}
use Rattle.doc_model.specs.Numbers.{kind_number}
use Rattle.name_pool.specs.Keys.{key_cmp}
use Rattle.name_pool.specs.declared.type_index.TypeIndex.TheInside.{Inside}
use Rattle.name_pool.specs.declared.type_numbers.TypeKey.{TypeKey}

-- the local names, and the type number at each key: a kind, the number of a URI, and the position of a local name
pub record Index : Type 0 where
  pub locals : List (List ℕ)
  pub types : List (TypeKey × ℕ)

-- what stands at a key
abbrev pub number_at : List (TypeKey × ℕ) → TypeKey → Option ℕ
number_at types key = lookup (is_at (key_cmp key)) types

-- the index has this type number for the name of this kind with this local name, whose URI has this number
abbrev pub Knows : Index → Kind → ℕ → List ℕ → ℕ → Type 0
Knows index kind uri local n = (at : ℕ) × (slice_get index.locals at ≡ Some local) × (number_at index.types (record { kind = kind_number kind; uri = uri; local = at }) ≡ Some n)

abbrev pub index_of : Inside → Index
index_of it = record { locals = it.locals; types = it.types.entries }

-- the local name of each key is there
abbrev pub IndexHolds : Inside → Type 0
IndexHolds it = (key : TypeKey) (n : ℕ) → number_at it.types.entries key ≡ Some n → key.local < length it.locals
