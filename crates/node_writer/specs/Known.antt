-- Type numbers that are known of rows before their names are looked up.
use Rattle.std.specs.Prelude.{◌≡◌, ◌≢◌, ℕ, ◌+◌, ◌-◌, ◌<◌, ◌≤◌, true, false, ⊤, List, [], ◌∷◌, Option, Some, None, IfSome, unwrap_or, slice_get}
use Rattle.doc_model.specs.declared.row.Row.{Row}
use Rattle.name_pool.specs.Names.{Name}
use Rattle.node_writer.specs.declared.writer.NodeWriter.{NodeWriter}
use Rattle.node_writer.specs.Taken.{is_name_of, has_name, name_of_row}

-- the names that a writer has numbered, in the order of their numbers
abbrev pub names_in : NodeWriter → List Name
names_in writer = writer.filler.pool.names

-- these names have this type number for a name
abbrev pub IsTypeIn : List Name → Name → ℕ → Type 0
IsTypeIn names name n = (has_name name.kind ≡ true) × (3 ≤ n) × (slice_get names (n - 3) ≡ Some name)

-- what is known of a row is its type number, if it is anything
abbrev pub IsKnown : List Name → Row → Option ℕ → Type 0
IsKnown names row known = IfSome known (λ n. IsTypeIn names (name_of_row row) n)

-- what was found of a row is its type number, or nothing where these names don't have its name
abbrev pub IsFound : List Name → Row → Option ℕ → Type 0
IsFound names row None = has_name row.kind ≡ true → is_name_of (name_of_row row) names ≡ false
IsFound names row (Some n) = IsTypeIn names (name_of_row row) n

-- what is known at a place; nothing past the end
abbrev pub known_at : List (Option ℕ) → ℕ → Option ℕ
known_at known k = unwrap_or (slice_get known k) None

-- what is known of each of these rows is so; that of the first stands at this place
abbrev pub AreKnown : ℕ → List Name → List Row → List (Option ℕ) → Type 0
AreKnown start names rows known = (k : ℕ) (row : Row) → slice_get rows k ≡ Some row → IsKnown names row (known_at known (start + k))

-- of each of these rows stands what was found of it
abbrev pub AreFound : List Name → List Row → List (Option ℕ) → Type 0
AreFound names [] [] = ⊤
AreFound names [] (one ∷ found) = ⊥
AreFound names (row ∷ rows) [] = ⊥
AreFound names (row ∷ rows) (one ∷ found) = IsFound names row one × AreFound names rows found

-- no two of the rows have one kind, URI and local name
abbrev pub AreApart : List Row → Type 0
AreApart rows = (j k : ℕ) (a b : Row) → slice_get rows j ≡ Some a → slice_get rows k ≡ Some b → j < k → name_of_row a ≢ name_of_row b
