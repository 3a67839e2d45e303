-- What rows take of a table: their names, their prefixes and their bytes.
use Rattle.std.specs.Prelude.{ℕ, ◌+◌, ◌≤◌, Bool, true, false, ◌||◌, ◌&&◌, ◌==◌, if◌then◌else◌, List, [], ◌∷◌, ◌++◌, length, sum_by, bytes_eq}
use Rattle.doc_model.specs.declared.limits.Limits.{Limits}
use Rattle.doc_model.specs.declared.row.Kind.{Kind}
use Rattle.doc_model.specs.declared.row.Kind.TheVariants.{Root, Element, Attribute, Text, Instruction, Comment}
use Rattle.doc_model.specs.declared.row.Row.{Row}
use Rattle.doc_model.specs.Legible.{is_empty}
use Rattle.doc_model.specs.Numbers.{kind_number}
use Rattle.name_pool.specs.Names.{Name}

-- kind, URI and local name are the same
abbrev pub is_same : Name → Name → Bool
is_same a b = (kind_number a.kind == kind_number b.kind) && (bytes_eq a.uri b.uri && bytes_eq a.local b.local)

abbrev pub is_name_of : Name → List Name → Bool
is_name_of name [] = false
is_name_of name (other ∷ names) = is_same name other || is_name_of name names

abbrev pub is_prefix_of : List ℕ → List (List ℕ) → Bool
is_prefix_of prefix [] = false
is_prefix_of prefix (other ∷ prefixes) = bytes_eq prefix other || is_prefix_of prefix prefixes

-- elements, attributes and instructions have a name; the root, texts and comments have none
abbrev pub has_name : Kind → Bool
has_name Root = false
has_name Element = true
has_name Attribute = true
has_name Text = false
has_name Instruction = true
has_name Comment = false

abbrev pub name_of_row : Row → Name
name_of_row row = record { kind = row.kind; uri = row.uri; local = row.local }

-- the names, and this one if it is not among them
abbrev pub name_added : List Name → Name → List Name
name_added names name = if is_name_of name names then names else names ++ name ∷ []

-- the names, and that of the row if it has one that is not among them
abbrev pub names_with : List Name → Row → List Name
names_with names row = if has_name row.kind then name_added names (name_of_row row) else names

abbrev pub names_from : List Name → List Row → List Name
names_from names [] = names
names_from names (row ∷ rows) = names_from (names_with names row) rows

-- the distinct names of the rows, in the order of their first sight
abbrev pub names_of : List Row → List Name
names_of rows = names_from [] rows

-- the prefixes, and this one if it is not empty and not among them
abbrev pub prefix_added : List (List ℕ) → List ℕ → List (List ℕ)
prefix_added prefixes prefix = if is_empty prefix || is_prefix_of prefix prefixes then prefixes else prefixes ++ prefix ∷ []

-- the prefixes, and that of the row if it has one that is not among them
abbrev pub prefixes_with : List (List ℕ) → Row → List (List ℕ)
prefixes_with prefixes row = prefix_added prefixes row.prefix

abbrev pub prefixes_from : List (List ℕ) → List Row → List (List ℕ)
prefixes_from prefixes [] = prefixes
prefixes_from prefixes (row ∷ rows) = prefixes_from (prefixes_with prefixes row) rows

-- the distinct nonempty prefixes of the rows, in the order of their first sight
abbrev pub prefixes_of : List Row → List (List ℕ)
prefixes_of rows = prefixes_from [] rows

-- the names and prefixes of the rows are so many
abbrev pub name_count : List Row → ℕ
name_count rows = length (names_of rows) + length (prefixes_of rows)

abbrev pub name_bytes : List Name → ℕ
name_bytes names = sum_by (λ (name : Name). length name.uri + length name.local) names

abbrev pub prefix_bytes : List (List ℕ) → ℕ
prefix_bytes prefixes = sum_by (λ (prefix : List ℕ). length prefix) prefixes

abbrev pub value_bytes : List Row → ℕ
value_bytes rows = sum_by (λ (row : Row). length row.value) rows

-- the bytes of the rows: those of their values, and those of their names and prefixes, each counted once
abbrev pub text_bytes : List Row → ℕ
text_bytes rows = value_bytes rows + (name_bytes (names_of rows) + prefix_bytes (prefixes_of rows))

-- a table with these limits has room for the rows
pub record HasRoom (limits : Limits) (given : List Row) : Type 0 where
  pub rows : length given ≤ limits.rows
  pub names : name_count given ≤ limits.names
  pub text : text_bytes given ≤ limits.text
