-- What rows would add to the names of a table.
use Rattle.std.specs.Prelude.{◌≡◌, ℕ, ◌+◌, Bool, ◌&&◌, ◌||◌, not, List, ◌++◌, nat_lt, if◌then◌else◌}
use Rattle.std.specs.List.{list_any}
use Rattle.std.specs.Str.{bytes_eq}
use Rattle.doc_model.specs.declared.row.Row.{Row}
use Rattle.doc_model.specs.Legible.{is_empty}
use Rattle.node_writer.specs.declared.new_names.NewNames.{NewNames}
use Rattle.node_writer.specs.Taken.{is_same, is_name_of, is_prefix_of, has_name, name_of_row, names_of, prefixes_of, name_bytes, prefix_bytes, name_count}

-- the bytes of the names and prefixes of the rows, each counted once
abbrev pub names_bytes : List Row → ℕ
names_bytes rows = name_bytes (names_of rows) + prefix_bytes (prefixes_of rows)

-- so many, or 18,446,744,073,709,551,615 where it is more
abbrev pub capped : ℕ → ℕ
capped n = if nat_lt n 18446744073709551616 then n else 18446744073709551615

-- the row has a name that is not among those of the rows before
abbrev pub has_new_name : List Row → Row → Bool
has_new_name before row = has_name row.kind && not (is_name_of (name_of_row row) (names_of before))

-- the row has a prefix that is not among those of the rows before
abbrev pub has_new_prefix : List Row → Row → Bool
has_new_prefix before row = not (is_empty row.prefix || is_prefix_of row.prefix (prefixes_of before))

-- one of the rows has the kind, URI and local name of this one
abbrev pub has_type_of : Row → List Row → Bool
has_type_of row rows = list_any (λ other. is_same (name_of_row row) (name_of_row other)) rows

-- one of the rows has the prefix of this one
abbrev pub has_prefix_of : Row → List Row → Bool
has_prefix_of row rows = list_any (λ other. bytes_eq row.prefix other.prefix) rows

-- the names that these rows add to those of the rows before: so many, with so many bytes, as far as both fit
pub record AddsNames (before more : List Row) (new : NewNames) : Type 0 where
  pub count_added : ℕ
  pub bytes_added : ℕ
  pub all_counted : name_count before + count_added ≡ name_count (before ++ more)
  pub all_bytes : names_bytes before + bytes_added ≡ names_bytes (before ++ more)
  pub count : new.count ≡ capped count_added
  pub bytes : new.bytes ≡ capped bytes_added
