-- What a writer keeps of the table that it fills.
use Rattle.std.specs.Prelude.{◌≡◌, ℕ, suc, ◌+◌, ◌<◌, ◌≤◌, List, [], ◌∷◌, ◌++◌, length, Some, slice_get}
use Rattle.doc_model.specs.declared.places.NamePlace.{NamePlace}
use Rattle.doc_model.specs.declared.places.PrefixPlace.{PrefixPlace}
use Rattle.doc_model.specs.declared.places.RowPlace.{RowPlace}
use Rattle.doc_model.specs.declared.row.Kind.{Kind}
use Rattle.doc_model.specs.declared.row.Row.{Row}
use Rattle.doc_model.specs.Cells.{Columns, Cells, name_at, prefix_at, slice_of, row_of, no_name, text_name, comment_name, text_place, padded, with_text, with_name, with_prefix}
use Rattle.doc_model.specs.Legal.{NameFits, PrefixFits}
use Rattle.name_pool.specs.Names.{Name}

-- the place spells the name
pub record SpellsName (c : Columns) (place : NamePlace) (name : Name) : Type 0 where
  pub fits : NameFits c place
  pub kind : place.kind ≡ name.kind
  pub uri : slice_of c.texts place.uri_at place.uri_len ≡ name.uri
  pub local : slice_of c.texts place.local_at place.local_len ≡ name.local

pub record SpellsPrefix (c : Columns) (place : PrefixPlace) (prefix : List ℕ) : Type 0 where
  pub fits : PrefixFits c place
  pub text : slice_of c.texts place.at place.len ≡ prefix

-- the names of the table are the three of the start and these, in this order
pub record NamesStand (c : Columns) (names : List Name) : Type 0 where
  pub count : length c.names ≡ 3 + length names
  pub root : name_at c 0 ≡ no_name
  pub text : name_at c 1 ≡ text_name
  pub comment : name_at c 2 ≡ comment_name
  pub spelled : (k : ℕ) (name : Name) → slice_get names k ≡ Some name → SpellsName c (name_at c (3 + k)) name

-- the prefixes of the table are the empty one and these, in this order
pub record PrefixesStand (c : Columns) (prefixes : List (List ℕ)) : Type 0 where
  pub count : length c.prefixes ≡ suc (length prefixes)
  pub spelled : (k : ℕ) (prefix : List ℕ) → slice_get ([] ∷ prefixes) k ≡ Some prefix → SpellsPrefix c (prefix_at c k) prefix

-- what the place names is filled, and it spells the row
pub record SpellsRow (c : Columns) (place : RowPlace) (row : Row) : Type 0 where
  pub type : place.type_id < length c.names
  pub prefix : place.prefix_id < length c.prefixes
  pub name_fits : NameFits c (name_at c place.type_id)
  pub prefix_fits : PrefixFits c (prefix_at c place.prefix_id)
  pub text_fits : place.text_at + place.text_len ≤ length c.texts
  pub spelled : row_of c place ≡ row

-- later has the texts, names and prefixes of before, and maybe more
pub record IsFuller (before later : Columns) : Type 0 where
  pub texts : (more : List ℕ) × (later.texts ≡ before.texts ++ more)
  pub names : (more : List NamePlace) × (later.names ≡ before.names ++ more)
  pub prefixes : (more : List PrefixPlace) × (later.prefixes ≡ before.prefixes ++ more)

-- texts, names and prefixes were filled, and nothing else
pub record FillsTexts (before later : Cells) : Type 0 where
  pub fuller : IsFuller before.columns later.columns
  pub places : later.columns.places ≡ before.columns.places
  pub steps : later.steps ≡ before.steps

-- the texts with those of a new name
abbrev pub name_texts : List ℕ → List ℕ → List ℕ → List ℕ
name_texts texts uri local = padded (padded texts ++ uri) ++ local

-- the place of a new name whose texts are filled next
abbrev pub name_next : Columns → Kind → List ℕ → List ℕ → NamePlace
name_next c kind uri local = record { kind = kind; uri_at = text_place (length c.texts); uri_len = length uri; local_at = text_place (text_place (length c.texts) + length uri); local_len = length local }

-- the table with a new name and its texts
abbrev pub with_new_name : Cells → Kind → List ℕ → List ℕ → Cells
with_new_name cells kind uri local = with_name (with_text (with_text cells uri) local) (name_next cells.columns kind uri local)

-- the table with a new prefix and its text
abbrev pub with_new_prefix : Cells → List ℕ → Cells
with_new_prefix cells prefix = with_prefix (with_text cells prefix) (record { at = text_place (length cells.columns.texts); len = length prefix })
