-- What holds of a filler and the table that it fills.
use Rattle.std.specs.Prelude.{◌≡◌, ◌≢◌, false, ℕ, suc, ◌+◌, ◌*◌, ◌<◌, ◌≤◌, ◌^◌, List, [], ◌∷◌, ◌++◌, length, None, IfSome, ⊤}
use Rattle.doc_model.specs.declared.limits.Limits.{Limits}
use Rattle.doc_model.specs.declared.places.RowPlace.{RowPlace}
use Rattle.doc_model.specs.declared.row.Kind.TheVariants.{Root, Element, Attribute}
use Rattle.doc_model.specs.declared.row.Row.{Row}
use Rattle.doc_model.specs.Cells.{Columns, name_at, prefix_at, place_at}
use Rattle.name_pool.specs.Names.{Name}
use Rattle.node_writer.specs.declared.filler.Filler.{Filler}
use Rattle.node_writer.specs.declared.filler.Links.{Links}
use Rattle.node_writer.specs.Filled.{NamesStand, PrefixesStand, SpellsName, SpellsPrefix, SpellsRow, IsFuller}
use Rattle.node_writer.specs.Taken.{has_name, name_added, prefix_added, names_with, names_from, prefixes_from, name_bytes, prefix_bytes, value_bytes}

-- the numbers are those of the table, and its pool has the table's names; there are at most six bytes of a gap for each row and prefix, and twelve for each name
pub record FillerStands (filler : Filler) (limits : Limits) (c : Columns) : Type 0 where
  pub at : filler.at ≡ length c.texts
  pub gaps : filler.at ≤ filler.text + 6 * (filler.rows + 2 * length filler.pool.names + length filler.pool.prefixes)
  pub rows : filler.rows ≡ length c.places
  pub types : filler.types ≡ length c.names
  pub prefix_numbers : filler.prefixes ≡ length c.prefixes
  pub names : NamesStand c filler.pool.names
  pub prefixes : PrefixesStand c filler.pool.prefixes
  pub limit : filler.pool.limit ≡ limits.names
  pub few : limits.names ≤ 65536
  pub small : limits.text < 2 ^ 32
  pub rows_small : limits.rows < 2 ^ 32

-- there is room for a name, if it is new, and for the row that has it
pub record NameFits (filler : Filler) (limits : Limits) (name : Name) : Type 0 where
  pub rows : filler.rows < limits.rows
  pub names : length (name_added filler.pool.names name) + length filler.pool.prefixes ≤ limits.names
  pub text : filler.text + name_bytes (name_added filler.pool.names name) ≤ limits.text + name_bytes filler.pool.names

-- the filler after a name: it is in the pool, and its bytes were counted if it was new
pub record NameFilled (old new : Filler) (limits : Limits) (after : Columns) (name : Name) : Type 0 where
  pub stands : FillerStands new limits after
  pub rows : new.rows ≡ old.rows
  pub names : new.pool.names ≡ name_added old.pool.names name
  pub prefixes : new.pool.prefixes ≡ old.pool.prefixes
  pub text : new.text + name_bytes old.pool.names ≡ old.text + name_bytes new.pool.names

-- the type number is that of the name
pub record IsTypeOf (c : Columns) (id : ℕ) (name : Name) : Type 0 where
  pub within : id < length c.names
  pub spells : SpellsName c (name_at c id) name

-- there is room for a prefix, if it is new, and for the row that has it
pub record PrefixFits (filler : Filler) (limits : Limits) (prefix : List ℕ) : Type 0 where
  pub rows : filler.rows < limits.rows
  pub names : length filler.pool.names + length (prefix_added filler.pool.prefixes prefix) ≤ limits.names
  pub text : filler.text + prefix_bytes (prefix_added filler.pool.prefixes prefix) ≤ limits.text + prefix_bytes filler.pool.prefixes

-- the filler after a prefix
pub record PrefixFilled (old new : Filler) (limits : Limits) (after : Columns) (prefix : List ℕ) : Type 0 where
  pub stands : FillerStands new limits after
  pub rows : new.rows ≡ old.rows
  pub names : new.pool.names ≡ old.pool.names
  pub prefixes : new.pool.prefixes ≡ prefix_added old.pool.prefixes prefix
  pub text : new.text + prefix_bytes old.pool.prefixes ≡ old.text + prefix_bytes new.pool.prefixes

pub record IsPrefixOf (c : Columns) (id : ℕ) (prefix : List ℕ) : Type 0 where
  pub within : id < length c.prefixes
  pub spells : SpellsPrefix c (prefix_at c id) prefix

-- a row that a source can give: not the root, and a text or a comment has no name
pub record IsGiven (row : Row) : Type 0 where
  pub kind : row.kind ≢ Root
  pub uri : has_name row.kind ≡ false → row.uri ≡ []
  pub local : has_name row.kind ≡ false → row.local ≡ []

-- there is room for a row and for its name, if that is new
pub record TypeFits (filler : Filler) (limits : Limits) (row : Row) : Type 0 where
  pub rows : filler.rows < limits.rows
  pub names : length (names_with filler.pool.names row) + length filler.pool.prefixes ≤ limits.names
  pub text : filler.text + name_bytes (names_with filler.pool.names row) ≤ limits.text + name_bytes filler.pool.names

-- the filler after the name of a row
pub record TypeFilled (old new : Filler) (limits : Limits) (after : Columns) (row : Row) : Type 0 where
  pub stands : FillerStands new limits after
  pub rows : new.rows ≡ old.rows
  pub names : new.pool.names ≡ names_with old.pool.names row
  pub prefixes : new.pool.prefixes ≡ old.pool.prefixes
  pub text : new.text + name_bytes old.pool.names ≡ old.text + name_bytes new.pool.names

-- there is room for these rows beside those that are filled
pub record RowsFit (filler : Filler) (limits : Limits) (given : List Row) : Type 0 where
  pub rows : filler.rows + length given ≤ limits.rows
  pub names : length (names_from filler.pool.names given) + length (prefixes_from filler.pool.prefixes given) ≤ limits.names
  pub text : filler.text + value_bytes given + (name_bytes (names_from filler.pool.names given) + prefix_bytes (prefixes_from filler.pool.prefixes given)) ≤ limits.text + (name_bytes filler.pool.names + prefix_bytes filler.pool.prefixes)

-- the parent and the earlier sibling are filled, and the row may stand there
pub record LinksFit (c : Columns) (row : Row) (links : Links) : Type 0 where
  pub parent : links.parent < length c.places
  pub prev : IfSome links.prev (λ k. k < length c.places)
  pub depth : row.depth ≡ suc (place_at c links.parent).depth
  pub bare : row.kind ≢ Element → links.attributes ≡ 0
  pub alone : row.kind ≡ Attribute → links.prev ≡ None

pub record IsLinked (links : Links) (place : RowPlace) : Type 0 where
  pub parent : place.parent ≡ links.parent
  pub prev : place.prev ≡ links.prev
  pub count : place.attr_count ≡ links.attributes

abbrev pub AreLinked : Links → List RowPlace → Type 0
AreLinked links [] = ⊤
AreLinked links (place ∷ places) = IsLinked links place × AreLinked links places

-- the places spell the rows, one by one
abbrev pub AllSpell : Columns → List RowPlace → List Row → Type 0
AllSpell c [] [] = ⊤
AllSpell c [] (row ∷ given) = ⊥
AllSpell c (place ∷ places) [] = ⊥
AllSpell c (place ∷ places) (row ∷ given) = SpellsRow c place row × AllSpell c places given

-- these rows were filled, with these links
pub record RowsFilled (old new : Filler) (limits : Limits) (before after : Columns) (given : List Row) (links : Links) : Type 0 where
  pub stands : FillerStands new limits after
  pub names : new.pool.names ≡ names_from old.pool.names given
  pub prefixes : new.pool.prefixes ≡ prefixes_from old.pool.prefixes given
  pub text : new.text + (name_bytes old.pool.names + prefix_bytes old.pool.prefixes) ≡ old.text + value_bytes given + (name_bytes new.pool.names + prefix_bytes new.pool.prefixes)
  pub fuller : IsFuller before after
  pub places : List RowPlace
  pub placed : after.places ≡ before.places ++ places
  pub spells : AllSpell after places given
  pub linked : AreLinked links places
