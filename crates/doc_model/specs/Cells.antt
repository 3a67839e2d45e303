-- What a growing table holds, what it spells, and what a call makes of it.
use Rattle.std.specs.Prelude.{ℕ, suc, ◌+◌, ◌-◌, ◌*◌, ◌/◌, List, [], ◌∷◌, ◌++◌, length, None, slice_index_or, take, drop, map, replicate}
use Rattle.doc_model.specs.declared.limits.Limits.{Limits}
use Rattle.doc_model.specs.declared.places.NamePlace.{NamePlace}
use Rattle.doc_model.specs.declared.places.PrefixPlace.{PrefixPlace}
use Rattle.doc_model.specs.declared.places.Room.{Room}
use Rattle.doc_model.specs.declared.places.RowPlace.{RowPlace}
use Rattle.doc_model.specs.declared.row.Kind.TheVariants.{Root, Text, Comment}
use Rattle.doc_model.specs.declared.row.Row.{Row}
use Rattle.doc_model.specs.declared.step.Step.{Step}
use Rattle.doc_model.specs.declared.step.Step.TheVariants.{Node}

-- the lists that were filled: bytes of texts, with gaps of zeros, names by type number, prefixes, and rows by their places
pub record Columns : Type 0 where
  pub texts : List ℕ
  pub names : List NamePlace
  pub prefixes : List PrefixPlace
  pub places : List RowPlace

-- the lists that were filled, and the steps that were joined, shut and finished
pub record Cells : Type 0 where
  pub columns : Columns
  pub steps : List Step

-- the name of type number 0, the root's
abbrev pub no_name : NamePlace
no_name = record { kind = Root; uri_at = 0; uri_len = 0; local_at = 0; local_len = 0 }

-- the name of type number 1, that of texts
abbrev pub text_name : NamePlace
text_name = record { kind = Text; uri_at = 0; uri_len = 0; local_at = 0; local_len = 0 }

-- the name of type number 2, that of comments
abbrev pub comment_name : NamePlace
comment_name = record { kind = Comment; uri_at = 0; uri_len = 0; local_at = 0; local_len = 0 }

-- prefix number 0, which is empty
abbrev pub no_prefix : PrefixPlace
no_prefix = record { at = 0; len = 0 }

abbrev pub root_place : RowPlace
root_place = record { kind = Root; type_id = 0; prefix_id = 0; parent = 0; prev = None; depth = 0; attr_count = 0; text_at = 0; text_len = 0 }

-- a new table: the root, type numbers 0 to 2 and prefix 0 stand from the start
abbrev pub empty_cells : Cells
empty_cells = record {
  columns = record { texts = []; names = no_name ∷ text_name ∷ comment_name ∷ []; prefixes = no_prefix ∷ []; places = root_place ∷ [] };
  steps = [];
}

abbrev pub name_at : Columns → ℕ → NamePlace
name_at c id = slice_index_or c.names id no_name

abbrev pub prefix_at : Columns → ℕ → PrefixPlace
prefix_at c id = slice_index_or c.prefixes id no_prefix

abbrev pub place_at : Columns → ℕ → RowPlace
place_at c n = slice_index_or c.places n root_place

-- so many bytes of the texts
abbrev pub slice_of : List ℕ → ℕ → ℕ → List ℕ
slice_of texts at len = take len (drop at texts)

-- the row that a place spells
abbrev pub row_of : Columns → RowPlace → Row
row_of c place =
    let name = slice_index_or c.names place.type_id no_name in
    let prefix = slice_index_or c.prefixes place.prefix_id no_prefix in
    record {
      kind = place.kind;
      prefix = slice_of c.texts prefix.at prefix.len;
      uri = slice_of c.texts name.uri_at name.uri_len;
      local = slice_of c.texts name.local_at name.local_len;
      value = slice_of c.texts place.text_at place.text_len;
      depth = place.depth;
    }

-- the places of the attributes of row n, which are filled right after it
abbrev pub attributes_at : Columns → ℕ → List RowPlace
attributes_at c n = take (place_at c n).attr_count (drop (suc n) c.places)

-- the step that joining row n gives: the row and its attributes as they are spelled
abbrev pub node_at : Columns → ℕ → Step
node_at c n = Node (row_of c (place_at c n)) (map (row_of c) (attributes_at c n))

-- where a text begins that is filled behind so many bytes: at the least multiple of 7 that is not below
abbrev pub text_place : ℕ → ℕ
text_place n = 7 * ((n + 6) / 7)

-- the bytes, and zeros behind them up to the place of the next text
abbrev pub padded : List ℕ → List ℕ
padded texts = texts ++ replicate (text_place (length texts) - length texts) 0

-- the words of seven bytes that a table reserves, enough for whatever its limits allow: a row has one text, a type two and a prefix one, and each begins at a word
abbrev pub text_words : Limits → ℕ
text_words limits = limits.text / 7 + limits.rows + 2 * limits.names + 1

-- what is free: of texts the bytes of the words that are not used; the root counts as a row, and the type numbers and the prefix of the start not as names
abbrev pub free_of : Limits → Columns → Room
free_of limits c = record {
  rows = limits.rows - length c.places;
  text = 7 * text_words limits - text_place (length c.texts);
  names = limits.names - (length c.names - 3 + (length c.prefixes - 1));
}

-- the table after a call
abbrev pub with_text : Cells → List ℕ → Cells
with_text cells bytes = record cells { columns = record cells.columns { texts = padded cells.columns.texts ++ bytes } }

abbrev pub with_name : Cells → NamePlace → Cells
with_name cells name = record cells { columns = record cells.columns { names = cells.columns.names ++ name ∷ [] } }

abbrev pub with_prefix : Cells → PrefixPlace → Cells
with_prefix cells prefix = record cells { columns = record cells.columns { prefixes = cells.columns.prefixes ++ prefix ∷ [] } }

abbrev pub with_row : Cells → RowPlace → Cells
with_row cells place = record cells { columns = record cells.columns { places = cells.columns.places ++ place ∷ [] } }

abbrev pub with_step : Cells → Step → Cells
with_step cells step = record cells { steps = cells.steps ++ step ∷ [] }
