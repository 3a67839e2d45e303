-- What a row and an entry of the log that are stored stand for.
use Rattle.std.specs.Prelude.{◌≢◌, ℕ, zero, suc, Option, Some, None, ⊤}
use Rattle.doc_model.specs.declared.places.RowPlace.{RowPlace}
use Rattle.plain_columns.specs.declared.entry.Entry.{Entry}
use Rattle.plain_columns.specs.declared.entry.Entry.TheVariants.{Join, Shut}
use Rattle.plain_columns.specs.declared.entry.StoredEntry.TheInside.{Inside as EntryInside}
use Rattle.plain_columns.specs.declared.stored_row.StoredRow.TheInside.{Inside}

-- the sibling before, from its number plus 1
abbrev pub prev_of : ℕ → Option ℕ
prev_of zero = None
prev_of (suc k) = Some k

abbrev pub place_of : Inside → RowPlace
place_of s = record {
  kind = s.kind;
  type_id = s.type_id;
  prefix_id = s.prefix_id;
  parent = s.parent;
  prev = prev_of s.prev;
  depth = s.depth;
  attr_count = s.attr_count;
  text_at = s.text_at;
  text_len = s.text_len;
}

-- the entry that a word stands for
abbrev pub entry_of : ℕ → Entry
entry_of zero = Shut
entry_of (suc k) = Join (suc k)

abbrev pub stored_entry : EntryInside → Entry
stored_entry s = entry_of s.word

-- the root is never joined
abbrev pub JoinsNoRoot : Entry → Type 0
JoinsNoRoot (Join n) = n ≢ 0
JoinsNoRoot Shut = ⊤
