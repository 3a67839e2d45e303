-- The table that the fields of a `Plain` stand for, and what holds of them.
use Rattle.std.specs.Prelude.{◌≡◌, ℕ, ◌+◌, ◌-◌, ◌^◌, ◌<◌, ◌≤◌, ◌*◌, length, vec_capacity}
use Rattle.doc_model.specs.Cells.{Columns, text_words}
use Rattle.doc_model.specs.Document.{document_of}
use Rattle.plain_columns.specs.declared.table.Plain.TheInside.{Inside}
use Rattle.plain_columns.specs.Spelled.{Spelled, FewSteps, WordsHold, Placed, steps_of}
use Rattle.plain_columns.specs.Value.{Table}

abbrev pub columns_of : Inside → Columns
columns_of p = record { texts = p.texts.items; names = p.names.items; prefixes = p.prefixes.items; places = p.places.items }

abbrev pub table_of : Inside → Table
table_of p = record { limits = p.limits; cells = record { columns = columns_of p; steps = steps_of (columns_of p) p.log.items p.verdict } }

-- a column keeps within what there is room for, and its memory is taken
pub record HasRoom (count limit capacity : ℕ) : Type 0 where
  pub within : count ≤ limit
  pub taken : limit ≤ capacity

-- names and prefixes keep within one limit, the numbers that stand from the start aside
pub record HasNames (names prefixes limit name_capacity prefix_capacity : ℕ) : Type 0 where
  pub within : names - 3 + (prefixes - 1) ≤ limit
  pub types_stand : 3 ≤ names
  pub prefix_stands : 1 ≤ prefixes
  pub names_taken : limit + 3 ≤ name_capacity
  pub prefixes_taken : limit + 1 ≤ prefix_capacity

-- each row has its words, for which memory is taken
pub record HasWords (rows limit first next extent : ℕ) (first_capacity next_capacity extent_capacity : ℕ) : Type 0 where
  pub firsts : first ≡ rows
  pub nexts : next ≡ rows
  pub extents : extent ≡ rows
  pub firsts_taken : limit ≤ first_capacity
  pub nexts_taken : limit ≤ next_capacity
  pub extents_taken : limit ≤ extent_capacity

pub record IsSmall (rows text names : ℕ) : Type 0 where
  pub rows_fit : rows < 2 ^ 32
  pub text_fits : text < 2 ^ 32
  pub names_fit : names < 2 ^ 32

pub record PlainHolds (p : Inside) : Type 0 where
  pub spelled : Spelled (columns_of p) p.log.items
  pub words : WordsHold (steps_of (columns_of p) p.log.items p.verdict) p.first.items p.next.items p.extent.items p.verdict
  pub placed : Placed (columns_of p) (steps_of (columns_of p) p.log.items p.verdict) p.joined
  pub few : FewSteps (document_of (steps_of (columns_of p) p.log.items p.verdict)) (length p.log.items)
  pub texts : HasRoom (length p.texts.items) (7 * text_words p.limits) (vec_capacity p.texts)
  pub places : HasRoom (length p.places.items) p.limits.rows (vec_capacity p.places)
  pub names : HasNames (length p.names.items) (length p.prefixes.items) p.limits.names (vec_capacity p.names) (vec_capacity p.prefixes)
  pub has_words : HasWords (length p.places.items) p.limits.rows (length p.first.items) (length p.next.items) (length p.extent.items) (vec_capacity p.first) (vec_capacity p.next) (vec_capacity p.extent)
  pub log : 2 * p.limits.rows ≤ vec_capacity p.log
  pub small : IsSmall p.limits.rows (7 * text_words p.limits) p.limits.names
