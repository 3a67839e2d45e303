-- What the words of a table stand for: 0 is unset.
use Rattle.std.specs.Prelude.{◌≡◌, ℕ, zero, suc, ◌<◌, ◌≤◌, true, false, List, length, Option, Some, None, slice_index}
use Rattle.doc_model.specs.declared.row.Row.{Row}
use Rattle.doc_model.specs.Document.{is_member, is_parent}
use Rattle.doc_model.specs.Relations.{first_child, next_sibling, extent_of}
use Rattle.doc_model.specs.Rows.{row_at}

-- the row that a link word names
abbrev pub link_of : ℕ → Option ℕ
link_of zero = None
link_of (suc k) = Some (suc k)

-- the first-child and next-sibling words are the links of the rows
pub record LinksHold (rows : List Row) (first next : List ℕ) : Type 0 where
  pub firsts : (n : ℕ) → link_of (slice_index first n) ≡ first_child rows n
  pub nexts : (n : ℕ) → link_of (slice_index next n) ≡ next_sibling rows n

-- the extent word of a row that may have children is set once it is shut
pub record ExtentsHold (rows : List Row) (opened : List ℕ) (extent : List ℕ) : Type 0 where
  pub unset : (n : ℕ) → is_member n opened ≡ true → slice_index extent n ≡ 0
  pub shut : (n : ℕ) → n < length rows → is_parent (row_at rows n).kind ≡ true → is_member n opened ≡ false → slice_index extent n ≡ extent_of rows n
  pub fresh : (n : ℕ) → length rows ≤ n → slice_index extent n ≡ 0
