-- How the links of rows stand to their extents: a subtree is a run of rows.
use Rattle.std.specs.Prelude.{◌≡◌, ℕ, suc, ◌+◌, ◌<◌, false, List, length, Some, None}
use Rattle.doc_model.specs.declared.row.Row.{Row}
use Rattle.doc_model.specs.Document.{is_attribute}
use Rattle.doc_model.specs.Relations.{first_child, next_sibling, parent_of, extent_of, attr_count_of}
use Rattle.doc_model.specs.Rows.{row_at}

-- where links lead to: a first child stands right after the attributes, a next sibling where the extent ends, and the last child ends where its parent does
pub record IsOrdered (rows : List Row) : Type 0 where
  pub first : (n m : ℕ) → n < length rows → first_child rows n ≡ Some m → m ≡ suc n + attr_count_of rows n
  pub childless : (n : ℕ) → n < length rows → is_attribute (row_at rows n).kind ≡ false → first_child rows n ≡ None → extent_of rows n ≡ suc n + attr_count_of rows n
  pub next : (n m : ℕ) → n < length rows → next_sibling rows n ≡ Some m → m ≡ extent_of rows n
  pub last : (n q : ℕ) → n < length rows → is_attribute (row_at rows n).kind ≡ false → parent_of rows n ≡ Some q → next_sibling rows n ≡ None → extent_of rows q ≡ extent_of rows n
  pub rooted : (n : ℕ) → n < length rows → parent_of rows n ≡ None → n ≡ 0
