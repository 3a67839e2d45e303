-- Which rows are open while the rows of a subtree are gone through.
use Rattle.std.specs.Prelude.{◌≡◌, ◌⊎◌, ℕ, suc, ◌<◌, ◌≤◌, false, List}
use Rattle.doc_model.specs.declared.row.Row.{Row}
use Rattle.doc_model.specs.Document.{is_parent}
use Rattle.doc_model.specs.Rows.{row_at}
use Rattle.copy_meaning.specs.Passes.{depth_at}

-- row `to` is row `at`, or an ancestor of it: all rows behind `to` up to `at` are deeper
pub record IsAround (rows : List Row) (at to : ℕ) : Type 0 where
  pub before : to ≤ at
  pub deeper : (j : ℕ) → to < j → j ≤ at → depth_at rows to < depth_at rows j

-- row `at` is the innermost that is open behind row k: it is k, or it is the row that k, which has no children, is in
pub record IsInnermost (rows : List Row) (at k : ℕ) : Type 0 where
  pub before : at ≤ k
  pub deeper : (j : ℕ) → at < j → j ≤ k → depth_at rows at < depth_at rows j
  pub last : (at ≡ k) ⊎ ((is_parent (row_at rows k).kind ≡ false) × (depth_at rows k ≡ suc (depth_at rows at)))
