-- Parents, descendants, children and subtrees as facts about rows.
use Rattle.std.specs.Prelude.{◌≡◌, ℕ, suc, ◌<◌, ◌≤◌, true, false, ◌⊎◌, List, Some}
use Rattle.doc_model.specs.declared.row.Row.{Row}
use Rattle.doc_model.specs.Document.{is_attribute, is_parent}
use Rattle.doc_model.specs.Relations.{is_above, parent_of}
use Rattle.doc_model.specs.Rows.{row_at}

-- n is the greatest number below m of an element or the root whose depth is one less than that of row m
pub record IsParent (rows : List Row) (m n : ℕ) : Type 0 where
  pub earlier : n < m
  pub above : is_above (row_at rows m).depth (row_at rows n) ≡ true
  pub greatest : (k : ℕ) → n < k → k < m → is_above (row_at rows m).depth (row_at rows k) ≡ false

-- row k is a descendant of row n: n is an element or the root, and k is no attribute and stands after n, before the next row that is no attribute and has at most the depth of n
pub record IsDescendant (rows : List Row) (n k : ℕ) : Type 0 where
  pub parent : is_parent (row_at rows n).kind ≡ true
  pub node : is_attribute (row_at rows k).kind ≡ false
  pub later : n < k
  pub before : (j : ℕ) → n < j → j ≤ k → is_attribute (row_at rows j).kind ≡ false → (row_at rows n).depth < (row_at rows j).depth

-- row k is a child of row n: a descendant of depth one more
pub record IsChild (rows : List Row) (n k : ℕ) : Type 0 where
  pub descendant : IsDescendant rows n k
  pub depth : (row_at rows k).depth ≡ suc (row_at rows n).depth

-- row k is row n or a descendant of it
abbrev pub IsNodeIn : List Row → ℕ → ℕ → Type 0
IsNodeIn rows n k = (k ≡ n) ⊎ IsDescendant rows n k

-- row k is an attribute of row m
pub record IsAttributeOf (rows : List Row) (m k : ℕ) : Type 0 where
  pub attribute : is_attribute (row_at rows k).kind ≡ true
  pub parent : parent_of rows k ≡ Some m

-- row k is in the subtree of row n: it is n or a descendant, or an attribute of one of these
abbrev pub IsIn : List Row → ℕ → ℕ → Type 0
IsIn rows n k = IsNodeIn rows n k ⊎ ((m : ℕ) × IsNodeIn rows n m × IsAttributeOf rows m k)
