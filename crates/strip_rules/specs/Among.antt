-- The links among the rows that strip rules leave visible, as facts about rows.
use Rattle.std.specs.Prelude.{◌≡◌, ℕ, ◌<◌, true, false, List, length, Some}
use Rattle.doc_model.specs.declared.row.Row.{Row}
use Rattle.doc_model.specs.declared.strip_rule.StripRule.{StripRule}
use Rattle.doc_model.specs.Relations.{is_child, sibling_parent}
use Rattle.doc_model.specs.Strip.{is_visible}

-- row k is a visible child of row n
pub record IsVisibleChild (rules : List StripRule) (rows : List Row) (n k : ℕ) : Type 0 where
  pub joined : k < length rows
  pub child : is_child rows n k ≡ true
  pub visible : is_visible rules rows k ≡ true

-- row k is the first visible child of row n: each child before it is hidden
pub record IsFirstVisible (rules : List StripRule) (rows : List Row) (n k : ℕ) : Type 0 where
  pub is : IsVisibleChild rules rows n k
  pub before : (j : ℕ) → j < k → is_child rows n j ≡ true → is_visible rules rows j ≡ false

-- row k is the first visible sibling after row m: each sibling between them is hidden
pub record IsNextVisible (rules : List StripRule) (rows : List Row) (m k : ℕ) : Type 0 where
  pub parent : ℕ
  pub shared : sibling_parent rows m ≡ Some parent
  pub is : IsVisibleChild rules rows parent k
  pub after : m < k
  pub between : (j : ℕ) → m < j → j < k → is_child rows parent j ≡ true → is_visible rules rows j ≡ false

-- row k is the last visible sibling before row m: each sibling between them is hidden
pub record IsPrevVisible (rules : List StripRule) (rows : List Row) (m k : ℕ) : Type 0 where
  pub parent : ℕ
  pub shared : sibling_parent rows m ≡ Some parent
  pub is : IsVisibleChild rules rows parent k
  pub before : k < m
  pub between : (j : ℕ) → k < j → j < m → is_child rows parent j ≡ true → is_visible rules rows j ≡ false
