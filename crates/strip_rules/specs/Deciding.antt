-- Which rule and which xml:space decide, as facts about rules and rows.
use Rattle.std.specs.Prelude.{◌≡◌, ℕ, suc, ◌+◌, ◌*◌, ◌<◌, Bool, true, false, List, Some, None, slice_get, drop}
use Rattle.doc_model.specs.declared.row.Row.{Row}
use Rattle.doc_model.specs.declared.strip_rule.StripRule.{StripRule}
use Rattle.doc_model.specs.Relations.{parent_of}
use Rattle.doc_model.specs.Strip.{rule_fits, outranks, rank, space_in}

-- the i-th rule decides of the element's name: it fits, it holds over each other rule that fits, and none after it that fits holds over it
pub record IsDeciding (rules : List StripRule) (row : Row) (i : ℕ) (rule : StripRule) : Type 0 where
  pub at : slice_get rules i ≡ Some rule
  pub fits : rule_fits rule row ≡ true
  pub highest : (j : ℕ) (other : StripRule) → slice_get rules j ≡ Some other → rule_fits other row ≡ true → outranks rule other ≡ true
  pub last : (j : ℕ) (other : StripRule) → slice_get rules j ≡ Some other → rule_fits other row ≡ true → i < j → outranks other rule ≡ false

-- import precedence and rank in one number, as a rank is 0, 1 or 2
abbrev pub weight : StripRule → ℕ
weight rule = 3 * rule.precedence + rank rule

-- whether whitespace in row k is preserved: the nearest ancestor whose attributes say so decides, and where none does it is not
pub data Keeps (rows : List Row) : ℕ → Bool → Type 0 where
  Here : (k up : ℕ) (keeps : Bool) → parent_of rows k ≡ Some up → space_in (drop (suc up) rows) ≡ Some keeps → Keeps rows k keeps
  Above : (k up : ℕ) (keeps : Bool) → parent_of rows k ≡ Some up → space_in (drop (suc up) rows) ≡ None → Keeps rows up keeps → Keeps rows k keeps
  Nowhere : (k : ℕ) → parent_of rows k ≡ None → Keeps rows k false
