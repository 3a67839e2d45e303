-- What stays as it was answered, on every growth.
use Rattle.std.specs.Prelude.{◌≡◌, ℕ, Bool, true, false, List, Option, Some, None}
use Rattle.doc_model.specs.declared.step.Step.{Step}
use Rattle.doc_model.specs.declared.strip_rule.StripRule.{StripRule}
use Rattle.doc_model.specs.Document.{is_open}
use Rattle.doc_model.specs.Relations.{parent_of, sibling_parent, extent_of, attr_count_of}
use Rattle.doc_model.specs.Rows.{rows_of, row_at}
use Rattle.doc_model.specs.Shown.{first_shown, next_shown, prev_shown}
use Rattle.doc_model.specs.Strip.{is_visible}
use Rattle.doc_model.specs.View.{is_settled}

-- the data of row n are those of the earlier list
pub record DataStay (rules : List StripRule) (before later : List Step) (n : ℕ) : Type 0 where
  pub row : row_at (rows_of later) n ≡ row_at (rows_of before) n
  pub parent : parent_of (rows_of later) n ≡ parent_of (rows_of before) n
  pub prev : prev_shown rules (rows_of later) n ≡ prev_shown rules (rows_of before) n
  pub attr_count : attr_count_of (rows_of later) n ≡ attr_count_of (rows_of before) n
  pub visible : is_visible rules (rows_of later) n ≡ is_visible rules (rows_of before) n

-- a link that is there stays, and one that is settled to be none stays so
pub record LinkStays (link_before link_later : Option ℕ) (settled_before settled_later : Bool) : Type 0 where
  pub node : (k : ℕ) → link_before ≡ Some k → link_later ≡ Some k
  pub nothing : link_before ≡ None → settled_before ≡ true → (link_later ≡ None) × (settled_later ≡ true)

-- the links of row n that are answered in the earlier list, and its extent, are those of the later
pub record LinksStay (rules : List StripRule) (before later : List Step) (n : ℕ) : Type 0 where
  pub first : LinkStays (first_shown rules (rows_of before) n) (first_shown rules (rows_of later) n) (is_settled before (Some n)) (is_settled later (Some n))
  pub next : LinkStays (next_shown rules (rows_of before) n) (next_shown rules (rows_of later) n) (is_settled before (sibling_parent (rows_of before) n)) (is_settled later (sibling_parent (rows_of later) n))
  pub extent : is_open before n ≡ false → (is_open later n ≡ false) × (extent_of (rows_of later) n ≡ extent_of (rows_of before) n)
