-- Which row decides of a child.
use Rattle.std.proofs.Common.{◌≡◌, ℕ, true, false, cond, List, Option, Some, None, ap, ◌∙◌}
use Rattle.std.proofs.lemmas.Bool.{and_parts, eqb-true, not-true}
use Rattle.doc_model.specs.declared.row.Row.{Row}
use Rattle.doc_model.specs.Document.{is_attribute}
use Rattle.doc_model.specs.Relations.{parent_of, is_child, is_some_of, sibling_parent}
use Rattle.doc_model.specs.Rows.{row_at}

pub is_some_of-true : (o : Option ℕ) (n : ℕ) → is_some_of o n ≡ true → o ≡ Some n
is_some_of-true None n h = absurd cc
is_some_of-true (Some m) n h = ap (λ k. Some k) (eqb-true m n h)

-- the parent decides
pub child_decider : (rows : List Row) (n k : ℕ) → is_child rows n k ≡ true → sibling_parent rows k ≡ Some n
child_decider rows n k h =
    let p = and_parts _ _ h in
    let a : is_attribute (row_at rows k).kind ≡ false = not-true _ p.0 in
    ap (λ b. cond b None (parent_of rows k)) a ∙ is_some_of-true (parent_of rows k) n p.1
