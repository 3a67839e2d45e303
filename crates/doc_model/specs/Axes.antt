-- The axes of a row (XPath 1.0, section 2.2), over the rows that are visible under strip rules.
use Rattle.std.specs.Prelude.{ℕ, Bool, true, false, not, ◌&&◌, ◌||◌, ◌==◌, nat_lt, if◌then◌else◌, List, length, reverse, Option, Some, None, filter}
use Rattle.doc_model.specs.declared.node_test.Test.{Test}
use Rattle.doc_model.specs.declared.row.Axis.{Axis}
use Rattle.doc_model.specs.declared.row.Axis.TheVariants as axis
use Rattle.doc_model.specs.declared.row.Row.{Row}
use Rattle.doc_model.specs.declared.step.Step.{Step}
use Rattle.doc_model.specs.declared.strip_rule.StripRule.{StripRule}
use Rattle.doc_model.specs.Answers.{Answer, once_shut, once_joined}
use Rattle.doc_model.specs.Document.{is_attribute}
use Rattle.doc_model.specs.NodeTests.{principal_of, meets}
use Rattle.doc_model.specs.Relations.{numbers, is_child, is_some_of, parent_of, sibling_parent, extent_of}
use Rattle.doc_model.specs.Rows.{rows_of, row_at}
use Rattle.doc_model.specs.Strip.{is_visible}

-- row k is no attribute
abbrev pub is_node : List Row → ℕ → Bool
is_node rows k = not (is_attribute (row_at rows k).kind)

-- row k is in the subtree of row n, and is not n
abbrev pub is_below : List Row → ℕ → ℕ → Bool
is_below rows n k = nat_lt n k && nat_lt k (extent_of rows n)

-- row k is a descendant of row n: in its subtree, and no attribute
abbrev pub is_descendant : List Row → ℕ → ℕ → Bool
is_descendant rows n k = is_node rows k && is_below rows n k

-- row k is an ancestor of row n: n is in its subtree
abbrev pub is_ancestor : List Row → ℕ → ℕ → Bool
is_ancestor rows n k = is_below rows k n

abbrev pub is_child_of_some : List Row → Option ℕ → ℕ → Bool
is_child_of_some rows None k = false
is_child_of_some rows (Some n) k = is_child rows n k

-- row k is a child of the parent of row n; the root and attributes have no siblings
abbrev pub is_sibling : List Row → ℕ → ℕ → Bool
is_sibling rows n k = is_child_of_some rows (sibling_parent rows n) k

-- row k is an attribute of row n
abbrev pub is_attribute_of : List Row → ℕ → ℕ → Bool
is_attribute_of rows n k = is_attribute (row_at rows k).kind && is_some_of (parent_of rows k) n

-- row k is on the axis of row n
abbrev pub is_on : Axis → List Row → ℕ → ℕ → Bool
is_on axis.Itself rows n k = n == k
is_on axis.Child rows n k = is_child rows n k
is_on axis.Parent rows n k = is_some_of (parent_of rows n) k
is_on axis.Descendant rows n k = is_descendant rows n k
is_on axis.DescendantOrSelf rows n k = (n == k) || is_descendant rows n k
is_on axis.Ancestor rows n k = is_ancestor rows n k
is_on axis.AncestorOrSelf rows n k = (n == k) || is_ancestor rows n k
is_on axis.Following rows n k = is_node rows k && (nat_lt n k && not (is_descendant rows n k))
is_on axis.Preceding rows n k = is_node rows k && (nat_lt k n && not (is_ancestor rows n k))
is_on axis.FollowingSibling rows n k = nat_lt n k && is_sibling rows n k
is_on axis.PrecedingSibling rows n k = nat_lt k n && is_sibling rows n k
is_on axis.Attribute rows n k = is_attribute_of rows n k

-- row k is visible, meets the test, and is on the axis of row n
abbrev pub is_selected : List StripRule → List Row → ℕ → Axis → Test → ℕ → Bool
is_selected rules rows n axis test k = is_visible rules rows k && (meets (principal_of axis) test (row_at rows k) && is_on axis rows n k)

-- the axis runs from the row back to the root
abbrev pub is_reverse : Axis → Bool
is_reverse axis.Itself = false
is_reverse axis.Child = false
is_reverse axis.Parent = false
is_reverse axis.Descendant = false
is_reverse axis.DescendantOrSelf = false
is_reverse axis.Ancestor = true
is_reverse axis.AncestorOrSelf = true
is_reverse axis.Following = false
is_reverse axis.Preceding = true
is_reverse axis.FollowingSibling = false
is_reverse axis.PrecedingSibling = true
is_reverse axis.Attribute = false

-- numbers of rows that are given in document order, in the order of the axis
abbrev pub in_order_of : Axis → List ℕ → List ℕ
in_order_of axis found = if is_reverse axis then reverse found else found

-- the rows of the axis that meet the test, in the order of the axis: a filter of all row numbers
abbrev pub axis_rows : List StripRule → List Row → ℕ → Axis → Test → List ℕ
axis_rows rules rows n axis test = in_order_of axis (filter (is_selected rules rows n axis test) (numbers 0 (length rows)))

-- the row that must be shut before all rows of the axis can be known, if there is one
abbrev pub need_of : Axis → List Row → ℕ → Option ℕ
need_of axis.Itself rows n = None
need_of axis.Child rows n = Some n
need_of axis.Parent rows n = None
need_of axis.Descendant rows n = Some n
need_of axis.DescendantOrSelf rows n = Some n
need_of axis.Ancestor rows n = None
need_of axis.AncestorOrSelf rows n = None
need_of axis.Following rows n = Some 0
need_of axis.Preceding rows n = None
need_of axis.FollowingSibling rows n = sibling_parent rows n
need_of axis.PrecedingSibling rows n = None
need_of axis.Attribute rows n = None

-- the rows of the axis at these steps, or the row that must be shut first
abbrev pub axis_of : List StripRule → List Step → ℕ → Axis → Test → Answer ⊥ (List ℕ)
axis_of rules steps n axis test = once_joined steps n (once_shut steps (need_of axis (rows_of steps) n) (axis_rows rules (rows_of steps) n axis test))
