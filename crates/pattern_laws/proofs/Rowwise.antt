-- Rows on axes, and what stands between a row and one below it.
use Rattle.std.proofs.Common.{◌≡◌, refl, sym, ap, ◌∙◌, not, ℕ, ◌<◌, true, ◌&&◌, eqb, ltb, List, length, Option, Some, None, inl, inr}
use Rattle.std.proofs.lemmas.Bool.{and_from, and_parts, eq-eqb, eqb-true, false≢true, lt-ltb, ltb-true, or_left, or_right}
use Rattle.doc_model.specs.declared.node_test.Test.{Test}
use Rattle.doc_model.specs.declared.node_test.Test.TheVariants as test
use Rattle.doc_model.specs.declared.row.Axis.{Axis}
use Rattle.doc_model.specs.declared.row.Axis.TheVariants as axis
use Rattle.doc_model.specs.declared.row.Row.{Row}
use Rattle.doc_model.specs.declared.strip_rule.StripRule.{StripRule}
use Rattle.doc_model.specs.Axes.{axis_rows, is_below, is_descendant, is_on, is_selected}
use Rattle.doc_model.specs.Document.{is_attribute, is_member}
use Rattle.doc_model.specs.NodeTests.{meets, principal_of}
use Rattle.doc_model.specs.Relations.{parent_of}
use Rattle.doc_model.specs.Rows.{row_at}
use Rattle.doc_model.specs.Strip.{is_visible}
use Rattle.doc_laws.proofs.Ancestors.{ancestors_by_parent}
use Rattle.doc_laws.proofs.Links.{parent_before}
use Rattle.doc_laws.proofs.Rooted.{IsRooted}
use Rattle.doc_laws.proofs.Selected.{axis_members}
use Rattle.doc_laws.proofs.Sound.{TreeHolds}
use Rattle.doc_laws.proofs.Subtrees.{parent_plain}
use Rattle.xpath_laws.proofs.Order.{or_cases}
use Rattle.xpath_laws.proofs.There.{no_text, seen_if_no_text}

-- a row of an axis
pub record IsSelected (rules : List StripRule) (rows : List Row) (n : ℕ) (axis : Axis) (test : Test) (k : ℕ) : Type 0 where
  pub joined : k < length rows
  pub visible : is_visible rules rows k ≡ true
  pub meets : meets (principal_of axis) test (row_at rows k) ≡ true
  pub on : is_on axis rows n k ≡ true

pub selected_is : (rules : List StripRule) (rows : List Row) (n : ℕ) (axis : Axis) (test : Test) (k : ℕ) → is_member k (axis_rows rules rows n axis test) ≡ true
    → IsSelected rules rows n axis test k
selected_is rules rows n axis test k h =
    let p = and_parts (ltb k (length rows)) (is_selected rules rows n axis test k) (sym (axis_members rules rows n axis test k) ∙ h) in
    let q = and_parts (is_visible rules rows k) (meets (principal_of axis) test (row_at rows k) && is_on axis rows n k) p.1 in
    let r = and_parts (meets (principal_of axis) test (row_at rows k)) (is_on axis rows n k) q.1 in
    record { joined = ltb-true k (length rows) p.0; visible = q.0; meets = r.0; on = r.1 }

pub is_selected_by : (rules : List StripRule) (rows : List Row) (n : ℕ) (axis : Axis) (test : Test) (k : ℕ) → IsSelected rules rows n axis test k
    → is_member k (axis_rows rules rows n axis test) ≡ true
is_selected_by rules rows n axis test k s =
    axis_members rules rows n axis test k
    ∙ and_from (ltb k (length rows)) (is_selected rules rows n axis test k) (lt-ltb k (length rows) s.joined)
    (and_from (is_visible rules rows k) _ s.visible (and_from (meets (principal_of axis) test (row_at rows k)) (is_on axis rows n k) s.meets s.on))

module _ (rows : List Row) (t : TreeHolds rows) (r : IsRooted rows) where
  -- what a row or one below it is the parent of is below the row
  pub under : (m a k : ℕ) → k < length rows → parent_of rows k ≡ Some a → is_on axis.DescendantOrSelf rows m a ≡ true → is_below rows m k ≡ true
  under m a k l up h = ancestors_by_parent rows t r k m (Some a) l up ∙ elim (or_cases (eqb m a) (is_descendant rows m a) h) [
    | inl e ↦ or_left (eqb a m) (is_below rows m a) (eq-eqb a m (sym (eqb-true m a e)))
    | inr d ↦ or_right (eqb a m) (is_below rows m a) (and_parts _ (is_below rows m a) d).1
  ]

  -- what is below a row has a parent, which is the row or below it
  pub over : (m k : ℕ) → k < length rows → is_below rows m k ≡ true → (a : ℕ) × (parent_of rows k ≡ Some a) × (is_on axis.DescendantOrSelf rows m a ≡ true)
  over m k l h = by (parent_of rows k) refl
    where
      by : (o : Option ℕ) → parent_of rows k ≡ o → (a : ℕ) × (parent_of rows k ≡ Some a) × (is_on axis.DescendantOrSelf rows m a ≡ true)
      by None up = absurd (false≢true (sym (ancestors_by_parent rows t r k m None l up) ∙ h))
      by (Some a) up = (
        a,
        up,
        elim (or_cases (eqb a m) (is_below rows m a) (sym (ancestors_by_parent rows t r k m (Some a) l up) ∙ h)) [
          | inl e ↦ or_left (eqb m a) (is_descendant rows m a) (eq-eqb m a (sym (eqb-true a m e)))
          | inr b ↦ or_right (eqb m a) (is_descendant rows m a)
              (and_from (not (is_attribute (row_at rows a).kind)) (is_below rows m a) (ap not (parent_plain (row_at rows a).kind (t.parents k a l up))) b)
        ],
      )

  -- a parent is there, and visible
  pub parent_selected : (rules : List StripRule) (m a k : ℕ) (n : Axis) → k < length rows → parent_of rows k ≡ Some a → is_on n rows m a ≡ true
      → IsSelected rules rows m n test.Any a
  parent_selected rules m a k n l up h = record {
    joined = (parent_before rows k a up).1;
    visible = seen_if_no_text rules rows a (no_text (row_at rows a).kind (t.parents k a l up));
    meets = refl;
    on = h;
  }
