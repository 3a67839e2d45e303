-- Which rows are on an axis, and which stand between those that a walk comes to.
use Rattle.std.proofs.Common.{◌≡◌, ℕ, zero, suc, ◌+◌, ◌-◌, ◌<◌, ◌≤◌, Bool, true, false, cond, not, ◌&&◌, ◌||◌, eqb, ltb, List, [], ◌∷◌, length}
use Rattle.std.proofs.Common.{Option, Some, None, filter, drop, refl, ap, sym, ◌∙◌, arith, length-drop, get_or-drop, inl, inr, ◌⊎◌}
use Rattle.std.proofs.lemmas.Bool.{cases_Bool, cases_lt, cases_eq, and_parts, and_from, and_left, and_right, or_from, or_left, lt-ltb, le-ltb, eq-eqb, ne_eqb, false≢true}
use Rattle.doc_model.specs.declared.node_test.Test.{Test}
use Rattle.doc_model.specs.declared.row.Axis.TheVariants as axis
use Rattle.doc_model.specs.declared.row.Kind.{Kind}
use Rattle.doc_model.specs.declared.row.Kind.TheVariants.{Root, Element, Attribute, Text, Instruction, Comment, Comment}
use Rattle.doc_model.specs.declared.row.Row.{Row}
use Rattle.doc_model.specs.declared.strip_rule.StripRule.{StripRule}
use Rattle.doc_model.specs.Axes.{is_node, is_below, is_descendant, is_ancestor, is_child_of_some, is_sibling, is_attribute_of, is_on, is_selected}
use Rattle.doc_model.specs.Document.{is_attribute, is_parent}
use Rattle.doc_model.specs.NodeTests.{meets}
use Rattle.doc_model.specs.Relations.{numbers, first_of, is_child, is_some_of, parent_of, sibling_parent, extent_of, attribute_run, attr_count_of}
use Rattle.doc_model.specs.Rows.{root_row, row_at}
use Rattle.doc_model.specs.Shown.{is_shown, first_shown, next_shown, next_shown_in, prev_shown, prev_shown_in}
use Rattle.doc_model.specs.Strip.{is_visible, is_text}
use Rattle.doc_laws.proofs.Ancestors.{is_around, ancestors_by_parent, below_parts, below_from, same_truth}
use Rattle.doc_laws.proofs.Kids.{child_decider, is_some_of-true}
use Rattle.doc_laws.proofs.Last.{last_some, last_none}
use Rattle.doc_laws.proofs.Links.{parent_before}
use Rattle.doc_laws.proofs.Numbers.{first_some, first_none, after_of, filter_none_no}
use Rattle.doc_laws.proofs.Rooted.{IsRooted}
use Rattle.doc_laws.proofs.Sound.{TreeHolds}
use Rattle.doc_laws.proofs.Subtrees.{extent_deeper, extent_reaches}
use Rattle.axis_walkers.proofs.Offering.{visible_unless_text}

none_is : (m : ℕ) → None ≡ Some m → ⊥
none_is m h = cc

same_some : (a b : ℕ) → Some a ≡ Some b → a ≡ b
same_some a b h = cc

and_true : (m : Bool) → (m && true) ≡ m
and_true true = refl
and_true false = refl

-- what is hidden or off the axis is not selected
pub lost : (v m o : Bool) → (v && o) ≡ false → (v && (m && o)) ≡ false
lost false m o h = refl
lost true m o h = and_right m o h

-- ---- visible siblings

-- the next visible child of a row, from a number on
pub record IsNextFrom (rules : List StripRule) (rows : List Row) (o : Option ℕ) (from k : ℕ) : Type 0 where
  pub above : from ≤ k
  pub within : k < length rows
  pub visible : is_visible rules rows k ≡ true
  pub child : is_child_of_some rows o k ≡ true
  pub parent : sibling_parent rows k ≡ o
  pub gap : (i : ℕ) → from ≤ i → i < k → (is_visible rules rows i && is_child_of_some rows o i) ≡ false

pub first_is : (rules : List StripRule) (rows : List Row) (n k : ℕ) → first_shown rules rows n ≡ Some k → IsNextFrom rules rows (Some n) 0 k
first_is rules rows n k h =
    let r = first_some (is_shown rules rows n) 0 (length rows) k h in
    let parts = and_parts _ _ r.passes in
    record {
      above = omega arith;
      within = omega (arith, r.within);
      visible = parts.0;
      child = parts.1;
      parent = child_decider rows n k parts.1;
      gap = λ i a b. filter_none_no (is_shown rules rows n) 0 (k - 0) i r.none a (omega arith);
    }

pub first_none_is : (rules : List StripRule) (rows : List Row) (n : ℕ) → first_shown rules rows n ≡ None → (i : ℕ) → i < length rows
    → (is_visible rules rows i && is_child_of_some rows (Some n) i) ≡ false
first_none_is rules rows n h i l = filter_none_no (is_shown rules rows n) 0 (length rows) i (first_none (filter (is_shown rules rows n) (numbers 0 (length rows))) h) (omega arith) (omega arith)

pub next_is : (rules : List StripRule) (rows : List Row) (o : Option ℕ) (at k : ℕ) → at < length rows → sibling_parent rows at ≡ o → next_shown rules rows at ≡ Some k
    → IsNextFrom rules rows o (suc at) k
next_is rules rows None at k l e h = absurd (none_is k (sym (ap (next_shown_in rules rows at) e) ∙ h))
next_is rules rows (Some p) at k l e h =
    let f : ℕ → Bool = is_shown rules rows p in
    let r = first_some f (suc at) (length rows - suc at) k (sym (ap first_of (after_of f at (length rows) l)) ∙ sym (ap (next_shown_in rules rows at) e) ∙ h) in
    let parts = and_parts _ _ r.passes in
    record {
      above = r.from;
      within = omega (arith, r.from, r.within);
      visible = parts.0;
      child = parts.1;
      parent = child_decider rows p k parts.1;
      gap = λ i a b. filter_none_no f (suc at) (k - suc at) i r.none a (omega (arith, r.from));
    }

pub next_none_is : (rules : List StripRule) (rows : List Row) (o : Option ℕ) (at : ℕ) → at < length rows → sibling_parent rows at ≡ o → next_shown rules rows at ≡ None → (i : ℕ)
    → at < i → i < length rows → (is_visible rules rows i && is_child_of_some rows o i) ≡ false
next_none_is rules rows None at l e h i a b = and_right (is_visible rules rows i) false refl
next_none_is rules rows (Some p) at l e h i a b =
    let f : ℕ → Bool = is_shown rules rows p in
    filter_none_no f (suc at) (length rows - suc at) i
    (first_none (filter f (numbers (suc at) (length rows - suc at))) (sym (ap first_of (after_of f at (length rows) l)) ∙ sym (ap (next_shown_in rules rows at) e) ∙ h)) a (omega arith)

-- the last visible child of a row before a number
pub record IsPrevTo (rules : List StripRule) (rows : List Row) (o : Option ℕ) (at k : ℕ) : Type 0 where
  pub before : k < at
  pub visible : is_visible rules rows k ≡ true
  pub child : is_child_of_some rows o k ≡ true
  pub parent : sibling_parent rows k ≡ o
  pub gap : (i : ℕ) → k < i → i < at → (is_visible rules rows i && is_child_of_some rows o i) ≡ false

pub prev_is : (rules : List StripRule) (rows : List Row) (o : Option ℕ) (at k : ℕ) → sibling_parent rows at ≡ o → prev_shown rules rows at ≡ Some k → IsPrevTo rules rows o at k
prev_is rules rows None at k e h = absurd (none_is k (sym (ap (prev_shown_in rules rows at) e) ∙ h))
prev_is rules rows (Some p) at k e h =
    let f : ℕ → Bool = is_shown rules rows p in
    let r = last_some f 0 at k (sym (ap (prev_shown_in rules rows at) e) ∙ h) in
    let parts = and_parts _ _ r.passes in
    record {
      before = omega (arith, r.within);
      visible = parts.0;
      child = parts.1;
      parent = child_decider rows p k parts.1;
      gap = λ i a b. filter_none_no f (suc k) ((0 + at) - suc k) i r.none a (omega arith);
    }

pub prev_none_is : (rules : List StripRule) (rows : List Row) (o : Option ℕ) (at : ℕ) → sibling_parent rows at ≡ o → prev_shown rules rows at ≡ None → (i : ℕ) → i < at
    → (is_visible rules rows i && is_child_of_some rows o i) ≡ false
prev_none_is rules rows None at e h i a = and_right (is_visible rules rows i) false refl
prev_none_is rules rows (Some p) at e h i a =
    filter_none_no (is_shown rules rows p) 0 at i (last_none (filter (is_shown rules rows p) (numbers 0 at)) (sym (ap (prev_shown_in rules rows at) e) ∙ h)) (omega arith) (omega arith)

pub not_child : (rules : List StripRule) (rows : List Row) (n : ℕ) (x : Test) (k : ℕ) → (is_visible rules rows k && is_child_of_some rows (Some n) k) ≡ false
    → is_selected rules rows n axis.Child x k ≡ false
not_child rules rows n x k h = lost (is_visible rules rows k) (meets Element x (row_at rows k)) (is_child rows n k) h

pub not_after : (rules : List StripRule) (rows : List Row) (n : ℕ) (x : Test) (k : ℕ) → (is_visible rules rows k && is_child_of_some rows (sibling_parent rows n) k) ≡ false
    → is_selected rules rows n axis.FollowingSibling x k ≡ false
not_after rules rows n x k h = lost (is_visible rules rows k) (meets Element x (row_at rows k)) (ltb n k && is_sibling rows n k) (lost (is_visible rules rows k) (ltb n k) (is_sibling rows n k) h)

pub not_before : (rules : List StripRule) (rows : List Row) (n : ℕ) (x : Test) (k : ℕ) → (is_visible rules rows k && is_child_of_some rows (sibling_parent rows n) k) ≡ false
    → is_selected rules rows n axis.PrecedingSibling x k ≡ false
not_before rules rows n x k h = lost (is_visible rules rows k) (meets Element x (row_at rows k)) (ltb k n && is_sibling rows n k) (lost (is_visible rules rows k) (ltb k n) (is_sibling rows n k) h)

pub after_low : (rows : List Row) (n k : ℕ) → k ≤ n → is_on axis.FollowingSibling rows n k ≡ false
after_low rows n k h = and_left (ltb n k) (is_sibling rows n k) (le-ltb n k h)

pub before_high : (rows : List Row) (n k : ℕ) → n ≤ k → is_on axis.PrecedingSibling rows n k ≡ false
before_high rows n k h = and_left (ltb k n) (is_sibling rows n k) (le-ltb k n h)

pub after_on : (rows : List Row) (n k : ℕ) → n < k → is_child_of_some rows (sibling_parent rows n) k ≡ true → is_on axis.FollowingSibling rows n k ≡ true
after_on rows n k l h = and_from _ _ (lt-ltb n k l) h

pub before_on : (rows : List Row) (n k : ℕ) → k < n → is_child_of_some rows (sibling_parent rows n) k ≡ true → is_on axis.PrecedingSibling rows n k ≡ true
before_on rows n k l h = and_from _ _ (lt-ltb k n l) h

-- ---- the row itself and its parent

pub itself_off : (rows : List Row) (n k : ℕ) → (n ≡ k → ⊥) → is_on axis.Itself rows n k ≡ false
itself_off rows n k h = ne_eqb n k h

pub itself_on : (rows : List Row) (n : ℕ) → is_on axis.Itself rows n n ≡ true
itself_on rows n = eq-eqb n n refl

pub parent_off : (rows : List Row) (n k : ℕ) (o : Option ℕ) → parent_of rows n ≡ o → (o ≡ Some k → ⊥) → is_on axis.Parent rows n k ≡ false
parent_off rows n k None e h = ap (λ o. is_some_of o k) e
parent_off rows n k (Some p) e h = ap (λ o. is_some_of o k) e ∙ ne_eqb p k (λ s. h (ap (λ i. Some i) s))

pub parent_on : (rows : List Row) (n k : ℕ) → parent_of rows n ≡ Some k → is_on axis.Parent rows n k ≡ true
parent_on rows n k e = ap (λ o. is_some_of o k) e ∙ eq-eqb k k refl

parent_no_text : (kind : Kind) → is_parent kind ≡ true → is_text kind ≡ false
parent_no_text Root h = refl
parent_no_text Element h = refl
parent_no_text Attribute h = refl
parent_no_text Text h = absurd (false≢true h)
parent_no_text Instruction h = refl
parent_no_text Comment h = refl

pub parent_visible : (rules : List StripRule) (rows : List Row) (n k : ℕ) → TreeHolds rows → n < length rows → parent_of rows n ≡ Some k → is_visible rules rows k ≡ true
parent_visible rules rows n k t l e = visible_unless_text rules rows k (parent_no_text (row_at rows k).kind (t.parents n k l e))

-- ---- descendants and what follows

pub below_low : (rows : List Row) (n k : ℕ) → k ≤ n → is_below rows n k ≡ false
below_low rows n k h = and_left (ltb n k) (ltb k (extent_of rows n)) (le-ltb n k h)

pub below_high : (rows : List Row) (n k : ℕ) → extent_of rows n ≤ k → is_below rows n k ≡ false
below_high rows n k h = and_right (ltb n k) (ltb k (extent_of rows n)) (le-ltb k (extent_of rows n) h)

pub descendant_off : (rows : List Row) (n k : ℕ) → is_below rows n k ≡ false → is_descendant rows n k ≡ false
descendant_off rows n k h = and_right (is_node rows k) (is_below rows n k) h

pub descendant_in : (rows : List Row) (n k : ℕ) → n < k → k < extent_of rows n → is_descendant rows n k ≡ is_node rows k
descendant_in rows n k a b = ap (λ x. is_node rows k && x) (below_from rows n k a b) ∙ and_true (is_node rows k)

pub or_self_off : (rows : List Row) (n k : ℕ) → (n ≡ k → ⊥) → is_below rows n k ≡ false → is_on axis.DescendantOrSelf rows n k ≡ false
or_self_off rows n k ne h = or_from (eqb n k) (is_descendant rows n k) (ne_eqb n k ne) (descendant_off rows n k h)

pub or_self_in : (rows : List Row) (n k : ℕ) → n < k → k < extent_of rows n → is_on axis.DescendantOrSelf rows n k ≡ is_node rows k
or_self_in rows n k a b = ap (λ x. x || is_descendant rows n k) (ne_eqb n k (λ e. omega arith)) ∙ descendant_in rows n k a b

pub or_self_on : (rows : List Row) (n : ℕ) → is_on axis.DescendantOrSelf rows n n ≡ true
or_self_on rows n = or_left (eqb n n) (is_descendant rows n n) (eq-eqb n n refl)

not_both : (a b : Bool) → b ≡ true → (a && not (a && b)) ≡ false
not_both true b h = ap not h
not_both false b h = refl

pub following_low : (rows : List Row) (n k : ℕ) → k < extent_of rows n → is_on axis.Following rows n k ≡ false
following_low rows n k h = elim (cases_lt n k) [
  | inl lt ↦ ap (λ x. is_node rows k && (x && not (is_descendant rows n k))) (lt-ltb n k lt) ∙ not_both (is_node rows k) (is_below rows n k) (below_from rows n k lt h)
  | inr ge ↦ and_right (is_node rows k) (ltb n k && not (is_descendant rows n k)) (and_left (ltb n k) (not (is_descendant rows n k)) (le-ltb n k ge))
]

pub following_high : (rows : List Row) (n k : ℕ) → extent_of rows n ≤ k → is_on axis.Following rows n k ≡ is_node rows k
following_high rows n k h =
    ap (λ x. is_node rows k && (x && not (is_descendant rows n k))) (lt-ltb n k (omega (arith, h)))
    ∙ ap (λ x. is_node rows k && not x) (descendant_off rows n k (below_high rows n k h)) ∙ and_true (is_node rows k)

-- ---- ancestors and what precedes

nested : (rows : List Row) (j at n : ℕ) → j < at → at < extent_of rows j → at < n → n < extent_of rows at → n < length rows → n < extent_of rows j
nested rows j at n a b c d l = extent_reaches rows j n (omega arith) l (λ i e f. elim (cases_lt at i) [
  | inl lt ↦ let x = extent_deeper rows at i lt (omega arith) in let y = extent_deeper rows j at a b in omega (arith, x, y)
  | inr ge ↦ extent_deeper rows j i e (omega arith)
])

-- a row, or an ancestor of it
abbrev pub IsUp : List Row → ℕ → ℕ → Type 0
IsUp rows n at = (at ≡ n) ⊎ (is_below rows at n ≡ true)

below_through : (rows : List Row) (j at n : ℕ) → is_below rows at n ≡ true → n < length rows → j < at → is_below rows j n ≡ is_below rows j at
below_through rows j at n h l a =
    let up = below_parts rows at n h in
    same_truth (is_below rows j n) (is_below rows j at)
    (λ e. let b = below_parts rows j n e in below_from rows j at a (omega (arith, b.1, up.0)))
    (λ e. let b = below_parts rows j at e in below_from rows j n (omega (arith, up.0)) (nested rows j at n a b.1 up.0 up.1 l))

-- the ancestors of a row below one that is it or an ancestor
pub ancestors_from : (rows : List Row) (n at j : ℕ) (o : Option ℕ) → TreeHolds rows → IsRooted rows → n < length rows → at < length rows → IsUp rows n at → parent_of rows at ≡ o
    → j < at → is_below rows j n ≡ is_around rows o j
ancestors_from rows n at j o t r l k u e a = elim u [
  | inl same ↦ sym (ap (is_below rows j) same) ∙ ancestors_by_parent rows t r at j o k e
  | inr b ↦ below_through rows j at n b l a ∙ ancestors_by_parent rows t r at j o k e
]

pub around_between : (rows : List Row) (p j : ℕ) → p < j → is_around rows (Some p) j ≡ false
around_between rows p j h = or_from (eqb p j) (is_below rows j p) (ne_eqb p j (λ e. omega arith)) (below_low rows j p (omega arith))

pub around_itself : (rows : List Row) (p : ℕ) → is_around rows (Some p) p ≡ true
around_itself rows p = or_left (eqb p p) (is_below rows p p) (eq-eqb p p refl)

pub around_under : (rows : List Row) (p j : ℕ) → j < p → is_around rows (Some p) j ≡ is_below rows j p
around_under rows p j h = ap (λ b. b || is_below rows j p) (ne_eqb p j (λ e. omega arith))

pub ancestor_self_on : (rows : List Row) (n : ℕ) → is_on axis.AncestorOrSelf rows n n ≡ true
ancestor_self_on rows n = or_left (eqb n n) (is_below rows n n) (eq-eqb n n refl)

pub ancestor_self_under : (rows : List Row) (n k : ℕ) → k < n → is_on axis.AncestorOrSelf rows n k ≡ is_below rows k n
ancestor_self_under rows n k h = ap (λ b. b || is_below rows k n) (ne_eqb n k (λ e. omega arith))

pub ancestor_self_high : (rows : List Row) (n k : ℕ) → n < k → is_on axis.AncestorOrSelf rows n k ≡ false
ancestor_self_high rows n k h = or_from (eqb n k) (is_below rows k n) (ne_eqb n k (λ e. omega arith)) (below_low rows k n (omega arith))

pub preceding_high : (rows : List Row) (n k : ℕ) → n ≤ k → is_on axis.Preceding rows n k ≡ false
preceding_high rows n k h = and_right (is_node rows k) (ltb k n && not (is_ancestor rows n k)) (and_left (ltb k n) (not (is_ancestor rows n k)) (le-ltb k n h))

pub preceding_around : (rows : List Row) (n k : ℕ) → is_below rows k n ≡ true → is_on axis.Preceding rows n k ≡ false
preceding_around rows n k h = and_right (is_node rows k) (ltb k n && not (is_ancestor rows n k)) (and_right (ltb k n) (not (is_ancestor rows n k)) (ap not h))

pub preceding_beside : (rows : List Row) (n k : ℕ) → k < n → is_below rows k n ≡ false → is_on axis.Preceding rows n k ≡ is_node rows k
preceding_beside rows n k l h =
    ap (λ b. is_node rows k && (b && not (is_ancestor rows n k))) (lt-ltb k n l) ∙ ap (λ b. is_node rows k && not b) h ∙ and_true (is_node rows k)

-- ---- attributes

run_plain : (rows : List Row) (i : ℕ) → i < attribute_run rows → is_attribute (row_at rows i).kind ≡ true
run_plain [] i h = absurd (omega arith)
run_plain (r ∷ rows) zero h = elim (cases_Bool (is_attribute r.kind)) [
  | inl t ↦ t
  | inr f ↦ absurd (let e : attribute_run (r ∷ rows) ≡ 0 = ap (λ b. cond b (suc (attribute_run rows)) 0) f in omega (arith, h, e))
]
run_plain (r ∷ rows) (suc i) h = elim (cases_Bool (is_attribute r.kind)) [
  | inl t ↦ run_plain rows i (let e : attribute_run (r ∷ rows) ≡ suc (attribute_run rows) = ap (λ b. cond b (suc (attribute_run rows)) 0) t in omega (arith, h, e))
  | inr f ↦ absurd (let e : attribute_run (r ∷ rows) ≡ 0 = ap (λ b. cond b (suc (attribute_run rows)) 0) f in omega (arith, h, e))
]

run_reaches : (rows : List Row) (i : ℕ) → i < length rows → ((j : ℕ) → j ≤ i → is_attribute (row_at rows j).kind ≡ true) → i < attribute_run rows
run_reaches [] i l h = absurd (omega arith)
run_reaches (r ∷ rows) zero l h = let e : attribute_run (r ∷ rows) ≡ suc (attribute_run rows) = ap (λ b. cond b (suc (attribute_run rows)) 0) (h 0 (omega arith)) in omega (arith, e)
run_reaches (r ∷ rows) (suc i) l h =
    let e : attribute_run (r ∷ rows) ≡ suc (attribute_run rows) = ap (λ b. cond b (suc (attribute_run rows)) 0) (h 0 (omega arith)) in
    let s = run_reaches rows i (omega arith) (λ j a. h (suc j) (omega arith)) in
    omega (arith, e, s)

count_is : (rows : List Row) (n : ℕ) → is_attribute (row_at rows n).kind ≡ false → attr_count_of rows n ≡ attribute_run (drop (suc n) rows)
count_is rows n h = ap (λ b. cond b 0 (attribute_run (drop (suc n) rows))) h

count_none : (rows : List Row) (n : ℕ) → is_attribute (row_at rows n).kind ≡ true → attr_count_of rows n ≡ 0
count_none rows n h = ap (λ b. cond b 0 (attribute_run (drop (suc n) rows))) h

parent_plain : (k : Kind) → is_parent k ≡ true → is_attribute k ≡ false
parent_plain Root h = refl
parent_plain Element h = refl
parent_plain Attribute h = absurd (false≢true h)
parent_plain Text h = refl
parent_plain Instruction h = refl
parent_plain Comment h = refl

attribute_no_text : (k : Kind) → is_attribute k ≡ true → is_text k ≡ false
attribute_no_text Root h = refl
attribute_no_text Element h = refl
attribute_no_text Attribute h = refl
attribute_no_text Text h = absurd (false≢true h)
attribute_no_text Instruction h = refl
attribute_no_text Comment h = refl

-- the rows that are counted are attributes
counted : (rows : List Row) (n k : ℕ) → n < k → k < suc n + attr_count_of rows n → (is_attribute (row_at rows n).kind ≡ false) × (is_attribute (row_at rows k).kind ≡ true)
counted rows n k a b = elim (cases_Bool (is_attribute (row_at rows n).kind)) [
  | inl t ↦ absurd (omega (arith, count_none rows n t, b))
  | inr f ↦
      let i : suc n + (k - suc n) ≡ k = omega arith in
      let r = run_plain (drop (suc n) rows) (k - suc n) (omega (arith, count_is rows n f, b)) in
      (f, sym (ap (λ (x : Row). is_attribute x.kind) (get_or-drop (suc n) rows (k - suc n) root_row ∙ ap (row_at rows) i)) ∙ r)
]

pub attribute_visible : (rules : List StripRule) (rows : List Row) (n k : ℕ) → n < k → k < suc n + attr_count_of rows n → is_visible rules rows k ≡ true
attribute_visible rules rows n k a b = visible_unless_text rules rows k (attribute_no_text (row_at rows k).kind (counted rows n k a b).1)

pub attribute_on : (rows : List Row) (n k : ℕ) → TreeHolds rows → k < length rows → n < k → k < suc n + attr_count_of rows n → is_on axis.Attribute rows n k ≡ true
attribute_on rows n k t l a b =
    let c = counted rows n k a b in
    let f = t.follow k l c.1 in
    let up = parent_before rows k f.owner f.parent in
    let owner : f.owner ≡ n = elim (cases_lt f.owner n) [
      | inl lt ↦ absurd (false≢true (sym c.0 ∙ f.between n lt (omega arith)))
      | inr ge ↦ elim (cases_eq f.owner n) [
        | inl e ↦ e
        | inr ne ↦ absurd (false≢true (sym (parent_plain (row_at rows f.owner).kind (t.parents k f.owner l f.parent)) ∙ (counted rows n f.owner (omega arith) (omega (arith, up.0, b))).1))
      ]
    ] in
    and_from _ _ c.1 (ap (λ o. is_some_of o n) f.parent ∙ eq-eqb f.owner n owner)

pub attribute_off : (rows : List Row) (n k : ℕ) → TreeHolds rows → k < length rows → (k ≤ n) ⊎ (suc n + attr_count_of rows n ≤ k) → is_on axis.Attribute rows n k ≡ false
attribute_off rows n k t l h = elim (cases_Bool (is_attribute_of rows n k)) [
  | inr f ↦ f
  | inl e ↦
      let p = and_parts _ _ e in
      let up = is_some_of-true (parent_of rows k) n p.1 in
      let before = parent_before rows k n up in
      let f = t.follow k l p.0 in
      let owner : f.owner ≡ n = same_some f.owner n (sym f.parent ∙ up) in
      let plain = parent_plain (row_at rows n).kind (t.parents k n l up) in
      let reach = run_reaches (drop (suc n) rows) (k - suc n) (omega (arith, length-drop (suc n) rows, before.0)) (λ j a.
      ap (λ (x : Row). is_attribute x.kind) (get_or-drop (suc n) rows j root_row) ∙ f.between (suc n + j) (omega (arith, owner)) (omega (arith, before.0))) in
      absurd (elim h [ inl x ↦ omega (arith, before.0) | inr x ↦ omega (arith, before.0, reach, count_is rows n plain) ])
]

run_within : (rows : List Row) → attribute_run rows ≤ length rows
run_within [] = omega arith
run_within (r ∷ rows) = let h = run_within rows in elim (cases_Bool (is_attribute r.kind)) [ inl t ↦ rw t (omega arith) | inr f ↦ rw f (omega arith) ]

-- the attributes of a row are rows
pub count_within : (rows : List Row) (n : ℕ) → n < length rows → suc n + attr_count_of rows n ≤ length rows
count_within rows n l = elim (cases_Bool (is_attribute (row_at rows n).kind)) [
  | inl t ↦ omega (arith, count_none rows n t)
  | inr f ↦ omega (arith, count_is rows n f, run_within (drop (suc n) rows), length-drop (suc n) rows)
]
