-- What is on an axis, and what is known of it, on every growth.
use Rattle.std.proofs.Common.{◌≡◌, ℕ, ◌+◌, ◌<◌, ◌≤◌, Bool, true, false, cond, not, ◌&&◌, ◌||◌, eqb, ltb, List, [], ◌++◌, length, Option, Some, None, filter, refl, ap, sym, ◌∙◌, subst, arith, append-nil, length-append, inl, inr}
use Rattle.std.proofs.lemmas.Bool.{cases_Bool, cases_lt, and_parts, and_left, and_right, or_from, lt-ltb, le-ltb, ne_eqb, not-true, false≢true}
use Rattle.doc_model.specs.declared.node_test.Test.{Test}
use Rattle.doc_model.specs.declared.row.Axis.{Axis}
use Rattle.doc_model.specs.declared.row.Axis.TheVariants as axis
use Rattle.doc_model.specs.declared.row.Row.{Row}
use Rattle.doc_model.specs.declared.step.Step.{Step}
use Rattle.doc_model.specs.declared.strip_rule.StripRule.{StripRule}
use Rattle.doc_model.specs.Answers.{Known, Open, once_shut, Stays}
use Rattle.doc_model.specs.Axes.{is_node, is_below, is_descendant, is_ancestor, is_child_of_some, is_sibling, is_attribute_of, is_on, is_selected, in_order_of, axis_rows, need_of, axis_of}
use Rattle.doc_model.specs.Document.{is_attribute, is_open, start, document_of}
use Rattle.doc_model.specs.Lawful.{IsLawful, Grows, IsJoined, LawfulFrom}
use Rattle.doc_model.specs.NodeTests.{principal_of, meets}
use Rattle.doc_model.specs.Relations.{numbers, is_child, is_some_of, parent_of, sibling_parent, extent_of}
use Rattle.doc_model.specs.Rows.{rows_of, rows_given, row_at}
use Rattle.doc_model.specs.Strip.{is_visible}
use Rattle.doc_model.specs.View.{is_settled}
use Rattle.doc_laws.proofs.Numbers.{filter_same, filter_nothing, filter-split}
use Rattle.doc_laws.proofs.Growth.{prefix_rows, joined_grows, row_at_grows, parent_grows, child_grows, rows-append}
use Rattle.doc_laws.proofs.Kids.{is_some_of-true}
use Rattle.doc_laws.proofs.Links.{parent_before}
use Rattle.doc_laws.proofs.Stack.{row_at_seam}
use Rattle.doc_laws.proofs.Ends.{lawful_split, shut_grows, extent_le}
use Rattle.doc_laws.proofs.Root.{root_extent, lawful_before}
use Rattle.doc_laws.proofs.Sound.{lawful_tree}
use Rattle.doc_laws.proofs.Subtrees.{child_is, in_within}
use Rattle.doc_laws.proofs.Staying.{sibling_parent_later, given_begins}
use Rattle.doc_laws.proofs.Visible.{visible_grows}
use Rattle.doc_laws.proofs.Ancestors.{below_grows, below_parts}

-- the test of an axis reads rows alone that are there
node_grows : (rows more : List Row) (k : ℕ) → k < length rows → is_node (rows ++ more) k ≡ is_node rows k
node_grows rows more k l = ap (λ (r : Row). not (is_attribute r.kind)) (row_at_grows rows more k l)

descendant_grows : (rows more : List Row) (n k : ℕ) → n < length rows → k < length rows → is_descendant (rows ++ more) n k ≡ is_descendant rows n k
descendant_grows rows more n k ln lk = ap (λ b. b && is_below (rows ++ more) n k) (node_grows rows more k lk) ∙ ap (λ b. is_node rows k && b) (below_grows rows more n k ln lk)

child_of_grows : (rows more : List Row) (o : Option ℕ) (k : ℕ) → k < length rows → is_child_of_some (rows ++ more) o k ≡ is_child_of_some rows o k
child_of_grows rows more None k l = refl
child_of_grows rows more (Some m) k l = child_grows rows more m k l

sibling_grows : (rows more : List Row) (n k : ℕ) → n < length rows → k < length rows → is_sibling (rows ++ more) n k ≡ is_sibling rows n k
sibling_grows rows more n k ln lk = ap (λ o. is_child_of_some (rows ++ more) o k) (sibling_parent_later rows more n ln) ∙ child_of_grows rows more (sibling_parent rows n) k lk

on_grows : (a : Axis) (rows more : List Row) (n k : ℕ) → n < length rows → k < length rows → is_on a (rows ++ more) n k ≡ is_on a rows n k
on_grows axis.Itself rows more n k ln lk = refl
on_grows axis.Child rows more n k ln lk = child_grows rows more n k lk
on_grows axis.Parent rows more n k ln lk = ap (λ o. is_some_of o k) (parent_grows rows more n ln)
on_grows axis.Descendant rows more n k ln lk = descendant_grows rows more n k ln lk
on_grows axis.DescendantOrSelf rows more n k ln lk = ap (λ b. eqb n k || b) (descendant_grows rows more n k ln lk)
on_grows axis.Ancestor rows more n k ln lk = below_grows rows more k n lk ln
on_grows axis.AncestorOrSelf rows more n k ln lk = ap (λ b. eqb n k || b) (below_grows rows more k n lk ln)
on_grows axis.Following rows more n k ln lk =
    ap (λ b. b && (ltb n k && not (is_descendant (rows ++ more) n k))) (node_grows rows more k lk) ∙ ap (λ b. is_node rows k && (ltb n k && not b)) (descendant_grows rows more n k ln lk)
on_grows axis.Preceding rows more n k ln lk =
    ap (λ b. b && (ltb k n && not (is_ancestor (rows ++ more) n k))) (node_grows rows more k lk) ∙ ap (λ b. is_node rows k && (ltb k n && not b)) (below_grows rows more k n lk ln)
on_grows axis.FollowingSibling rows more n k ln lk = ap (λ b. ltb n k && b) (sibling_grows rows more n k ln lk)
on_grows axis.PrecedingSibling rows more n k ln lk = ap (λ b. ltb k n && b) (sibling_grows rows more n k ln lk)
on_grows axis.Attribute rows more n k ln lk =
    ap (λ (r : Row). is_attribute r.kind && is_some_of (parent_of (rows ++ more) k) n) (row_at_grows rows more k lk) ∙ ap (λ o. is_attribute (row_at rows k).kind && is_some_of o n) (parent_grows rows more k lk)

selected_grows : (rules : List StripRule) (rows more : List Row) (n : ℕ) (a : Axis) (test : Test) (k : ℕ) → n < length rows → k < length rows → is_selected rules (rows ++ more) n a test k ≡ is_selected rules rows n a test k
selected_grows rules rows more n a test k ln lk =
    ap (λ b. b && (meets (principal_of a) test (row_at (rows ++ more) k) && is_on a (rows ++ more) n k)) (visible_grows rules rows more k lk)
    ∙ ap (λ r. is_visible rules rows k && (meets (principal_of a) test r && is_on a (rows ++ more) n k)) (row_at_grows rows more k lk)
    ∙ ap (λ b. is_visible rules rows k && (meets (principal_of a) test (row_at rows k) && b)) (on_grows a rows more n k ln lk)

pub selected_later : (rules : List StripRule) (p q : List Step) (n : ℕ) (a : Axis) (test : Test) (k : ℕ) → Grows p q → IsJoined p n → k < length (rows_of p) → is_selected rules (rows_of q) n a test k ≡ is_selected rules (rows_of p) n a test k
selected_later rules p q n a test k g j l = let r = prefix_rows p q g in ap (λ rows. is_selected rules rows n a test k) r.1 ∙ selected_grows rules (rows_of p) r.0 n a test k j l

-- the row that is needed is there
parent_bound : (rows : List Row) (n m : ℕ) → sibling_parent rows n ≡ Some m → m < length rows
parent_bound rows n m h = elim (cases_Bool (is_attribute (row_at rows n).kind)) [
  | inl e ↦ absurd (no (sym (ap (λ b. cond b None (parent_of rows n)) e) ∙ h))
  | inr e ↦ (parent_before rows n m (sym (ap (λ b. cond b None (parent_of rows n)) e) ∙ h)).1
]
  where
    no : None ≡ Some m → ⊥
    no e = cc

same_some : (a b : ℕ) → Some a ≡ Some b → a ≡ b
same_some a b h = cc

none_is : (m : ℕ) → None ≡ Some m → ⊥
none_is m h = cc

need_joined : (a : Axis) (rows : List Row) (n m : ℕ) → n < length rows → need_of a rows n ≡ Some m → m < length rows
need_joined axis.Itself rows n m l h = absurd (none_is m h)
need_joined axis.Child rows n m l h = let e = same_some n m h in omega arith
need_joined axis.Parent rows n m l h = absurd (none_is m h)
need_joined axis.Descendant rows n m l h = let e = same_some n m h in omega arith
need_joined axis.DescendantOrSelf rows n m l h = let e = same_some n m h in omega arith
need_joined axis.Ancestor rows n m l h = absurd (none_is m h)
need_joined axis.AncestorOrSelf rows n m l h = absurd (none_is m h)
need_joined axis.Following rows n m l h = let e = same_some 0 m h in omega arith
need_joined axis.Preceding rows n m l h = absurd (none_is m h)
need_joined axis.FollowingSibling rows n m l h = parent_bound rows n m h
need_joined axis.PrecedingSibling rows n m l h = absurd (none_is m h)
need_joined axis.Attribute rows n m l h = absurd (none_is m h)

need_grows : (a : Axis) (rows more : List Row) (n : ℕ) → n < length rows → need_of a (rows ++ more) n ≡ need_of a rows n
need_grows axis.Itself rows more n l = refl
need_grows axis.Child rows more n l = refl
need_grows axis.Parent rows more n l = refl
need_grows axis.Descendant rows more n l = refl
need_grows axis.DescendantOrSelf rows more n l = refl
need_grows axis.Ancestor rows more n l = refl
need_grows axis.AncestorOrSelf rows more n l = refl
need_grows axis.Following rows more n l = refl
need_grows axis.Preceding rows more n l = refl
need_grows axis.FollowingSibling rows more n l = sibling_parent_later rows more n l
need_grows axis.PrecedingSibling rows more n l = refl
need_grows axis.Attribute rows more n l = refl

pub need_later : (a : Axis) (p q : List Step) (n : ℕ) → Grows p q → IsJoined p n → need_of a (rows_of q) n ≡ need_of a (rows_of p) n
need_later a p q n g j = let r = prefix_rows p q g in ap (λ rows. need_of a rows n) r.1 ∙ need_grows a (rows_of p) r.0 n j

pub settled_later : (p q : List Step) (o : Option ℕ) → Grows p q → IsLawful q → ((m : ℕ) → o ≡ Some m → m < length (rows_of p)) → is_settled p o ≡ true → is_settled q o ≡ true
settled_later p q None g l j s = refl
settled_later p q (Some m) g l j s = ap not (shut_grows p q m g l (j m refl) (not-true (is_open p m) s)).0

-- a row that comes later is on no axis whose need is shut
past_extent : (p q : List Step) (n k : ℕ) → Grows p q → IsLawful q → IsJoined p n → is_open p n ≡ false → length (rows_of p) ≤ k → k < extent_of (rows_of q) n → ⊥
past_extent p q n k g l j s ge lt = omega (arith, lt, (shut_grows p q n g l j s).1, extent_le (rows_of p) n j)

no_child : (p q : List Step) (n k : ℕ) → Grows p q → IsLawful q → IsJoined p n → is_open p n ≡ false → length (rows_of p) ≤ k → k < length (rows_of q) → is_child (rows_of q) n k ≡ false
no_child p q n k g l j s ge lt = elim (cases_Bool (is_child (rows_of q) n k)) [
  | inr f ↦ f
  | inl t ↦
      let tree = lawful_tree q l.each in
      let d = (child_is (rows_of q) n k tree lt t).descendant in
      absurd (past_extent p q n k g l j s ge (in_within (rows_of q) tree n k (joined_grows p q n g j) lt (inl (inr d))).1)
]

no_descendant : (p q : List Step) (n k : ℕ) → Grows p q → IsLawful q → IsJoined p n → is_open p n ≡ false → length (rows_of p) ≤ k → is_descendant (rows_of q) n k ≡ false
no_descendant p q n k g l j s ge = and_right (is_node (rows_of q) k) (is_below (rows_of q) n k) (elim (cases_Bool (is_below (rows_of q) n k)) [
  | inr f ↦ f
  | inl t ↦ absurd (past_extent p q n k g l j s ge (below_parts (rows_of q) n k t).1)
])

no_sibling : (p q : List Step) (o : Option ℕ) (k : ℕ) → Grows p q → IsLawful q → ((m : ℕ) → o ≡ Some m → m < length (rows_of p)) → is_settled p o ≡ true → length (rows_of p) ≤ k → k < length (rows_of q) → is_child_of_some (rows_of q) o k ≡ false
no_sibling p q None k g l j s ge lt = refl
no_sibling p q (Some m) k g l j s ge lt = no_child p q m k g l (j m refl) (not-true (is_open p m) s) ge lt

-- the first row that comes later is no attribute
next_plain : (p q : List Step) → Grows p q → IsLawful q → length (rows_of p) < length (rows_of q) → is_attribute (row_at (rows_of q) (length (rows_of p))).kind ≡ false
next_plain p q g l lt =
    let split = lawful_split p (g.0) (subst (λ xs. LawfulFrom start xs) (sym (g.1)) l.each) in
    let r : rows_of q ≡ rows_of p ++ rows_given g.0 = ap rows_of (sym g.1) ∙ rows-append p g.0 in
    elim (given_begins (document_of p) (g.0) split.1) [
      | inl e ↦ absurd (omega (arith, lt, ap length r, length-append (rows_of p) (rows_given g.0), ap length e))
      | inr b ↦
          let at : row_at (rows_of q) (length (rows_of p)) ≡ b.row = ap (λ rows. row_at rows (length (rows_of p))) (r ∙ ap (λ more. rows_of p ++ more) b.is) ∙ row_at_seam (rows_of p) b.row b.rest in
          ap (λ (x : Row). is_attribute x.kind) at ∙ b.plain
    ]

no_attribute : (p q : List Step) (n k : ℕ) → Grows p q → IsLawful q → IsJoined p n → length (rows_of p) ≤ k → k < length (rows_of q) → is_attribute_of (rows_of q) n k ≡ false
no_attribute p q n k g l j ge lt = elim (cases_Bool (is_attribute_of (rows_of q) n k)) [
  | inr f ↦ f
  | inl t ↦
      let parts = and_parts _ _ t in
      let up = is_some_of-true (parent_of (rows_of q) k) n parts.1 in
      let f = (lawful_tree q l.each).follow k lt parts.0 in
      let same : f.owner ≡ n = same_some f.owner n (sym f.parent ∙ up) in
      absurd (false≢true (sym (next_plain p q g l (omega arith)) ∙ f.between (length (rows_of p)) (omega (arith, same)) ge))
]

none_on : (a : Axis) (p q : List Step) (n k : ℕ) → Grows p q → IsLawful q → IsJoined p n → is_settled p (need_of a (rows_of p) n) ≡ true → length (rows_of p) ≤ k → k < length (rows_of q) → is_on a (rows_of q) n k ≡ false
none_on axis.Itself p q n k g l j s ge lt = ne_eqb n k (λ e. omega arith)
none_on axis.Child p q n k g l j s ge lt = no_child p q n k g l j (not-true (is_open p n) s) ge lt
none_on axis.Parent p q n k g l j s ge lt = elim (cases_Bool (is_some_of (parent_of (rows_of q) n) k)) [
  | inr f ↦ f
  | inl t ↦ absurd (let b = parent_before (rows_of q) n k (is_some_of-true (parent_of (rows_of q) n) k t) in omega (arith, b.0))
]
none_on axis.Descendant p q n k g l j s ge lt = no_descendant p q n k g l j (not-true (is_open p n) s) ge
none_on axis.DescendantOrSelf p q n k g l j s ge lt = or_from (eqb n k) (is_descendant (rows_of q) n k) (ne_eqb n k (λ e. omega arith)) (no_descendant p q n k g l j (not-true (is_open p n) s) ge)
none_on axis.Ancestor p q n k g l j s ge lt = and_left (ltb k n) (ltb n (extent_of (rows_of q) k)) (le-ltb k n (omega arith))
none_on axis.AncestorOrSelf p q n k g l j s ge lt = or_from (eqb n k) (is_below (rows_of q) k n) (ne_eqb n k (λ e. omega arith)) (and_left (ltb k n) (ltb n (extent_of (rows_of q) k)) (le-ltb k n (omega arith)))
none_on axis.Following p q n k g l j s ge lt =
    absurd (let z : 0 < length (rows_of p) = omega arith in omega (arith, (shut_grows p q 0 g l z (not-true (is_open p 0) s)).1, root_extent p (lawful_before p q g l).each, root_extent q l.each))
none_on axis.Preceding p q n k g l j s ge lt =
    and_right (is_node (rows_of q) k) (ltb k n && not (is_ancestor (rows_of q) n k)) (and_left (ltb k n) (not (is_ancestor (rows_of q) n k)) (le-ltb k n (omega arith)))
none_on axis.FollowingSibling p q n k g l j s ge lt =
    and_right (ltb n k) (is_sibling (rows_of q) n k)
    (ap (λ o. is_child_of_some (rows_of q) o k) (need_later axis.FollowingSibling p q n g j) ∙ no_sibling p q (sibling_parent (rows_of p) n) k g l (λ m e. parent_bound (rows_of p) n m e) s ge lt)
none_on axis.PrecedingSibling p q n k g l j s ge lt = and_left (ltb k n) (is_sibling (rows_of q) n k) (le-ltb k n (omega arith))
none_on axis.Attribute p q n k g l j s ge lt = no_attribute p q n k g l j ge lt

pub none_selected : (rules : List StripRule) (rows : List Row) (n : ℕ) (a : Axis) (test : Test) (k : ℕ) → is_on a rows n k ≡ false → is_selected rules rows n a test k ≡ false
none_selected rules rows n a test k h = and_right (is_visible rules rows k) (meets (principal_of a) test (row_at rows k) && is_on a rows n k) (and_right (meets (principal_of a) test (row_at rows k)) (is_on a rows n k) h)

pub axis_rows_stay : (rules : List StripRule) (p q : List Step) (n : ℕ) (a : Axis) (test : Test) → Grows p q → IsLawful q → IsJoined p n → is_settled p (need_of a (rows_of p) n) ≡ true → axis_rows rules (rows_of q) n a test ≡ axis_rows rules (rows_of p) n a test
axis_rows_stay rules p q n a test g l j s =
    let f : ℕ → Bool = is_selected rules (rows_of q) n a test in
    let c : ℕ = length (rows_of p) in
    let r = prefix_rows p q g in
    let long : length (rows_of q) ≡ c + length r.0 = ap length r.1 ∙ length-append (rows_of p) r.0 in
    let none : filter f (numbers (0 + c) (length r.0)) ≡ [] = filter_nothing f (0 + c) (length r.0) (λ k x y.
    none_selected rules (rows_of q) n a test k (none_on a p q n k g l j s (omega arith) (omega (arith, long)))) in
    let same : filter f (numbers 0 (length (rows_of q))) ≡ filter (is_selected rules (rows_of p) n a test) (numbers 0 c) =
    ap (λ i. filter f (numbers 0 i)) long ∙ filter-split f 0 c (length r.0) ∙ ap (λ xs. filter f (numbers 0 c) ++ xs) none ∙ append-nil (filter f (numbers 0 c))
    ∙ filter_same f (is_selected rules (rows_of p) n a test) 0 c (λ k x y. selected_later rules p q n a test k g j (omega arith)) in
    ap (in_order_of a) same

once_stays : {A : Type 0} (p q : List Step) (o : Option ℕ) (x y : A) → (is_settled p o ≡ true → (is_settled q o ≡ true) × (y ≡ x)) → Stays (once_shut p o x) (once_shut q o y)
once_stays p q None x y f = ap Known (f refl).1
once_stays p q (Some m) x y f = elim (cases_Bool (is_open p m)) [
  | inl t ↦ subst (λ z. Stays z (once_shut q (Some m) y)) (sym (ap (λ b. cond b (Open m) (Known x)) t)) tt
  | inr e ↦
      let s = f (ap not e) in
      subst (λ z. Stays z (once_shut q (Some m) y)) (sym (ap (λ b. cond b (Open m) (Known x)) e))
      (ap (λ b. cond b (Open m) (Known y)) (not-true (is_open q m) s.0) ∙ ap Known s.1)
]

pub axis_stays : (rules : List StripRule) (p q : List Step) (n : ℕ) (a : Axis) (test : Test) → Grows p q → IsLawful q → Stays (axis_of rules p n a test) (axis_of rules q n a test)
axis_stays rules p q n a test g l = elim (cases_lt n (length (rows_of p))) [
  | inr ge ↦ subst (λ z. Stays z (axis_of rules q n a test)) (sym (ap (λ b. cond b (once_shut p (need_of a (rows_of p) n) (axis_rows rules (rows_of p) n a test)) (Open n)) (le-ltb n (length (rows_of p)) ge))) tt
  | inl j ↦
      let was = ap (λ b. cond b (once_shut p (need_of a (rows_of p) n) (axis_rows rules (rows_of p) n a test)) (Open n)) (lt-ltb n (length (rows_of p)) j) in
      let will =
      ap (λ b. cond b (once_shut q (need_of a (rows_of q) n) (axis_rows rules (rows_of q) n a test)) (Open n)) (lt-ltb n (length (rows_of q)) (joined_grows p q n g j))
      ∙ ap (λ o. once_shut q o (axis_rows rules (rows_of q) n a test)) (need_later a p q n g j) in
      let stay = once_stays p q (need_of a (rows_of p) n) (axis_rows rules (rows_of p) n a test) (axis_rows rules (rows_of q) n a test) (λ s. (
        settled_later p q (need_of a (rows_of p) n) g l (λ m e. need_joined a (rows_of p) n m j e) s,
        axis_rows_stay rules p q n a test g l j s,
      )) in
      subst (λ z. Stays z (axis_of rules q n a test)) (sym was) (subst (λ z. Stays (once_shut p (need_of a (rows_of p) n) (axis_rows rules (rows_of p) n a test)) z) (sym will) stay)
]
