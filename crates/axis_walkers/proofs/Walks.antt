-- What each walk has found at its end.
use Rattle.std.proofs.Common.{◌≡◌, ℕ, suc, ◌+◌, ◌-◌, ◌<◌, ◌≤◌, true, false, not, ◌&&◌, List, [], ◌++◌, length, Option, Some, None, filter, refl, ap, sym, ◌∙◌, subst, arith, inl, inr}
use Rattle.std.proofs.lemmas.Bool.{and_right, not-false}
use Rattle.doc_model.specs.declared.node_test.Test.{Test}
use Rattle.doc_model.specs.declared.row.Axis.{Axis}
use Rattle.doc_model.specs.declared.row.Axis.TheVariants as axis
use Rattle.doc_model.specs.declared.row.Kind.TheVariants.{Element, Attribute}
use Rattle.doc_model.specs.declared.row.Row.{Row}
use Rattle.doc_model.specs.declared.step.Step.{Step}
use Rattle.doc_model.specs.declared.strip_rule.StripRule.{StripRule}
use Rattle.doc_model.specs.Answers.{Known, Open}
use Rattle.doc_model.specs.Axes.{is_below, is_child_of_some, is_on, need_of, axis_of}
use Rattle.doc_model.specs.Document.{is_open}
use Rattle.doc_model.specs.Lawful.{Grows, IsJoined, AtStep}
use Rattle.doc_model.specs.NodeTests.{meets}
use Rattle.doc_model.specs.Relations.{numbers, is_some_of, parent_of, sibling_parent, extent_of, attr_count_of}
use Rattle.doc_model.specs.Rows.{rows_of, row_at}
use Rattle.doc_model.specs.Shown.{first_shown, prev_shown}
use Rattle.doc_model.specs.Strip.{is_visible}
use Rattle.doc_model.specs.View.{Seen, Moves, is_settled}
use Rattle.doc_laws.proofs.Ends.{shut_grows, extent_le}
use Rattle.doc_laws.proofs.Growth.{joined_grows}
use Rattle.doc_laws.proofs.Kids.{is_some_of-true}
use Rattle.doc_laws.proofs.Known.{none_selected}
use Rattle.doc_laws.proofs.Links.{parent_before}
use Rattle.doc_laws.proofs.Moving.{moves_on, moves_none}
use Rattle.doc_laws.proofs.Root.{root_extent, length_grows}
use Rattle.doc_laws.proofs.Sound.{lawful_tree}
use Rattle.doc_laws.proofs.Staying.{data_stay}
use Rattle.axis_walkers.specs.Offered.{Judged, IsMet, only_if, is_plain}
use Rattle.axis_walkers.proofs.Walking.{IsFresh, GoesUp, up_start, up_skip, up_take, up_itself, up_range, up_end, GoesDown, down_start, down_moves}
use Rattle.axis_walkers.proofs.Walking.{down_skip, down_plain, down_itself, down_end, open_at}
use Rattle.axis_walkers.proofs.Facts
use Rattle.axis_walkers.proofs.Loops.{ComesTo, IsSiblings, IsAbove, above_first, above_moves, above_at, above_is, above_past, below_moves_on, Climbs, climb, Backs, back}

-- a row that must be shut was open at a step of the call
pub waits : {M : Type 0} (s t : Seen M) (n m : ℕ) (a : Axis) (x : Test) → IsJoined s.steps n → ((p : List Step) → Grows s.steps p → need_of a (rows_of p) n ≡ Some m)
    → AtStep s.steps t.steps (λ p. is_open p m ≡ true) → AtStep s.steps t.steps (λ p. axis_of t.rules p n a x ≡ Open m)
waits s t n m a x j e h = (h.0, h.1, h.2, open_at t.rules (h.0) n m a x (joined_grows s.steps (h.0) n h.1 j) (e (h.0) h.1) h.3)

-- ---- the row itself and its parent

pub itself_rows : {M : Type 0} (i0 : Judged) (x0 : List ℕ) (s t : Seen M) (n : ℕ) (x : Test) (id : Judged) (ys : List ℕ) → IsFresh i0 x0 → IsJoined s.steps n → Moves s t → IsMet t (meets Element x) id
    → ys ≡ x0 ++ only_if (is_visible t.rules (rows_of t.steps) n && meets Element x (row_at (rows_of t.steps) n)) n → axis_of t.rules t.steps n axis.Itself x ≡ Known ys
itself_rows i0 x0 s t n x id ys fresh j m k e =
    let a : Axis = axis.Itself in
    let rows = rows_of t.steps in
    let w = up_start s t n a x i0 x0 fresh j m in
    let there = joined_grows s.steps t.steps n m.grows j in
    let v = up_skip s t n a x 0 n i0 x0 w (omega arith) (omega (arith, there)) (λ i b c. none_selected t.rules rows n a x i (Facts.itself_off rows n i (λ q. omega arith))) in
    let u = up_itself s t n a x i0 id x0 ys v (Facts.itself_on rows n) k e in
    up_end s t n a x (suc n) id ys u refl refl (λ i b c. none_selected t.rules rows n a x i (Facts.itself_off rows n i (λ q. omega arith)))

none_is : (m : ℕ) → None ≡ Some m → ⊥
none_is m h = cc

same_some : (a b : ℕ) → Some a ≡ Some b → a ≡ b
same_some a b h = cc

pub no_parent_rows : {M : Type 0} (i0 : Judged) (x0 : List ℕ) (s t : Seen M) (n : ℕ) (x : Test) → IsFresh i0 x0 → IsJoined s.steps n → Moves s t
    → parent_of (rows_of t.steps) n ≡ None → axis_of t.rules t.steps n axis.Parent x ≡ Known x0
no_parent_rows i0 x0 s t n x fresh j m e =
    up_end s t n axis.Parent x 0 i0 x0 (up_start s t n axis.Parent x i0 x0 fresh j m) refl refl
    (λ i b c. none_selected t.rules (rows_of t.steps) n axis.Parent x i (Facts.parent_off (rows_of t.steps) n i None e (none_is i)))

pub parent_rows : {M : Type 0} (i0 : Judged) (x0 : List ℕ) (s t u : Seen M) (n k : ℕ) (x : Test) (id : Judged) (ys : List ℕ) → IsFresh i0 x0 → IsJoined s.steps n → Moves s t
    → parent_of (rows_of t.steps) n ≡ Some k → Moves t u → IsMet u (meets Element x) id
    → ys ≡ x0 ++ only_if (meets Element x (row_at (rows_of u.steps) k)) k → axis_of u.rules u.steps n axis.Parent x ≡ Known ys
parent_rows i0 x0 s t u n k x id ys fresh j m e m2 i f =
    let a : Axis = axis.Parent in
    let there = joined_grows s.steps t.steps n m.grows j in
    let b = parent_before (rows_of t.steps) n k e in
    let w = up_start s t n a x i0 x0 fresh j m in
    let v = up_skip s t n a x 0 k i0 x0 w (omega arith) (omega (arith, b.1))
    (λ l c d. none_selected t.rules (rows_of t.steps) n a x l (Facts.parent_off (rows_of t.steps) n l (Some k) e (λ q. let r = same_some k l q in omega arith))) in
    let z = up_take s t u n a x k i0 id x0 ys v m2 b.1 (Facts.parent_visible t.rules (rows_of t.steps) n k (lawful_tree t.steps m.seen.lawful.each) there e)
    (Facts.parent_on (rows_of t.steps) n k e) i f in
    let e2 : parent_of (rows_of u.steps) n ≡ Some k = (data_stay [] t.steps u.steps n m2.grows m2.seen.lawful there).parent ∙ e in
    up_end s u n a x (suc k) id ys z refl refl
    (λ l c d. none_selected u.rules (rows_of u.steps) n a x l (Facts.parent_off (rows_of u.steps) n l (Some k) e2 (λ q. let r = same_some k l q in omega arith)))

-- ---- descendants

pub descendant_rows : {M : Type 0} (i0 : Judged) (x0 : List ℕ) (s t u : Seen M) (n from to : ℕ) (x : Test) (ys : List ℕ) → IsFresh i0 x0 → IsJoined s.steps n → Moves s t
    → is_open t.steps n ≡ false → from ≡ suc n → to ≡ extent_of (rows_of t.steps) n → Moves t u
    → ys ≡ x0 ++ filter (is_plain u.rules (rows_of u.steps) x) (numbers from (to - from)) → axis_of u.rules u.steps n axis.Descendant x ≡ Known ys
descendant_rows i0 x0 s t u n from to x ys fresh j m o f e m2 h =
    let a : Axis = axis.Descendant in
    let there = joined_grows s.steps t.steps n m.grows j in
    let le = extent_le (rows_of t.steps) n there in
    let later = shut_grows t.steps u.steps n m2.grows m2.seen.lawful there o in
    let w = up_start s t n a x i0 x0 fresh j m in
    let v = up_skip s t n a x 0 from i0 x0 w (omega arith) (omega (arith, f, there))
    (λ k b c. none_selected t.rules (rows_of t.steps) n a x k (Facts.descendant_off (rows_of t.steps) n k (Facts.below_low (rows_of t.steps) n k (omega (arith, f))))) in
    let z = up_range s t u n a x from to i0 x0 ys v m2 (omega (arith, f, e)) (omega (arith, e, le)) refl
    (λ k b c. Facts.descendant_in (rows_of u.steps) n k (omega (arith, f)) (omega (arith, e, later.1))) h in
    up_end s u n a x to i0 ys z refl (ap not later.0)
    (λ k b c. none_selected u.rules (rows_of u.steps) n a x k (Facts.descendant_off (rows_of u.steps) n k (Facts.below_high (rows_of u.steps) n k (omega (arith, e, later.1)))))

pub descendant_or_self_rows : {M : Type 0} (i0 : Judged) (x0 : List ℕ) (s t u v : Seen M) (n from to : ℕ) (x : Test) (id : Judged) (xs ys : List ℕ) → IsFresh i0 x0
    → IsJoined s.steps n → Moves s t → is_open t.steps n ≡ false → from ≡ suc n → to ≡ extent_of (rows_of t.steps) n
    → Moves t u → IsMet u (meets Element x) id → xs ≡ x0 ++ only_if (is_visible u.rules (rows_of u.steps) n && meets Element x (row_at (rows_of u.steps) n)) n
    → Moves u v → ys ≡ xs ++ filter (is_plain v.rules (rows_of v.steps) x) (numbers from (to - from)) → axis_of v.rules v.steps n axis.DescendantOrSelf x ≡ Known ys
descendant_or_self_rows i0 x0 s t u v n from to x id xs ys fresh j m o f e m2 i g m3 h =
    let a : Axis = axis.DescendantOrSelf in
    let there = joined_grows s.steps t.steps n m.grows j in
    let there' = joined_grows t.steps u.steps n m2.grows there in
    let le = extent_le (rows_of t.steps) n there in
    let l1 = shut_grows t.steps u.steps n m2.grows m2.seen.lawful there o in
    let l2 = shut_grows u.steps v.steps n m3.grows m3.seen.lawful there' l1.0 in
    let w0 = up_start s u n a x i0 x0 fresh j (moves_on s t u m m2) in
    let w1 = up_skip s u n a x 0 n i0 x0 w0 (omega arith) (omega (arith, there'))
    (λ k b c. none_selected u.rules (rows_of u.steps) n a x k (Facts.or_self_off (rows_of u.steps) n k (λ q. omega arith) (Facts.below_low (rows_of u.steps) n k (omega arith)))) in
    let w2 = up_itself s u n a x i0 id x0 xs w1 (Facts.or_self_on (rows_of u.steps) n) i g in
    let w3 : GoesUp s u n a x from id xs = subst (λ k. GoesUp s u n a x k id xs) (sym f) w2 in
    let z = up_range s u v n a x from to id xs ys w3 m3 (omega (arith, f, e)) (omega (arith, e, le, length_grows t.steps u.steps m2.grows)) refl
    (λ k b c. Facts.or_self_in (rows_of v.steps) n k (omega (arith, f)) (omega (arith, e, l1.1, l2.1))) h in
    up_end s v n a x to id ys z refl (ap not l2.0)
    (λ k b c. none_selected v.rules (rows_of v.steps) n a x k (Facts.or_self_off (rows_of v.steps) n k (λ q. omega (arith, e)) (Facts.below_high (rows_of v.steps) n k (omega (arith, e, l1.1, l2.1)))))

-- ---- what follows

pub following_rows : {M : Type 0} (i0 : Judged) (x0 : List ℕ) (s t u : Seen M) (n from to : ℕ) (x : Test) (ys : List ℕ) → IsFresh i0 x0 → IsJoined s.steps n → Moves s t
    → is_open t.steps 0 ≡ false → is_open t.steps n ≡ false → from ≡ extent_of (rows_of t.steps) n → to ≡ extent_of (rows_of t.steps) 0
    → Moves t u → ys ≡ x0 ++ filter (is_plain u.rules (rows_of u.steps) x) (numbers from (to - from)) → axis_of u.rules u.steps n axis.Following x ≡ Known ys
following_rows i0 x0 s t u n from to x ys fresh j m z o f e m2 h =
    let a : Axis = axis.Following in
    let there = joined_grows s.steps t.steps n m.grows j in
    let root : IsJoined t.steps 0 = omega (arith, there) in
    let le = extent_le (rows_of t.steps) n there in
    let all = root_extent t.steps m.seen.lawful.each in
    let all2 = root_extent u.steps m2.seen.lawful.each in
    let r = shut_grows t.steps u.steps 0 m2.grows m2.seen.lawful root z in
    let l = shut_grows t.steps u.steps n m2.grows m2.seen.lawful there o in
    let w = up_start s t n a x i0 x0 fresh j m in
    let v = up_skip s t n a x 0 from i0 x0 w (omega arith) (omega (arith, f, le))
    (λ k b c. none_selected t.rules (rows_of t.steps) n a x k (Facts.following_low (rows_of t.steps) n k (omega (arith, f)))) in
    let y = up_range s t u n a x from to i0 x0 ys v m2 (omega (arith, f, e, le, all)) (omega (arith, e, all)) refl (λ k b c. Facts.following_high (rows_of u.steps) n k (omega (arith, f, l.1))) h in
    up_end s u n a x to i0 ys y refl (ap not r.0) (λ k b c. absurd (omega (arith, e, r.1, all2)))

-- ---- attributes

pub attributes_begin : {M : Type 0} (i0 : Judged) (x0 : List ℕ) (s t : Seen M) (n from : ℕ) (x : Test) → IsFresh i0 x0 → IsJoined s.steps n → Moves s t → from ≡ suc n
    → GoesUp s t n axis.Attribute x from i0 x0
attributes_begin i0 x0 s t n from x fresh j m f =
    let there = joined_grows s.steps t.steps n m.grows j in
    up_skip s t n axis.Attribute x 0 from i0 x0 (up_start s t n axis.Attribute x i0 x0 fresh j m) (omega arith) (omega (arith, f, there)) (λ k b c.
    none_selected t.rules (rows_of t.steps) n axis.Attribute x k
    (Facts.attribute_off (rows_of t.steps) n k (lawful_tree t.steps m.seen.lawful.each) (omega (arith, f, there)) (inl (omega (arith, f)))))

pub attributes_turn : {M : Type 0} (s t u : Seen M) (n k : ℕ) (x : Test) (id id2 : Judged) (xs ys : List ℕ) → GoesUp s t n axis.Attribute x k id xs → n < k
    → k < suc n + attr_count_of (rows_of t.steps) n → Moves t u
    → IsMet u (meets Attribute x) id2 → ys ≡ xs ++ only_if (meets Attribute x (row_at (rows_of u.steps) k)) k → GoesUp s u n axis.Attribute x (suc k) id2 ys
attributes_turn s t u n k x id id2 xs ys w a b m i e =
    let fits = Facts.count_within (rows_of t.steps) n w.joined in
    let there : IsJoined t.steps k = omega (arith, fits) in
    up_take s t u n axis.Attribute x k id id2 xs ys w m there (Facts.attribute_visible t.rules (rows_of t.steps) n k a b)
    (Facts.attribute_on (rows_of t.steps) n k (lawful_tree t.steps w.moved.seen.lawful.each) there a b) i e

pub attributes_end : {M : Type 0} (s t : Seen M) (n at : ℕ) (x : Test) (id : Judged) (xs : List ℕ) → GoesUp s t n axis.Attribute x at id xs
    → at ≡ suc n + attr_count_of (rows_of t.steps) n → axis_of t.rules t.steps n axis.Attribute x ≡ Known xs
attributes_end s t n at x id xs w e = up_end s t n axis.Attribute x at id xs w refl refl (λ k b c.
    none_selected t.rules (rows_of t.steps) n axis.Attribute x k (Facts.attribute_off (rows_of t.steps) n k (lawful_tree t.steps w.moved.seen.lawful.each) c (inr (omega (arith, e)))))

-- ---- children and siblings

pub children_are : (rules : List StripRule) (rows : List Row) (n : ℕ) (x : Test) (from : ℕ) → IsSiblings rules rows n axis.Child x (Some n) from
children_are rules rows n x from = record { off = λ i h. Facts.not_child rules rows n x i h; on = λ i l h. h }

pub siblings_are : (rules : List StripRule) (rows : List Row) (n : ℕ) (x : Test) (o : Option ℕ) (from : ℕ) → sibling_parent rows n ≡ o → n < from
    → IsSiblings rules rows n axis.FollowingSibling x o from
siblings_are rules rows n x o from e l = record {
  off = λ i h. Facts.not_after rules rows n x i (ap (λ y. is_visible rules rows i && is_child_of_some rows y i) e ∙ h);
  on = λ i a h. Facts.after_on rows n i (omega arith) (ap (λ y. is_child_of_some rows y i) e ∙ h);
}

pub first_comes : {M : Type 0} (i0 : Judged) (x0 : List ℕ) (s t : Seen M) (n k : ℕ) (x : Test) → IsFresh i0 x0 → IsJoined s.steps n → Moves s t
    → first_shown t.rules (rows_of t.steps) n ≡ Some k → ComesTo s t n axis.Child x (Some n) k i0 x0
first_comes i0 x0 s t n k x fresh j m h =
    let r = Facts.first_is t.rules (rows_of t.steps) n k h in
    record {
      goes = up_skip s t n axis.Child x 0 k i0 x0 (up_start s t n axis.Child x i0 x0 fresh j m) r.above (let l = r.within in omega arith)
          (λ i a b. Facts.not_child t.rules (rows_of t.steps) n x i (r.gap i a b));
      there = r.within;
      visible = r.visible;
      on = r.child;
      parent = r.parent;
    }

pub no_children : {M : Type 0} (i0 : Judged) (x0 : List ℕ) (s t : Seen M) (n : ℕ) (x : Test) → IsFresh i0 x0 → IsJoined s.steps n → Moves s t
    → first_shown t.rules (rows_of t.steps) n ≡ None → is_settled t.steps (Some n) ≡ true → axis_of t.rules t.steps n axis.Child x ≡ Known x0
no_children i0 x0 s t n x fresh j m h c =
    up_end s t n axis.Child x 0 i0 x0 (up_start s t n axis.Child x i0 x0 fresh j m) refl c
    (λ i a b. Facts.not_child t.rules (rows_of t.steps) n x i (Facts.first_none_is t.rules (rows_of t.steps) n h i b))

pub first_waits : {M : Type 0} (s t : Seen M) (n : ℕ) (x : Test) (rules : List StripRule) → IsJoined s.steps n
    → AtStep s.steps t.steps (λ p. (first_shown rules (rows_of p) n ≡ None) × (is_settled p (Some n) ≡ false)) → AtStep s.steps t.steps (λ p. axis_of t.rules p n axis.Child x ≡ Open n)
first_waits s t n x rules j h = (h.0, h.1, h.2, open_at t.rules (h.0) n n axis.Child x (joined_grows s.steps (h.0) n h.1 j) refl (not-false (is_open (h.0) n) h.3.1))

-- where the row has no parent it has no siblings
pub no_siblings : {M : Type 0} (i0 : Judged) (x0 : List ℕ) (s t : Seen M) (n : ℕ) (x : Test) → IsFresh i0 x0 → IsJoined s.steps n → Moves s t
    → sibling_parent (rows_of t.steps) n ≡ None → axis_of t.rules t.steps n axis.FollowingSibling x ≡ Known x0
no_siblings i0 x0 s t n x fresh j m e = up_end s t n axis.FollowingSibling x 0 i0 x0 (up_start s t n axis.FollowingSibling x i0 x0 fresh j m) refl (ap (is_settled t.steps) e) (λ i a b.
    Facts.not_after t.rules (rows_of t.steps) n x i
    (ap (λ y. is_visible t.rules (rows_of t.steps) i && is_child_of_some (rows_of t.steps) y i) e ∙ and_right (is_visible t.rules (rows_of t.steps) i) false refl))

pub siblings_begin : {M : Type 0} (i0 : Judged) (x0 : List ℕ) (s t : Seen M) (n : ℕ) (x : Test) → IsFresh i0 x0 → IsJoined s.steps n → Moves s t → GoesUp s t n axis.FollowingSibling x (suc n) i0 x0
siblings_begin i0 x0 s t n x fresh j m =
    up_skip s t n axis.FollowingSibling x 0 (suc n) i0 x0 (up_start s t n axis.FollowingSibling x i0 x0 fresh j m) (omega arith) (joined_grows s.steps t.steps n m.grows j) (λ i a b.
    none_selected t.rules (rows_of t.steps) n axis.FollowingSibling x i (Facts.after_low (rows_of t.steps) n i (omega arith)))

pub back_begins : {M : Type 0} (i0 : Judged) (x0 : List ℕ) (s t : Seen M) (n : ℕ) (x : Test) (o : Option ℕ) → IsFresh i0 x0 → IsJoined s.steps n → Moves s t
    → prev_shown t.rules (rows_of t.steps) n ≡ o → Backs s t n axis.PrecedingSibling x i0 x0 o
back_begins i0 x0 s t n x o fresh j m e =
    let w = down_skip s t n axis.PrecedingSibling x (suc n) n i0 x0 (down_start s t n axis.PrecedingSibling x i0 x0 fresh j m) (omega arith)
    (λ i a b. none_selected t.rules (rows_of t.steps) n axis.PrecedingSibling x i (Facts.before_high (rows_of t.steps) n i a)) in
    back s t t n x n i0 x0 o w (omega arith) refl (moves_none t m.seen) e

pub back_ends : {M : Type 0} (s t : Seen M) (n : ℕ) (x : Test) (id : Judged) (xs : List ℕ) → GoesDown s t n axis.PrecedingSibling x 0 id xs
    → axis_of t.rules t.steps n axis.PrecedingSibling x ≡ Known xs
back_ends s t n x id xs w = down_end s t n axis.PrecedingSibling x id xs w refl refl
    (λ i a b. none_selected t.rules (rows_of t.steps) n axis.PrecedingSibling x i (Facts.before_high (rows_of t.steps) n i (omega arith)))

-- ---- ancestors

pub climb_begins : {M : Type 0} (i0 : Judged) (x0 : List ℕ) (s t : Seen M) (n : ℕ) (x : Test) (o : Option ℕ) → IsFresh i0 x0 → IsJoined s.steps n → Moves s t
    → parent_of (rows_of t.steps) n ≡ o → Climbs s t n axis.Ancestor x i0 x0 o
climb_begins i0 x0 s t n x o fresh j m e =
    let w = down_skip s t n axis.Ancestor x (suc n) n i0 x0 (down_start s t n axis.Ancestor x i0 x0 fresh j m) (omega arith)
    (λ i a b. none_selected t.rules (rows_of t.steps) n axis.Ancestor x i (Facts.below_low (rows_of t.steps) i n a)) in
    climb s t t n axis.Ancestor x n i0 x0 o (λ rows k l. refl) w (omega arith) (inl refl) (moves_none t m.seen) e

pub climb_ends : {M : Type 0} (s t : Seen M) (n : ℕ) (x : Test) (id : Judged) (xs : List ℕ) → GoesDown s t n axis.Ancestor x 0 id xs → axis_of t.rules t.steps n axis.Ancestor x ≡ Known xs
climb_ends s t n x id xs w = down_end s t n axis.Ancestor x id xs w refl refl
    (λ i a b. none_selected t.rules (rows_of t.steps) n axis.Ancestor x i (Facts.below_low (rows_of t.steps) i n (omega arith)))

pub self_climb_begins : {M : Type 0} (i0 : Judged) (x0 : List ℕ) (s t u : Seen M) (n : ℕ) (x : Test) (id : Judged) (xs : List ℕ) (o : Option ℕ) → IsFresh i0 x0 → IsJoined s.steps n
    → Moves s t → IsMet t (meets Element x) id
    → xs ≡ x0 ++ only_if (is_visible t.rules (rows_of t.steps) n && meets Element x (row_at (rows_of t.steps) n)) n → Moves t u → parent_of (rows_of u.steps) n ≡ o
    → Climbs s u n axis.AncestorOrSelf x id xs o
self_climb_begins i0 x0 s t u n x id xs o fresh j m i e m2 h =
    let w = down_itself s t n axis.AncestorOrSelf x i0 id x0 xs (down_start s t n axis.AncestorOrSelf x i0 x0 fresh j m) (Facts.ancestor_self_on (rows_of t.steps) n) i e in
    climb s t u n axis.AncestorOrSelf x n id xs o (λ rows k l. Facts.ancestor_self_under rows n k l) w (omega arith) (inl refl) m2 h

pub self_climb_ends : {M : Type 0} (s t : Seen M) (n : ℕ) (x : Test) (id : Judged) (xs : List ℕ) → GoesDown s t n axis.AncestorOrSelf x 0 id xs
    → axis_of t.rules t.steps n axis.AncestorOrSelf x ≡ Known xs
self_climb_ends s t n x id xs w =
    down_end s t n axis.AncestorOrSelf x id xs w refl refl (λ i a b. none_selected t.rules (rows_of t.steps) n axis.AncestorOrSelf x i (Facts.ancestor_self_high (rows_of t.steps) n i (omega arith)))

-- ---- what precedes

pub preceding_begins : {M : Type 0} (i0 : Judged) (x0 : List ℕ) (s t : Seen M) (n : ℕ) (x : Test) → IsFresh i0 x0 → IsJoined s.steps n → Moves s t → GoesDown s t n axis.Preceding x n i0 x0
preceding_begins i0 x0 s t n x fresh j m =
    down_skip s t n axis.Preceding x (suc n) n i0 x0 (down_start s t n axis.Preceding x i0 x0 fresh j m) (omega arith)
    (λ i a b. none_selected t.rules (rows_of t.steps) n axis.Preceding x i (Facts.preceding_high (rows_of t.steps) n i a))

-- past an ancestor
pub preceding_skips : {M : Type 0} (s t u : Seen M) (n k : ℕ) (x : Test) (id : Judged) (xs : List ℕ) → GoesDown s t n axis.Preceding x (suc k) id xs
    → is_below (rows_of t.steps) k n ≡ true → Moves t u → GoesDown s u n axis.Preceding x k id xs
preceding_skips s t u n k x id xs w h m = down_moves s t u n axis.Preceding x k id xs (down_skip s t n axis.Preceding x (suc k) k id xs w (omega arith) (λ i a b.
    let same : i ≡ k = omega arith in
    none_selected t.rules (rows_of t.steps) n axis.Preceding x i (ap (is_on axis.Preceding (rows_of t.steps) n) same ∙ Facts.preceding_around (rows_of t.steps) n k h))) m

pub preceding_takes : {M : Type 0} (s t u : Seen M) (n k : ℕ) (x : Test) (id id2 : Judged) (xs ys : List ℕ) → GoesDown s t n axis.Preceding x (suc k) id xs → k < n
    → is_below (rows_of u.steps) k n ≡ false → Moves t u
    → IsMet u (meets Element x) id2 → ys ≡ xs ++ only_if (is_plain u.rules (rows_of u.steps) x k) k → GoesDown s u n axis.Preceding x k id2 ys
preceding_takes s t u n k x id id2 xs ys w l h m i e = down_plain s t u n axis.Preceding x k id id2 xs ys w m refl (Facts.preceding_beside (rows_of u.steps) n k l h) i e

pub preceding_ends : {M : Type 0} (s t : Seen M) (n : ℕ) (x : Test) (id : Judged) (xs : List ℕ) → GoesDown s t n axis.Preceding x 0 id xs → axis_of t.rules t.steps n axis.Preceding x ≡ Known xs
preceding_ends s t n x id xs w =
    down_end s t n axis.Preceding x id xs w refl refl (λ i a b. none_selected t.rules (rows_of t.steps) n axis.Preceding x i (Facts.preceding_high (rows_of t.steps) n i (omega arith)))

-- how far the walk has come, and which ancestor comes next
pub record IsBefore {M : Type 0} (s t : Seen M) (n : ℕ) (x : Test) (k : ℕ) (id : Judged) (xs : List ℕ) (up : Option ℕ) : Type 0 where
  pub goes : GoesDown s t n axis.Preceding x k id xs
  pub order : k ≤ n
  pub above : IsAbove (rows_of t.steps) n k up

pub before_begins : {M : Type 0} (i0 : Judged) (x0 : List ℕ) (s t : Seen M) (n : ℕ) (x : Test) (o : Option ℕ) → IsFresh i0 x0 → IsJoined s.steps n → Moves s t
    → parent_of (rows_of t.steps) n ≡ o → IsBefore s t n x n i0 x0 o
before_begins i0 x0 s t n x o fresh j m e = record {
  goes = preceding_begins i0 x0 s t n x fresh j m;
  order = omega arith;
  above = above_first t.steps n o m.seen.lawful (joined_grows s.steps t.steps n m.grows j) e;
}

before_at : {M : Type 0} (s t : Seen M) (n : ℕ) (x : Test) (k j : ℕ) (id : Judged) (xs : List ℕ) (up : Option ℕ) → k ≡ j → IsBefore s t n x k id xs up → IsBefore s t n x j id xs up
before_at s t n x k j id xs up e w = subst (λ i. IsBefore s t n x i id xs up) e w

pub before_up : {M : Type 0} (s t u : Seen M) (n : ℕ) (x : Test) (j k : ℕ) (id : Judged) (xs : List ℕ) (up o : Option ℕ) → IsBefore s t n x j id xs up → j ≡ suc k
    → is_some_of up k ≡ true → Moves t u → parent_of (rows_of u.steps) k ≡ o → IsBefore s u n x k id xs o
before_up s t u n x j k id xs up o w e h m f =
    let v = before_at s t n x j (suc k) id xs up e w in
    let at : IsAbove (rows_of t.steps) n (suc k) (Some k) = subst (λ y. IsAbove (rows_of t.steps) n (suc k) y) (is_some_of-true up k h) v.above in
    let there = joined_grows t.steps u.steps n m.grows v.goes.joined in
    record {
      goes = preceding_skips s t u n k x id xs v.goes (above_is (rows_of t.steps) n k at) m;
      order = omega (arith, v.order);
      above = above_at u.steps n k o m.seen.lawful there v.order (above_moves t.steps u.steps n (suc k) (Some k) m.grows v.goes.joined v.order at) f;
    }

pub before_takes : {M : Type 0} (s t u : Seen M) (n : ℕ) (x : Test) (j k : ℕ) (id id2 : Judged) (xs ys : List ℕ) (up : Option ℕ) → IsBefore s t n x j id xs up → j ≡ suc k
    → is_some_of up k ≡ false → Moves t u
    → IsMet u (meets Element x) id2 → ys ≡ xs ++ only_if (is_plain u.rules (rows_of u.steps) x k) k → IsBefore s u n x k id2 ys up
before_takes s t u n x j k id id2 xs ys up w e h m i f =
    let v = before_at s t n x j (suc k) id xs up e w in
    let past = above_past (rows_of t.steps) n k up h v.above in
    let there : IsJoined t.steps k = omega (arith, v.order, v.goes.joined) in
    record {
      goes = preceding_takes s t u n k x id id2 xs ys v.goes v.order (below_moves_on t.steps u.steps k n m.grows there v.goes.joined ∙ past.1) m i f;
      order = omega (arith, v.order);
      above = above_moves t.steps u.steps n k up m.grows v.goes.joined (omega (arith, v.order)) past.0;
    }

pub before_ends : {M : Type 0} (s t : Seen M) (n : ℕ) (x : Test) (j : ℕ) (id : Judged) (xs : List ℕ) (up : Option ℕ) → IsBefore s t n x j id xs up → j ≡ 0
    → axis_of t.rules t.steps n axis.Preceding x ≡ Known xs
before_ends s t n x j id xs up w e = preceding_ends s t n x id xs (before_at s t n x j 0 id xs up e w).goes

-- how far the walk has come among the attributes
pub record IsAmong {M : Type 0} (s t : Seen M) (n : ℕ) (x : Test) (k count : ℕ) (id : Judged) (xs : List ℕ) : Type 0 where
  pub goes : GoesUp s t n axis.Attribute x k id xs
  pub count_is : attr_count_of (rows_of t.steps) n ≡ count

pub among_begins : {M : Type 0} (i0 : Judged) (x0 : List ℕ) (s t : Seen M) (n k count : ℕ) (x : Test) → IsFresh i0 x0 → IsJoined s.steps n → Moves s t → k ≡ suc n
    → count ≡ attr_count_of (rows_of t.steps) n → IsAmong s t n x k count i0 x0
among_begins i0 x0 s t n k count x fresh j m f e = record { goes = attributes_begin i0 x0 s t n k x fresh j m f; count_is = sym e }

pub among_within : {M : Type 0} (s t : Seen M) (n : ℕ) (x : Test) (k count : ℕ) (id : Judged) (xs : List ℕ) → IsAmong s t n x k count id xs → suc n + count ≤ length (rows_of t.steps)
among_within s t n x k count id xs w = omega (arith, Facts.count_within (rows_of t.steps) n w.goes.joined, w.count_is)

pub among_takes : {M : Type 0} (s t u : Seen M) (n : ℕ) (x : Test) (k j count : ℕ) (id id2 : Judged) (xs ys : List ℕ) → IsAmong s t n x k count id xs → n < k → k < suc n + count
    → j ≡ suc k → Moves t u
    → IsMet u (meets Attribute x) id2 → ys ≡ xs ++ only_if (meets Attribute x (row_at (rows_of u.steps) k)) k → IsAmong s u n x j count id2 ys
among_takes s t u n x k j count id id2 xs ys w a b e m i f = record {
  goes = subst (λ l. GoesUp s u n axis.Attribute x l id2 ys) (sym e) (attributes_turn s t u n k x id id2 xs ys w.goes a (omega (arith, b, w.count_is)) m i f);
  count_is = (data_stay [] t.steps u.steps n m.grows m.seen.lawful w.goes.joined).attr_count ∙ w.count_is;
}

pub among_ends : {M : Type 0} (s t : Seen M) (n : ℕ) (x : Test) (k count : ℕ) (id : Judged) (xs : List ℕ) → IsAmong s t n x k count id xs → k ≡ suc n + count
    → axis_of t.rules t.steps n axis.Attribute x ≡ Known xs
among_ends s t n x k count id xs w e = attributes_end s t n k x id xs w.goes (omega (arith, e, w.count_is))
