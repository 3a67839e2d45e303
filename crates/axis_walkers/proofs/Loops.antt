-- One turn of each walk.
use Rattle.std.proofs.Common.{◌≡◌, ℕ, suc, ◌<◌, ◌≤◌, true, false, cond, ◌&&◌, ◌||◌, eqb, List, [], ◌++◌, length, Option, Some, None, Result, Ok, Err, refl, ap, sym, ◌∙◌, subst, arith, inl, inr, ◌⊎◌}
use Rattle.std.proofs.lemmas.Bool.{cases_Bool, not-false, eq-eqb, false≢true}
use Rattle.std.specs.Prelude.{IsErrAnd}
use Rattle.doc_model.specs.declared.node_test.Test.{Test}
use Rattle.doc_model.specs.declared.row.Axis.{Axis}
use Rattle.doc_model.specs.declared.row.Axis.TheVariants as axis
use Rattle.doc_model.specs.declared.row.Kind.TheVariants.{Element}
use Rattle.doc_model.specs.declared.row.Row.{Row}
use Rattle.doc_model.specs.declared.step.Step.{Step}
use Rattle.doc_model.specs.declared.strip_rule.StripRule.{StripRule}
use Rattle.doc_model.specs.Answers.{Answer, Known, Open, StopsAs, Answers}
use Rattle.doc_model.specs.Axes.{is_below, is_child_of_some, is_on, is_selected, is_reverse, need_of, axis_of}
use Rattle.doc_model.specs.Document.{is_attribute, is_open}
use Rattle.doc_model.specs.Lawful.{Grows, IsLawful, IsJoined, AtStep}
use Rattle.doc_model.specs.NodeTests.{principal_of, meets}
use Rattle.doc_model.specs.Relations.{is_some_of, parent_of, sibling_parent}
use Rattle.doc_model.specs.Rows.{rows_of, row_at}
use Rattle.doc_model.specs.Shown.{next_shown, prev_shown}
use Rattle.doc_model.specs.Strip.{is_visible}
use Rattle.doc_model.specs.View.{Seen, Moves, is_settled}
use Rattle.doc_laws.proofs.Ancestors.{is_around, ancestors_by_parent, below_grows, below_parts}
use Rattle.doc_laws.proofs.Growth.{prefix_rows, joined_grows, Grows-trans}
use Rattle.doc_laws.proofs.Known.{none_selected}
use Rattle.doc_laws.proofs.Links.{parent_before}
use Rattle.doc_laws.proofs.Rooted.{lawful_rooted}
use Rattle.doc_laws.proofs.Sound.{lawful_tree}
use Rattle.doc_laws.proofs.Staying.{sibling_parent_later, data_stay}
use Rattle.doc_model.specs.declared.ask.Ask.{Ask}
use Rattle.doc_model.specs.declared.ask.Ask.TheVariants.{Memory}
use Rattle.doc_model.specs.Asks.{stop_of}
use Rattle.axis_walkers.specs.Offered.{Judged, IsMet, only_if}
use Rattle.axis_walkers.proofs.Walking.{GoesUp, up_moves, up_skip, up_take, up_end, GoesDown, down_moves, down_skip, down_take, open_at}
use Rattle.axis_walkers.proofs.Facts.{next_is, next_none_is, prev_is, prev_none_is, IsUp, ancestors_from, around_between, around_itself, around_under, parent_visible, not_before, before_on}

pub sibling_parent_moves : (p q : List Step) (k : ℕ) → Grows p q → IsJoined p k → sibling_parent (rows_of q) k ≡ sibling_parent (rows_of p) k
sibling_parent_moves p q k g j = let r = prefix_rows p q g in ap (λ rows. sibling_parent rows k) r.1 ∙ sibling_parent_later (rows_of p) r.0 k j

pub below_moves_on : (p q : List Step) (k n : ℕ) → Grows p q → IsJoined p k → IsJoined p n → is_below (rows_of q) k n ≡ is_below (rows_of p) k n
below_moves_on p q k n g j l = let r = prefix_rows p q g in ap (λ rows. is_below rows k n) r.1 ∙ below_grows (rows_of p) r.0 k n j l

-- ---- along siblings, upwards

-- the walk comes to a visible row of the axis, whose siblings are those that are asked for
pub record ComesTo {M : Type 0} (s t : Seen M) (n : ℕ) (a : Axis) (x : Test) (o : Option ℕ) (at : ℕ) (id : Judged) (xs : List ℕ) : Type 0 where
  pub goes : GoesUp s t n a x at id xs
  pub there : IsJoined t.steps at
  pub visible : is_visible t.rules (rows_of t.steps) at ≡ true
  pub on : is_on a (rows_of t.steps) n at ≡ true
  pub parent : sibling_parent (rows_of t.steps) at ≡ o

-- the walk is past a row
pub record IsPast {M : Type 0} (s t : Seen M) (n : ℕ) (a : Axis) (x : Test) (o : Option ℕ) (at : ℕ) (id : Judged) (xs : List ℕ) : Type 0 where
  pub goes : GoesUp s t n a x (suc at) id xs
  pub there : IsJoined t.steps at
  pub parent : sibling_parent (rows_of t.steps) at ≡ o

pub passed : {M : Type 0} (s t u : Seen M) (n : ℕ) (a : Axis) (x : Test) (o : Option ℕ) (at : ℕ) (id id2 : Judged) (xs ys : List ℕ) → ComesTo s t n a x o at id xs → Moves t u
    → IsMet u (meets (principal_of a) x) id2 → ys ≡ xs ++ only_if (meets (principal_of a) x (row_at (rows_of u.steps) at)) at → IsPast s u n a x o at id2 ys
passed s t u n a x o at id id2 xs ys w m k e = record {
  goes = up_take s t u n a x at id id2 xs ys w.goes m w.there w.visible w.on k e;
  there = joined_grows t.steps u.steps at m.grows w.there;
  parent = sibling_parent_moves t.steps u.steps at m.grows w.there ∙ w.parent;
}

past_moves : {M : Type 0} (s t u : Seen M) (n : ℕ) (a : Axis) (x : Test) (o : Option ℕ) (at : ℕ) (id : Judged) (xs : List ℕ) → IsPast s t n a x o at id xs → Moves t u → IsPast s u n a x o at id xs
past_moves s t u n a x o at id xs w m = record {
  goes = up_moves s t u n a x (suc at) id xs w.goes m;
  there = joined_grows t.steps u.steps at m.grows w.there;
  parent = sibling_parent_moves t.steps u.steps at m.grows w.there ∙ w.parent;
}

-- an axis of visible siblings: no other row is selected, and each that is past the row is on the axis
pub record IsSiblings (rules : List StripRule) (rows : List Row) (n : ℕ) (a : Axis) (x : Test) (o : Option ℕ) (from : ℕ) : Type 0 where
  pub off : (i : ℕ) → (is_visible rules rows i && is_child_of_some rows o i) ≡ false → is_selected rules rows n a x i ≡ false
  pub on : (i : ℕ) → from ≤ i → is_child_of_some rows o i ≡ true → is_on a rows n i ≡ true

pub next_comes : {M : Type 0} (s t u : Seen M) (n : ℕ) (a : Axis) (x : Test) (o : Option ℕ) (at k : ℕ) (id : Judged) (xs : List ℕ) → IsPast s t n a x o at id xs → Moves t u
    → IsSiblings u.rules (rows_of u.steps) n a x o (suc at) → next_shown u.rules (rows_of u.steps) at ≡ Some k → ComesTo s u n a x o k id xs
next_comes s t u n a x o at k id xs w m i h =
    let v = past_moves s t u n a x o at id xs w m in
    let r = next_is u.rules (rows_of u.steps) o at k v.there v.parent h in
    record {
      goes = up_skip s u n a x (suc at) k id xs v.goes r.above (let l = r.within in omega arith) (λ j b c. i.off j (r.gap j b c));
      there = r.within;
      visible = r.visible;
      on = i.on k r.above r.child;
      parent = r.parent;
    }

pub next_less : {M : Type 0} (s t u : Seen M) (n : ℕ) (a : Axis) (x : Test) (o : Option ℕ) (at k : ℕ) (id : Judged) (xs : List ℕ) → IsPast s t n a x o at id xs → Moves t u
    → next_shown u.rules (rows_of u.steps) at ≡ Some k → (at < k) × IsJoined u.steps k
next_less s t u n a x o at k id xs w m h =
    let v = past_moves s t u n a x o at id xs w m in
    let r = next_is u.rules (rows_of u.steps) o at k v.there v.parent h in
    (r.above, r.within)

pub next_ends : {M : Type 0} (s t u : Seen M) (n : ℕ) (a : Axis) (x : Test) (o : Option ℕ) (at : ℕ) (id : Judged) (xs : List ℕ) → IsPast s t n a x o at id xs → Moves t u
    → IsSiblings u.rules (rows_of u.steps) n a x o (suc at) → is_reverse a ≡ false → need_of a (rows_of u.steps) n ≡ o
    → next_shown u.rules (rows_of u.steps) at ≡ None → is_settled u.steps (sibling_parent (rows_of u.steps) at) ≡ true → axis_of u.rules u.steps n a x ≡ Known xs
next_ends s t u n a x o at id xs w m i f e h c =
    let v = past_moves s t u n a x o at id xs w m in
    up_end s u n a x (suc at) id xs v.goes f (ap (is_settled u.steps) (e ∙ sym v.parent) ∙ c)
    (λ j b d. i.off j (next_none_is u.rules (rows_of u.steps) o at v.there v.parent h j b d))

pub next_waits : {M : Type 0} (s t u : Seen M) (n : ℕ) (a : Axis) (x : Test) (m at : ℕ) (id : Judged) (xs : List ℕ) (rules : List StripRule) → IsPast s t n a x (Some m) at id xs
    → ((p : List Step) → Grows t.steps p → need_of a (rows_of p) n ≡ Some m)
    → AtStep t.steps u.steps (λ p. (next_shown rules (rows_of p) at ≡ None) × (is_settled p (sibling_parent (rows_of p) at) ≡ false))
    → AtStep s.steps u.steps (λ p. axis_of rules p n a x ≡ Open m)
next_waits s t u n a x m at id xs rules w f h =
    let settled = sym (ap (is_settled h.0) (sibling_parent_moves t.steps (h.0) at h.1 w.there ∙ w.parent)) ∙ h.3.1 in (
      h.0,
      Grows-trans s.steps t.steps (h.0) w.goes.moved.grows h.1,
      h.2,
      open_at rules (h.0) n m a x (joined_grows t.steps (h.0) n h.1 w.goes.joined) (f (h.0) h.1) (not-false (is_open (h.0) m) settled),
    )

-- ---- along ancestors

-- the walk comes to an ancestor, or is over
abbrev pub Climbs : {M : Type 0} → Seen M → Seen M → ℕ → Axis → Test → Judged → List ℕ → Option ℕ → Type 0
Climbs s t n a x id xs None = GoesDown s t n a x 0 id xs
Climbs s t n a x id xs (Some k) = GoesDown s t n a x (suc k) id xs × (is_below (rows_of t.steps) k n ≡ true) × (is_visible t.rules (rows_of t.steps) k ≡ true)

up_moves_on : (p q : List Step) (n at : ℕ) → Grows p q → IsJoined p at → IsJoined p n → IsUp (rows_of p) n at → IsUp (rows_of q) n at
up_moves_on p q n at g j l u = elim u [ inl e ↦ inl e | inr b ↦ inr (below_moves_on p q at n g j l ∙ b) ]

pub climb : {M : Type 0} (s t u : Seen M) (n : ℕ) (a : Axis) (x : Test) (at : ℕ) (id : Judged) (xs : List ℕ) (o : Option ℕ) → ((rows : List Row) (k : ℕ) → k < n → is_on a rows n k ≡ is_below rows k n)
    → GoesDown s t n a x at id xs → at ≤ n → IsUp (rows_of t.steps) n at → Moves t u → parent_of (rows_of u.steps) at ≡ o → Climbs s u n a x id xs o
climb s t u n a x at id xs None f w l up m e =
    let v = down_moves s t u n a x at id xs w m in
    let lawful = m.seen.lawful.each in
    let there : IsJoined t.steps at = omega (arith, l, w.joined) in
    let up' = up_moves_on t.steps u.steps n at m.grows there w.joined up in
    down_skip s u n a x at 0 id xs v (omega arith) (λ j b c.
    none_selected u.rules (rows_of u.steps) n a x j
    (f (rows_of u.steps) j (omega arith)
    ∙ ancestors_from (rows_of u.steps) n at j None (lawful_tree u.steps lawful) (lawful_rooted u.steps lawful) v.joined (joined_grows t.steps u.steps at m.grows there) up' e c))
climb s t u n a x at id xs (Some k) f w l up m e =
    let v = down_moves s t u n a x at id xs w m in
    let lawful = m.seen.lawful.each in
    let there : IsJoined t.steps at = omega (arith, l, w.joined) in
    let there' = joined_grows t.steps u.steps at m.grows there in
    let up' = up_moves_on t.steps u.steps n at m.grows there w.joined up in
    let before = parent_before (rows_of u.steps) at k e in
    let around = λ (j : ℕ) (c : j < at). ancestors_from (rows_of u.steps) n at j (Some k) (lawful_tree u.steps lawful) (lawful_rooted u.steps lawful) v.joined there' up' e c in (
      down_skip s u n a x at (suc k) id xs v before.0 (λ j b c.
          none_selected u.rules (rows_of u.steps) n a x j (f (rows_of u.steps) j (omega arith) ∙ around j c ∙ around_between (rows_of u.steps) k j b)),
      around k before.0 ∙ around_itself (rows_of u.steps) k,
      parent_visible u.rules (rows_of u.steps) at k (lawful_tree u.steps lawful) there' e,
    )

-- the ancestor was offered, and the next one is asked for
pub climbed : {M : Type 0} (s t u v : Seen M) (n : ℕ) (a : Axis) (x : Test) (k : ℕ) (id id2 : Judged) (xs ys : List ℕ) (o : Option ℕ)
    → ((rows : List Row) (k : ℕ) → k < n → is_on a rows n k ≡ is_below rows k n)
    → Climbs s t n a x id xs (Some k) → k < n → Moves t u → IsMet u (meets (principal_of a) x) id2 → ys ≡ xs ++ only_if (meets (principal_of a) x (row_at (rows_of u.steps) k)) k
    → Moves u v → parent_of (rows_of v.steps) k ≡ o → Climbs s v n a x id2 ys o
climbed s t u v n a x k id id2 xs ys o f w l m i e m2 h =
    let g = down_take s t u n a x k id id2 xs ys w.0 m w.2 (f (rows_of t.steps) k l ∙ w.1) i e in
    let there : IsJoined t.steps k = omega (arith, l, w.0.joined) in
    climb s u v n a x k id2 ys o f g (omega arith) (inr (below_moves_on t.steps u.steps k n m.grows there w.0.joined ∙ w.1)) m2 h

-- ---- along siblings, downwards

-- the walk comes to a visible sibling, or is over
abbrev pub Backs : {M : Type 0} → Seen M → Seen M → ℕ → Axis → Test → Judged → List ℕ → Option ℕ → Type 0
Backs s t n a x id xs None = GoesDown s t n a x 0 id xs
Backs s t n a x id xs (Some k) =
    GoesDown s t n a x (suc k) id xs × (is_visible t.rules (rows_of t.steps) k ≡ true) × (is_child_of_some (rows_of t.steps) (sibling_parent (rows_of t.steps) n) k ≡ true)
    × (sibling_parent (rows_of t.steps) k ≡ sibling_parent (rows_of t.steps) n) × (k < n)

pub back : {M : Type 0} (s t u : Seen M) (n : ℕ) (x : Test) (at : ℕ) (id : Judged) (xs : List ℕ) (o : Option ℕ) → GoesDown s t n axis.PrecedingSibling x at id xs → at ≤ n
    → sibling_parent (rows_of t.steps) at ≡ sibling_parent (rows_of t.steps) n → Moves t u → prev_shown u.rules (rows_of u.steps) at ≡ o → Backs s u n axis.PrecedingSibling x id xs o
back s t u n x at id xs None w l p m e =
    let there : IsJoined t.steps at = omega (arith, l, w.joined) in
    let parent = sibling_parent_moves t.steps u.steps at m.grows there ∙ p ∙ sym (sibling_parent_moves t.steps u.steps n m.grows w.joined) in
    down_skip s u n axis.PrecedingSibling x at 0 id xs (down_moves s t u n axis.PrecedingSibling x at id xs w m) (omega arith) (λ j b c.
    not_before u.rules (rows_of u.steps) n x j (prev_none_is u.rules (rows_of u.steps) (sibling_parent (rows_of u.steps) n) at parent e j c))
back s t u n x at id xs (Some k) w l p m e =
    let there : IsJoined t.steps at = omega (arith, l, w.joined) in
    let parent = sibling_parent_moves t.steps u.steps at m.grows there ∙ p ∙ sym (sibling_parent_moves t.steps u.steps n m.grows w.joined) in
    let r = prev_is u.rules (rows_of u.steps) (sibling_parent (rows_of u.steps) n) at k parent e in (
      down_skip s u n axis.PrecedingSibling x at (suc k) id xs (down_moves s t u n axis.PrecedingSibling x at id xs w m) r.before (λ j b c.
          not_before u.rules (rows_of u.steps) n x j (r.gap j b c)),
      r.visible,
      r.child,
      r.parent,
      omega (arith, r.before),
    )

-- the sibling was offered, and the one before it is asked for
pub backed : {M : Type 0} (s t u v : Seen M) (n : ℕ) (x : Test) (k : ℕ) (id id2 : Judged) (xs ys : List ℕ) (o : Option ℕ)
    → Backs s t n axis.PrecedingSibling x id xs (Some k) → Moves t u → IsMet u (meets Element x) id2 → ys ≡ xs ++ only_if (meets Element x (row_at (rows_of u.steps) k)) k
    → Moves u v → prev_shown v.rules (rows_of v.steps) k ≡ o → Backs s v n axis.PrecedingSibling x id2 ys o
backed s t u v n x k id id2 xs ys o w m i e m2 h =
    let l = w.4 in
    let there : IsJoined t.steps k = omega (arith, l, w.0.joined) in
    let g = down_take s t u n axis.PrecedingSibling x k id id2 xs ys w.0 m w.1 (before_on (rows_of t.steps) n k l w.2) i e in
    back s u v n x k id2 ys o g (omega arith) (sibling_parent_moves t.steps u.steps k m.grows there ∙ w.3 ∙ sym (sibling_parent_moves t.steps u.steps n m.grows w.0.joined)) m2 h

-- ---- backwards, past ancestors

-- an ancestor that is to come, if there is one, has these ancestors among the rows below a number
pub record IsAbove (rows : List Row) (n k : ℕ) (up : Option ℕ) : Type 0 where
  pub there : (u : ℕ) → up ≡ Some u → u < k
  pub ancestors : (j : ℕ) → j < k → is_below rows j n ≡ is_around rows up j

pub above_first : (p : List Step) (n : ℕ) (o : Option ℕ) → IsLawful p → IsJoined p n → parent_of (rows_of p) n ≡ o → IsAbove (rows_of p) n n o
above_first p n o l j e = record {
  there = λ u h. (parent_before (rows_of p) n u (e ∙ h)).0;
  ancestors = λ i c. ancestors_by_parent (rows_of p) (lawful_tree p l.each) (lawful_rooted p l.each) n i o j e;
}

around_moves : (p q : List Step) (n k : ℕ) (up : Option ℕ) → Grows p q → IsJoined p n → k ≤ n → ((u : ℕ) → up ≡ Some u → u < k) → (j : ℕ) → j < k
    → is_around (rows_of q) up j ≡ is_around (rows_of p) up j
around_moves p q n k None g l b h j c = refl
around_moves p q n k (Some u) g l b h j c = ap (λ y. eqb u j || y) (below_moves_on p q j u g (omega (arith, l)) (let d = h u refl in omega (arith, l)))

pub above_moves : (p q : List Step) (n k : ℕ) (up : Option ℕ) → Grows p q → IsJoined p n → k ≤ n → IsAbove (rows_of p) n k up → IsAbove (rows_of q) n k up
above_moves p q n k up g l b a = record {
  there = a.there;
  ancestors = λ j c. below_moves_on p q j n g (omega (arith, l)) l ∙ a.ancestors j c ∙ sym (around_moves p q n k up g l b a.there j c);
}

-- at an ancestor
pub above_at : (p : List Step) (n k : ℕ) (o : Option ℕ) → IsLawful p → IsJoined p n → k < n → IsAbove (rows_of p) n (suc k) (Some k) → parent_of (rows_of p) k ≡ o → IsAbove (rows_of p) n k o
above_at p n k o l j b a e = record {
  there = λ u h. (parent_before (rows_of p) k u (e ∙ h)).0;
  ancestors = λ i c.
      a.ancestors i (omega arith) ∙ around_under (rows_of p) k i c
      ∙ ancestors_by_parent (rows_of p) (lawful_tree p l.each) (lawful_rooted p l.each) k i o (omega (arith, j)) e;
}

pub above_is : (rows : List Row) (n k : ℕ) → IsAbove rows n (suc k) (Some k) → is_below rows k n ≡ true
above_is rows n k a = a.ancestors k (omega arith) ∙ around_itself rows k

-- past a row that is no ancestor
some_not : (u k : ℕ) → is_some_of (Some u) k ≡ false → (u ≡ k → ⊥)
some_not u k h e = false≢true (sym h ∙ eq-eqb u k e)

pub above_past : (rows : List Row) (n k : ℕ) (up : Option ℕ) → is_some_of up k ≡ false → IsAbove rows n (suc k) up → IsAbove rows n k up × (is_below rows k n ≡ false)
above_past rows n k None h a = (record { there = λ u e. absurd (none_some u e); ancestors = λ j c. a.ancestors j (omega arith) }, a.ancestors k (omega arith))
  where
    none_some : (u : ℕ) → None ≡ Some u → ⊥
    none_some u e = cc
above_past rows n k (Some u) h a =
    let ne = some_not u k h in
    let lt = a.there u refl in (
      record { there = λ v e. let s = same u v e in omega (arith, lt, ne); ancestors = λ j c. a.ancestors j (omega arith) },
      a.ancestors k (omega arith) ∙ around_between rows u k (omega (arith, lt, ne)),
    )
  where
    same : (u v : ℕ) → Some u ≡ Some v → u ≡ v
    same u v e = cc

-- ---- want of memory

pub no_memory : {M A : Type 0} (means : List StripRule → List Step → Answer ⊥ A) (s t : Seen M) (result : Result A Ask) → IsErrAnd result (λ e. e ≡ Memory) → Answers stop_of means s t result
no_memory means s t (Ok x) h = absurd h
no_memory means s t (Err e) h = subst (λ z. StopsAs (means t.rules) s.steps t.steps (stop_of z)) (sym h) tt

-- ---- measures, and the row that is needed

-- how many rows are left below the one that the walk comes to
abbrev pub left_to : Option ℕ → ℕ
left_to None = 0
left_to (Some k) = suc k

pub climb_less : (rows : List Row) (k : ℕ) (o : Option ℕ) → parent_of rows k ≡ o → left_to o < suc k
climb_less rows k None e = omega arith
climb_less rows k (Some m) e = let b = parent_before rows k m e in omega (arith, b.0)

pub back_less : (rules : List StripRule) (rows : List Row) (k : ℕ) (o : Option ℕ) → prev_shown rules rows k ≡ o → left_to o < suc k
back_less rules rows k None e = omega arith
back_less rules rows k (Some m) e = let b = prev_is rules rows (sibling_parent rows k) k m refl e in omega (arith, b.before)

pub parent_or_none : (rows : List Row) (n m : ℕ) → parent_of rows n ≡ Some m → (sibling_parent rows n ≡ None) ⊎ (sibling_parent rows n ≡ Some m)
parent_or_none rows n m e = elim (cases_Bool (is_attribute (row_at rows n).kind)) [
  | inl t ↦ inl (ap (λ b. cond b None (parent_of rows n)) t)
  | inr f ↦ inr (ap (λ b. cond b None (parent_of rows n)) f ∙ e)
]

pub sibling_waits : {M : Type 0} (s t u : Seen M) (n : ℕ) (x : Test) (m at : ℕ) (id : Judged) (xs : List ℕ) (rules : List StripRule) (o : Option ℕ)
    → IsPast s t n axis.FollowingSibling x o at id xs → IsJoined s.steps n
    → sibling_parent (rows_of s.steps) n ≡ o → (o ≡ None) ⊎ (o ≡ Some m)
    → AtStep t.steps u.steps (λ p. (next_shown rules (rows_of p) at ≡ None) × (is_settled p (sibling_parent (rows_of p) at) ≡ false))
    → AtStep s.steps u.steps (λ p. axis_of rules p n axis.FollowingSibling x ≡ Open m)
sibling_waits s t u n x m at id xs rules None w j e c h = absurd (false≢true (sym (sym (ap (is_settled h.0) (sibling_parent_moves t.steps (h.0) at h.1 w.there ∙ w.parent)) ∙ h.3.1)))
sibling_waits s t u n x m at id xs rules (Some k) w j e c h =
    let same : k ≡ m = elim c [ inl f ↦ absurd (some_none k f) | inr f ↦ some_same k m f ] in
    subst (λ i. AtStep s.steps u.steps (λ p. axis_of rules p n axis.FollowingSibling x ≡ Open i)) same
    (next_waits s t u n axis.FollowingSibling x k at id xs rules w (λ p g. sibling_parent_moves s.steps p n (Grows-trans s.steps t.steps p w.goes.moved.grows g) j ∙ e) h)
  where
    some_none : (k : ℕ) → Some k ≡ None → ⊥
    some_none k f = cc

    some_same : (a b : ℕ) → Some a ≡ Some b → a ≡ b
    some_same a b f = cc

pub parent_within : (rows : List Row) (n k : ℕ) → parent_of rows n ≡ Some k → k < length rows
parent_within rows n k e = (parent_before rows n k e).1

pub below_less : (rows : List Row) (k n : ℕ) → is_below rows k n ≡ true → k < n
below_less rows k n h = (below_parts rows k n h).0

pub no_sibling_parent : (rows : List Row) (n : ℕ) → parent_of rows n ≡ None → sibling_parent rows n ≡ None
no_sibling_parent rows n e = elim (cases_Bool (is_attribute (row_at rows n).kind)) [
  | inl t ↦ ap (λ b. cond b None (parent_of rows n)) t
  | inr f ↦ ap (λ b. cond b None (parent_of rows n)) f ∙ e
]

pub parent_or_none_before : {M : Type 0} (s t : Seen M) (n m : ℕ) → Moves s t → IsJoined s.steps n → parent_of (rows_of t.steps) n ≡ Some m
    → (sibling_parent (rows_of s.steps) n ≡ None) ⊎ (sibling_parent (rows_of s.steps) n ≡ Some m)
parent_or_none_before s t n m v j e = parent_or_none (rows_of s.steps) n m (sym (data_stay [] s.steps t.steps n v.grows v.seen.lawful j).parent ∙ e)

pub out_of_memory : {M : Type 0} (s t : Seen M) (n : ℕ) (a : Axis) (x : Test) (result : Result (List ℕ) Ask) → IsErrAnd result (λ e. e ≡ Memory)
    → Answers stop_of (λ rules steps. axis_of rules steps n a x) s t result
out_of_memory s t n a x result h = no_memory (λ rules steps. axis_of rules steps n a x) s t result h
