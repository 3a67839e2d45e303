-- Where the children of a row stand: the first behind its attributes, each next where the subtree of the last ends.
use Rattle.std.proofs.Common.{◌≡◌, ℕ, suc, ◌<◌, ◌≤◌, true, false, cond, List, [], ◌∷◌, length, Option, Some, None, drop, refl, ap, sym, ◌∙◌, arith, length-drop, get_or-drop, inl, inr}
use Rattle.std.proofs.lemmas.Bool.{cases_Bool, cases_lt, cases_eq, and_parts, eqb-true, not-true, false≢true, lt-ltb, le-ltb}
use Rattle.doc_model.specs.declared.row.Row.{Row}
use Rattle.doc_model.specs.Document.{is_attribute, is_parent}
use Rattle.doc_model.specs.Relations.{parent_of, is_child, deeper, extent_of}
use Rattle.doc_model.specs.Rows.{root_row, row_at}
use Rattle.doc_laws.proofs.Ends.{extent_le}
use Rattle.doc_laws.proofs.Kids.{is_some_of-true}
use Rattle.doc_laws.proofs.Parents.{parent_is}
use Rattle.doc_laws.proofs.Subtrees.{parent_plain, extent_deeper, child_is, child_from, in_within}
use Rattle.copy_meaning.specs.Passes.{depth_at}
use Rattle.copy_meaning.proofs.Documents.{IsDocument}

-- where a run of deeper rows ends, a row stands that is not deeper
deeper_stops : (d : ℕ) (rows : List Row) → deeper d rows < length rows → (row_at rows (deeper d rows)).depth ≤ d
deeper_stops d [] l = absurd (omega arith)
deeper_stops d (r ∷ rows) l = elim (cases_lt d r.depth) [
  | inl lt ↦
      let more : deeper d (r ∷ rows) ≡ suc (deeper d rows) = ap (λ b. cond b (suc (deeper d rows)) 0) (lt-ltb d r.depth lt) in
      let h = deeper_stops d rows (omega (arith, l, more)) in
      omega (arith, h, ap (λ k. (row_at (r ∷ rows) k).depth) more)
  | inr ge ↦
      let none : deeper d (r ∷ rows) ≡ 0 = ap (λ b. cond b (suc (deeper d rows)) 0) (le-ltb d r.depth ge) in
      omega (arith, ge, ap (λ k. (row_at (r ∷ rows) k).depth) none)
]

pub extent_stops : (rows : List Row) (n : ℕ) → extent_of rows n < length rows → depth_at rows (extent_of rows n) ≤ depth_at rows n
extent_stops rows n l =
    let d : ℕ = depth_at rows n in
    let h = deeper_stops (depth_at rows n) (drop (suc n) rows) (omega (arith, l, length-drop (suc n) rows)) in
    omega (arith, h, ap (λ (r : Row). r.depth) (get_or-drop (suc n) rows (deeper (depth_at rows n) (drop (suc n) rows)) root_row))

no_parent : (n k : ℕ) → None ≡ Some k → ⊥
no_parent n k e = cc

module _ (rows : List Row) (doc : IsDocument rows) where
  -- a parent stands before its children, with depth one less
  pub parent_depth : (k p : ℕ) → k < length rows → parent_of rows k ≡ Some p → (p < k) × (depth_at rows k ≡ suc (depth_at rows p))
  parent_depth k p l h =
      let q = parent_is rows k p l h in
      (q.earlier, sym (eqb-true (suc (depth_at rows p)) (depth_at rows k) (and_parts _ _ q.above).1))

  pub child_parent : (m k : ℕ) → is_child rows m k ≡ true → parent_of rows k ≡ Some m
  child_parent m k h = is_some_of-true (parent_of rows k) m (and_parts _ _ h).1

  pub child_plain : (m k : ℕ) → is_child rows m k ≡ true → is_attribute (row_at rows k).kind ≡ false
  child_plain m k h = not-true _ (and_parts _ _ h).0

  pub child_within : (m k : ℕ) → m < length rows → k < length rows → is_child rows m k ≡ true → k < extent_of rows m
  child_within m k lm lk h = (in_within rows doc.tree m k lm lk (inl (inr (child_is rows m k doc.tree lk h).descendant))).1

  -- a subtree ends in that of the parent
  pub child_ends : (m c : ℕ) → m < length rows → c < length rows → is_child rows m c ≡ true → extent_of rows c ≤ extent_of rows m
  child_ends m c lm lc h = elim (cases_lt (extent_of rows m) (extent_of rows c)) [
    | inr le ↦ le
    | inl lt ↦
        let e = extent_le rows c lc in
        let w = child_within m c lm lc h in
        let deep = extent_deeper rows c (extent_of rows m) w lt in
        let flat = extent_stops rows m (omega (arith, lt, e)) in
        absurd (omega (arith, deep, flat, (parent_depth c m lc (child_parent m c h)).1))
  ]

  -- inside the subtree of a child there is no other child
  pub child_alone : (m c k : ℕ) → c < length rows → is_child rows m c ≡ true → c < k → k < extent_of rows c → is_child rows m k ≡ false
  child_alone m c k lc h a b = elim (cases_Bool (is_child rows m k)) [
    | inr e ↦ e
    | inl e ↦
        let lk : k < length rows = omega (arith, b, extent_le rows c lc) in
        absurd (omega (arith, extent_deeper rows c k a b, (parent_depth c m lc (child_parent m c h)).1, (parent_depth k m lk (child_parent m k e)).1))
  ]

  -- where the subtree of a child ends, the next child stands
  pub child_next : (m c : ℕ) → m < length rows → c < length rows → is_child rows m c ≡ true → extent_of rows c < extent_of rows m → is_child rows m (extent_of rows c) ≡ true
  child_next m c lm lc h past =
      let y : ℕ = extent_of rows c in
      let ly : extent_of rows c < length rows = omega (arith, past, extent_le rows m lm) in
      let up = parent_depth c m lc (child_parent m c h) in
      let flat = extent_stops rows c ly in
      let deep = extent_deeper rows m (extent_of rows c) (omega (arith, up.0)) past in
      child_from rows m (extent_of rows c) ly (record {
        descendant = record {
          parent = doc.tree.parents c m lc (child_parent m c h);
          node = plain ly (omega (arith, flat, up.1));
          later = omega (arith, up.0);
          before = λ j a b f. extent_deeper rows m j a (omega (arith, b, past));
        };
        depth = omega (arith, flat, deep, up.1);
      })
    where
      -- an attribute there would belong to a row of the child's subtree
      plain : extent_of rows c < length rows → depth_at rows (extent_of rows c) ≤ suc (depth_at rows m) → is_attribute (row_at rows (extent_of rows c)).kind ≡ false
      plain ly flat = elim (cases_Bool (is_attribute (row_at rows (extent_of rows c)).kind)) [
        | inr e ↦ e
        | inl e ↦
            let f = doc.tree.follow (extent_of rows c) ly e in
            let up = parent_depth (extent_of rows c) f.owner ly f.parent in
            let own = parent_depth c m lc (child_parent m c h) in
            elim (cases_lt f.owner c) [
              | inl lt ↦ absurd (false≢true (sym (child_plain m c h) ∙ f.between c lt (omega arith)))
              | inr ge ↦ elim (cases_eq f.owner c) [
                | inl same ↦ absurd (omega (arith, flat, up.1, own.1, ap (depth_at rows) same))
                | inr ne ↦ absurd (omega (arith, flat, up.1, own.1, extent_deeper rows c f.owner (omega arith) up.0))
              ]
            ]
      ]

  -- behind the attributes of a row its first child stands
  pub child_first : (m j : ℕ) → m < length rows → is_parent (row_at rows m).kind ≡ true → m < j → j < extent_of rows m
      → ((i : ℕ) → m < i → i < j → is_attribute (row_at rows i).kind ≡ true) → is_attribute (row_at rows j).kind ≡ false → is_child rows m j ≡ true
  child_first m j lm par a b before plain =
      let lj : j < length rows = omega (arith, b, extent_le rows m lm) in
      found (parent_of rows j) refl lj
    where
      found : (o : Option ℕ) → parent_of rows j ≡ o → j < length rows → is_child rows m j ≡ true
      found None e lj = absurd (let z = doc.rooted.alone j lj e in omega arith)
      found (Some p) e lj =
          let up = parent_depth j p lj e in
          let deep = extent_deeper rows m j a b in
          child_from rows m j lj (record {
            descendant = record {
              parent = par;
              node = plain;
              later = a;
              before = λ i q r f. extent_deeper rows m i q (omega (arith, r, b));
            };
            depth = elim (cases_lt p m) [
              | inl lt ↦ absurd (omega (arith, doc.tree.contains j p m lj e lt (omega arith), up.1, deep))
              | inr ge ↦ elim (cases_eq p m) [
                | inl same ↦ up.1 ∙ ap (λ i. suc (depth_at rows i)) same
                | inr ne ↦ absurd (false≢true (sym (parent_plain (row_at rows p).kind (doc.tree.parents j p lj e)) ∙ before p (omega arith) up.0))
              ]
            ];
          })
