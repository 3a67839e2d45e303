-- Subtrees among more rows, and ancestors by parents.
use Rattle.std.proofs.Common.{◌≡◌, ℕ, suc, ◌+◌, ◌<◌, ◌≤◌, Bool, true, false, cond, not, ◌&&◌, ◌||◌, eqb, ltb, List, [], ◌∷◌, ◌++◌, length, Option, Some, None, drop, refl, ap, sym, ◌∙◌, subst, arith, length-drop, inl, inr, ◌⊎◌}
use Rattle.std.proofs.lemmas.Bool.{cases_Bool, cases_lt, cases_eq, and_parts, and_from, or_cases, or_left, or_right, lt-ltb, le-ltb, ltb-true, eqb-true, eq-eqb, not-true, false≢true}
use Rattle.std.proofs.lemmas.List.{drop-append-le}
use Rattle.doc_model.specs.declared.row.Row.{Row}
use Rattle.doc_model.specs.Axes.{is_below, is_descendant}
use Rattle.doc_model.specs.Document.{is_attribute}
use Rattle.doc_model.specs.Relations.{parent_of, deeper, extent_of}
use Rattle.doc_model.specs.Rows.{row_at}
use Rattle.doc_model.specs.Subtree.{IsDescendant}
use Rattle.doc_laws.proofs.Growth.{row_at_grows}
use Rattle.doc_laws.proofs.Links.{parent_before}
use Rattle.doc_laws.proofs.Parents.{parent_is}
use Rattle.doc_laws.proofs.Rooted.{IsRooted}
use Rattle.doc_laws.proofs.Sound.{TreeHolds}
use Rattle.doc_laws.proofs.Subtrees.{extent_deeper, extent_reaches, in_within, within_in}

deeper_kept : (d : ℕ) (xs ys : List Row) → deeper d xs < length xs → deeper d (xs ++ ys) ≡ deeper d xs
deeper_kept d [] ys h = absurd (omega arith)
deeper_kept d (x ∷ xs) ys h = elim (cases_Bool (ltb d x.depth)) [
  | inl t ↦
      let e : deeper d (x ∷ xs) ≡ suc (deeper d xs) = ap (λ b. cond b (suc (deeper d xs)) 0) t in
      ap (λ b. cond b (suc (deeper d (xs ++ ys))) 0) t ∙ ap suc (deeper_kept d xs ys (omega (arith, h, e))) ∙ sym e
  | inr f ↦ ap (λ b. cond b (suc (deeper d (xs ++ ys))) 0) f ∙ sym (ap (λ b. cond b (suc (deeper d xs)) 0) f)
]

deeper_further : (d : ℕ) (xs ys : List Row) → deeper d xs ≤ deeper d (xs ++ ys)
deeper_further d [] ys = omega arith
deeper_further d (x ∷ xs) ys = let r = deeper_further d xs ys in elim (cases_Bool (ltb d x.depth)) [ inl t ↦ rw t (omega arith) | inr f ↦ rw f (omega arith) ]

-- whether a row that is there is in a subtree does not change as rows come
pub below_grows : (rows more : List Row) (k n : ℕ) → k < length rows → n < length rows → is_below (rows ++ more) k n ≡ is_below rows k n
below_grows rows more k n lk ln =
    let d : ℕ = (row_at rows k).depth in
    let xs : List Row = drop (suc k) rows in
    let long = length-drop (suc k) rows in
    let e : extent_of (rows ++ more) k ≡ suc k + deeper d (xs ++ more) =
    ap (λ (r : Row). suc k + deeper r.depth (drop (suc k) (rows ++ more))) (row_at_grows rows more k lk) ∙ ap (λ ys. suc k + deeper d ys) (drop-append-le (suc k) rows more (omega arith)) in
    let same : ltb n (extent_of (rows ++ more) k) ≡ ltb n (extent_of rows k) = elim (cases_lt (deeper d xs) (length xs)) [
      | inl lt ↦ ap (ltb n) (e ∙ ap (λ j. suc k + j) (deeper_kept d xs more lt))
      | inr ge ↦
          lt-ltb n (extent_of (rows ++ more) k) (omega (arith, e, deeper_further d xs more, long, ge))
          ∙ sym (lt-ltb n (extent_of rows k) (omega (arith, long, ge)))
    ] in
    ap (λ b. ltb k n && b) same

pub below_parts : (rows : List Row) (j m : ℕ) → is_below rows j m ≡ true → (j < m) × (m < extent_of rows j)
below_parts rows j m h = let p = and_parts _ _ h in (ltb-true j m p.0, ltb-true m (extent_of rows j) p.1)

pub below_from : (rows : List Row) (j m : ℕ) → j < m → m < extent_of rows j → is_below rows j m ≡ true
below_from rows j m a b = and_from _ _ (lt-ltb j m a) (lt-ltb m (extent_of rows j) b)

pub same_truth : (a b : Bool) → (a ≡ true → b ≡ true) → (b ≡ true → a ≡ true) → a ≡ b
same_truth true b f g = sym (f refl)
same_truth false true f g = g refl
same_truth false false f g = refl

-- row k is the row that is given, or an ancestor of it
abbrev pub is_around : List Row → Option ℕ → ℕ → Bool
is_around rows None k = false
is_around rows (Some n) k = eqb n k || is_below rows k n

module _ (rows : List Row) (t : TreeHolds rows) where
  parent_depth : (m p : ℕ) → m < length rows → parent_of rows m ≡ Some p → (row_at rows m).depth ≡ suc (row_at rows p).depth
  parent_depth m p l h = sym (eqb-true (suc (row_at rows p).depth) (row_at rows m).depth (and_parts _ _ (parent_is rows m p l h).above).1)

  -- in the subtrees that the parent is in, and the parent's own
  up_in : (m p j : ℕ) → m < length rows → parent_of rows m ≡ Some p → j < m → m < extent_of rows j → (p ≡ j) ⊎ ((j < p) × (p < extent_of rows j))
  up_in m p j l h a b =
      let before = parent_before rows m p h in
      let deep = extent_deeper rows j m a b in
      let d = parent_depth m p l h in
      elim (cases_lt p j) [
        | inl lt ↦ absurd (let c = t.contains m p j l h lt (omega arith) in omega (arith, c, d, deep))
        | inr ge ↦ elim (cases_eq p j) [ inl e ↦ inl e | inr ne ↦ inr (omega arith, omega (arith, before.0)) ]
      ]

  in_up : (m p j : ℕ) → m < length rows → parent_of rows m ≡ Some p → m < extent_of rows p
  in_up m p j l h = extent_reaches rows p m (parent_before rows m p h).0 l (λ i a b. t.contains m p i l h a b)

  down_in : (m p j : ℕ) → m < length rows → parent_of rows m ≡ Some p → j < p → p < extent_of rows j → m < extent_of rows j
  down_in m p j l h a b =
      let before = parent_before rows m p h in
      let deep = extent_deeper rows j p a b in
      extent_reaches rows j m (omega (arith, before.0)) l (λ i c d. elim (cases_lt p i) [
        | inl lt ↦ let e = t.contains m p i l h lt d in omega (arith, deep, e)
        | inr ge ↦ extent_deeper rows j i c (omega arith)
      ])

  ancestor_up : (m p j : ℕ) → m < length rows → parent_of rows m ≡ Some p → is_below rows j m ≡ is_around rows (Some p) j
  ancestor_up m p j l h = same_truth (is_below rows j m) (is_around rows (Some p) j)
      (λ e. let b = below_parts rows j m e in elim (up_in m p j l h b.0 b.1) [
        | inl s ↦ or_left (eqb p j) (is_below rows j p) (eq-eqb p j s)
        | inr i ↦ or_right (eqb p j) (is_below rows j p) (below_from rows j p i.0 i.1)
      ])
      (λ e. let before = parent_before rows m p h in elim (or_cases (eqb p j) (is_below rows j p) e) [
        | inl s ↦ let same = eqb-true p j s in subst (λ i. is_below rows i m ≡ true) same (below_from rows p m before.0 (in_up m p j l h))
        | inr i ↦ let b = below_parts rows j p i in below_from rows j m (omega (arith, b.0, before.0)) (down_in m p j l h b.0 b.1)
      ])

  -- the ancestors of a row are its parent and the ancestors of that
  pub ancestors_by_parent : IsRooted rows → (m j : ℕ) (o : Option ℕ) → m < length rows → parent_of rows m ≡ o → is_below rows j m ≡ is_around rows o j
  ancestors_by_parent r m j None l h = let z = r.alone m l h in ap (λ b. b && ltb m (extent_of rows j)) (le-ltb j m (omega arith))
  ancestors_by_parent r m j (Some p) l h = ancestor_up m p j l h

  pub ancestor_words : IsRooted rows → (n k : ℕ) (o : Option ℕ) → n < length rows → parent_of rows n ≡ o → is_below rows k n ≡ true → (parent_of rows n ≡ Some k) ⊎ ((m : ℕ) × (parent_of rows n ≡ Some m) × (is_below rows k m ≡ true))
  ancestor_words r n k None l h e = absurd (false≢true (sym (ancestors_by_parent r n k None l h) ∙ e))
  ancestor_words r n k (Some m) l h e = elim (or_cases (eqb m k) (is_below rows k m) (sym (ancestors_by_parent r n k (Some m) l h) ∙ e)) [
    | inl s ↦ inl (h ∙ ap (λ i. Some i) (eqb-true m k s))
    | inr b ↦ inr (m, h, b)
  ]

  pub words_ancestor : IsRooted rows → (n k : ℕ) → n < length rows → (parent_of rows n ≡ Some k) ⊎ ((m : ℕ) × (parent_of rows n ≡ Some m) × (is_below rows k m ≡ true)) → is_below rows k n ≡ true
  words_ancestor r n k l x = elim x [
    | inl e ↦ ancestors_by_parent r n k (Some k) l e ∙ or_left (eqb k k) (is_below rows k k) (eq-eqb k k refl)
    | inr w ↦ ancestors_by_parent r n k (Some (w.0)) l w.1 ∙ or_right (eqb (w.0) k) (is_below rows k (w.0)) w.2
  ]

  -- descendants by the extent, and in words
  pub descendant_words : (n k : ℕ) → n < length rows → k < length rows → is_descendant rows n k ≡ true → IsDescendant rows n k
  descendant_words n k ln lk h =
      let p = and_parts _ _ h in
      let plain = not-true (is_attribute (row_at rows k).kind) p.0 in
      let b = below_parts rows n k p.1 in
      elim (within_in rows t n k ln lk (omega (arith, b.0)) b.1) [
        | inl x ↦ elim x [ inl e ↦ absurd (omega (arith, b.0, e)) | inr d ↦ d ]
        | inr w ↦ absurd (false≢true (sym plain ∙ w.2.attribute))
      ]

  pub words_descendant : (n k : ℕ) → n < length rows → k < length rows → IsDescendant rows n k → is_descendant rows n k ≡ true
  words_descendant n k ln lk d = and_from _ _ (ap not d.node) (below_from rows n k d.later (in_within rows t n k ln lk (inl (inr d))).1)
