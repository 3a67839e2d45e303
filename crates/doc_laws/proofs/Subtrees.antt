-- Children, and the subtree up to the extent, on the rows of a lawful list.
use Rattle.std.proofs.Common.{◌≡◌, ℕ, zero, suc, ◌+◌, ◌-◌, ◌<◌, ◌≤◌, true, false, cond, not, ◌&&◌, eqb, List, [], ◌∷◌, length, Some, drop, refl, ap, sym, ◌∙◌, arith, length-drop, get_or-drop, inl, inr}
use Rattle.std.proofs.lemmas.Bool.{cases_Bool, cases_lt, cases_eq, and_parts, and_from, and_right, lt-ltb, le-ltb, eqb-true, eq-eqb, ne_eqb, not-true, false≢true}
use Rattle.doc_model.specs.declared.row.Kind.{Kind}
use Rattle.doc_model.specs.declared.row.Kind.TheVariants.{Root, Element, Attribute, Text, Instruction, Comment, Comment}
use Rattle.doc_model.specs.declared.row.Row.{Row}
use Rattle.doc_model.specs.Document.{is_attribute, is_parent}
use Rattle.doc_model.specs.Relations.{parent_of, is_child, is_some_of, deeper, extent_of}
use Rattle.doc_model.specs.Rows.{root_row, row_at}
use Rattle.doc_model.specs.Subtree.{IsDescendant, IsChild, IsNodeIn, IsAttributeOf, IsIn}
use Rattle.doc_laws.proofs.Kids.{is_some_of-true}
use Rattle.doc_laws.proofs.Links.{parent_before}
use Rattle.doc_laws.proofs.Parents.{parent_is, parent_from}
use Rattle.doc_laws.proofs.Sound.{TreeHolds, IsAfter}

pub parent_plain : (k : Kind) → is_parent k ≡ true → is_attribute k ≡ false
parent_plain Root h = refl
parent_plain Element h = refl
parent_plain Attribute h = absurd (false≢true h)
parent_plain Text h = refl
parent_plain Instruction h = refl
parent_plain Comment h = refl

deeper_more : (d : ℕ) (r : Row) (rows : List Row) → d < r.depth → deeper d (r ∷ rows) ≡ suc (deeper d rows)
deeper_more d r rows lt = ap (λ b. cond b (suc (deeper d rows)) 0) (lt-ltb d r.depth lt)

deeper_stop : (d : ℕ) (r : Row) (rows : List Row) → r.depth ≤ d → deeper d (r ∷ rows) ≡ 0
deeper_stop d r rows ge = ap (λ b. cond b (suc (deeper d rows)) 0) (le-ltb d r.depth ge)

-- the rows of a run are deeper, and the run is as long as they are
deeper_run : (d : ℕ) (rows : List Row) (i : ℕ) → i < deeper d rows → d < (row_at rows i).depth
deeper_run d [] i h = absurd (omega arith)
deeper_run d (r ∷ rows) zero h = elim (cases_lt d r.depth) [ inl lt ↦ lt | inr ge ↦ absurd (omega (arith, h, deeper_stop d r rows ge)) ]
deeper_run d (r ∷ rows) (suc i) h = elim (cases_lt d r.depth) [
  | inl lt ↦ deeper_run d rows i (omega (arith, h, deeper_more d r rows lt))
  | inr ge ↦ absurd (omega (arith, h, deeper_stop d r rows ge))
]

deeper_reaches : (d : ℕ) (rows : List Row) (i : ℕ) → i < length rows → ((j : ℕ) → j ≤ i → d < (row_at rows j).depth) → i < deeper d rows
deeper_reaches d [] i l h = absurd (omega arith)
deeper_reaches d (r ∷ rows) zero l h = omega (arith, deeper_more d r rows (h 0 (omega arith)))
deeper_reaches d (r ∷ rows) (suc i) l h =
    let s = deeper_reaches d rows i (omega arith) (λ j a. h (suc j) (omega arith)) in
    omega (arith, s, deeper_more d r rows (h 0 (omega arith)))

-- within the extent all rows are deeper, and as far as they are the extent goes
pub extent_deeper : (rows : List Row) (n k : ℕ) → n < k → k < extent_of rows n → (row_at rows n).depth < (row_at rows k).depth
extent_deeper rows n k l h =
    let e : suc n + (k - suc n) ≡ k = omega arith in
    let r = deeper_run (row_at rows n).depth (drop (suc n) rows) (k - suc n) (omega arith) in
    let at : row_at (drop (suc n) rows) (k - suc n) ≡ row_at rows k = get_or-drop (suc n) rows (k - suc n) root_row ∙ ap (row_at rows) e in
    omega (arith, r, ap (λ (q : Row). q.depth) at)

pub extent_reaches : (rows : List Row) (n k : ℕ) → n < k → k < length rows → ((j : ℕ) → n < j → j ≤ k → (row_at rows n).depth < (row_at rows j).depth) → k < extent_of rows n
extent_reaches rows n k l m h =
    let r = deeper_reaches (row_at rows n).depth (drop (suc n) rows) (k - suc n) (omega (arith, length-drop (suc n) rows)) (λ j a.
    let at = get_or-drop (suc n) rows j root_row in
    let b = h (suc n + j) (omega arith) (omega arith) in
    omega (arith, b, ap (λ (q : Row). q.depth) at)) in
    omega (arith, r)

-- a child by its parent is a descendant of depth one more
pub child_is : (rows : List Row) (n k : ℕ) → TreeHolds rows → k < length rows → is_child rows n k ≡ true → IsChild rows n k
child_is rows n k t l h =
    let p = and_parts _ _ h in
    let up : parent_of rows k ≡ Some n = is_some_of-true (parent_of rows k) n p.1 in
    let q = parent_is rows k n l up in
    let above = and_parts _ _ q.above in
    record {
      descendant = record {
        parent = t.parents k n l up;
        node = not-true _ p.0;
        later = q.earlier;
        before = λ j a b f. t.contains k n j l up a b;
      };
      depth = sym (eqb-true (suc (row_at rows n).depth) (row_at rows k).depth above.1);
    }

pub child_from : (rows : List Row) (n k : ℕ) → k < length rows → IsChild rows n k → is_child rows n k ≡ true
child_from rows n k l c =
    let d = c.descendant in
    let up : parent_of rows k ≡ Some n = parent_from rows k n l (record {
      earlier = d.later;
      above = and_from _ _ d.parent (eq-eqb (suc (row_at rows n).depth) (row_at rows k).depth (sym c.depth));
      greatest = λ j a b. elim (cases_Bool (is_attribute (row_at rows j).kind)) [
        | inl e ↦ elim (cases_Bool (is_parent (row_at rows j).kind)) [
          | inl f ↦ absurd (false≢true (sym (parent_plain (row_at rows j).kind f) ∙ e))
          | inr f ↦ ap (λ b. b && eqb (suc (row_at rows j).depth) (row_at rows k).depth) f
        ]
        | inr e ↦
            let deep = d.before j a (omega arith) e in
            and_right (is_parent (row_at rows j).kind) (eqb (suc (row_at rows j).depth) (row_at rows k).depth) (ne_eqb _ _ (λ s. omega (arith, deep, s, c.depth)))
      ];
    }) in
    and_from _ _ (ap not d.node) (ap (λ o. is_some_of o n) up ∙ eq-eqb n n refl)

module _ (rows : List Row) (t : TreeHolds rows) where
  -- no row that may have children stands between an attribute and its element
  owner_from : (n k : ℕ) → is_parent (row_at rows n).kind ≡ true → n < k → k < length rows → (a : IsAfter rows k) → n ≤ a.owner
  owner_from n k p l m a = elim (cases_lt a.owner n) [
    | inl lt ↦ absurd (false≢true (sym (parent_plain (row_at rows n).kind p) ∙ a.between n lt (omega arith)))
    | inr ge ↦ ge
  ]

  attribute_deep : (k m : ℕ) → k < length rows → parent_of rows k ≡ Some m → (row_at rows k).depth ≡ suc (row_at rows m).depth
  attribute_deep k m l h = sym (eqb-true (suc (row_at rows m).depth) (row_at rows k).depth (and_parts _ _ (parent_is rows k m l h).above).1)

  -- all rows up to a descendant are deeper, attributes too
  descendant_deep : (n k : ℕ) → k < length rows → IsDescendant rows n k → (j : ℕ) → n < j → j ≤ k → (row_at rows n).depth < (row_at rows j).depth
  descendant_deep n k l d j a b = elim (cases_Bool (is_attribute (row_at rows j).kind)) [
    | inr e ↦ d.before j a b e
    | inl e ↦
        let f = t.follow j (omega arith) e in
        let o = owner_from n j d.parent a (omega arith) f in
        let up = parent_before rows j f.owner f.parent in
        let deep = attribute_deep j f.owner (omega arith) f.parent in
        elim (cases_eq f.owner n) [
          | inl s ↦ let q = ap (λ i. (row_at rows i).depth) s in omega (arith, deep, q)
          | inr ne ↦
              let plain = parent_plain (row_at rows f.owner).kind (t.parents j f.owner (omega arith) f.parent) in
              let c = d.before f.owner (omega arith) (omega (arith, up.0)) plain in
              omega (arith, deep, c)
        ]
  ]

  -- so the extent of n goes past each row of its subtree
  node_within : (n m : ℕ) → n < length rows → m < length rows → IsNodeIn rows n m → m < extent_of rows n
  node_within n m l k x = elim x [
    | inl e ↦ omega arith
    | inr d ↦ extent_reaches rows n m d.later k (descendant_deep n m k d)
  ]

  node_depth : (n m : ℕ) → m < length rows → IsNodeIn rows n m → (n ≤ m) × ((row_at rows n).depth ≤ (row_at rows m).depth)
  node_depth n m k x = elim x [
    | inl e ↦ (omega arith, let q = ap (λ i. (row_at rows i).depth) e in omega arith)
    | inr d ↦ let b = d.before m d.later (omega arith) d.node in let c = d.later in (omega arith, omega arith)
  ]

  attribute_within : (n m k : ℕ) → n < length rows → k < length rows → IsNodeIn rows n m → IsAttributeOf rows m k → (n < k) × (k < extent_of rows n)
  attribute_within n m k l i x a =
      let up = parent_before rows k m a.parent in
      let x' = node_depth n m up.1 x in
      let mp = t.parents k m i a.parent in
      let in_m = node_within n m l up.1 x in (
        omega (arith, up.0, x'.0),
        extent_reaches rows n k (omega (arith, up.0, x'.0)) i (λ j p q.
            elim (cases_lt m j) [
              | inl mj ↦
                  let f = t.follow k i a.attribute in
                  let same : f.owner ≡ m = owner_is k f.owner m f.parent a.parent in
                  let aj = f.between j (omega arith) q in
                  let g = t.follow j (omega arith) aj in
                  let ge = owner_from m j mp mj (omega arith) g in
                  let up' = parent_before rows j g.owner g.parent in
                  let deep = attribute_deep j g.owner (omega arith) g.parent in
                  elim (cases_eq g.owner m) [
                    | inl s ↦ let e = ap (λ i. (row_at rows i).depth) s in omega (arith, deep, e, x'.1)
                    | inr ne ↦ absurd (false≢true (sym (parent_plain (row_at rows g.owner).kind (t.parents j g.owner (omega arith) g.parent)) ∙ f.between g.owner (omega arith) (omega (arith, up'.0))))
                  ]
              | inr jm ↦ extent_deeper rows n j p (omega (arith, in_m))
            ]),
      )
    where
      owner_is : (k a b : ℕ) → parent_of rows k ≡ Some a → parent_of rows k ≡ Some b → a ≡ b
      owner_is k a b g h = let e : Some a ≡ Some b = sym g ∙ h in cc

  pub in_within : (n k : ℕ) → n < length rows → k < length rows → IsIn rows n k → (n ≤ k) × (k < extent_of rows n)
  in_within n k l i x = elim x [
    | inl y ↦ ((node_depth n k i y).0, node_within n k l i y)
    | inr z ↦ let r = attribute_within n (z.0) k l i (z.1) (z.2) in (omega (arith, r.0), r.1)
  ]

  -- and all rows up to it are of the subtree
  descendant_at : (n k : ℕ) → k < length rows → is_parent (row_at rows n).kind ≡ true → n < k → k < extent_of rows n → is_attribute (row_at rows k).kind ≡ false → IsDescendant rows n k
  descendant_at n k i p l e a = record { parent = p; node = a; later = l; before = λ j q r f. extent_deeper rows n j q (omega arith) }

  pub within_in : (n k : ℕ) → n < length rows → k < length rows → n ≤ k → k < extent_of rows n → IsIn rows n k
  within_in n k l i le lt = elim (cases_eq k n) [
    | inl e ↦ inl (inl e)
    | inr ne ↦ elim (cases_Bool (is_parent (row_at rows n).kind)) [
      | inr leaf ↦ absurd (let z = t.leaves n l leaf in omega arith)
      | inl p ↦ elim (cases_Bool (is_attribute (row_at rows k).kind)) [
        | inr a ↦ inl (inr (descendant_at n k i p (omega arith) lt a))
        | inl a ↦
            let f = t.follow k i a in
            let ge = owner_from n k p (omega arith) i f in
            let up = parent_before rows k f.owner f.parent in
            let node : IsNodeIn rows n f.owner = elim (cases_eq f.owner n) [
              | inl s ↦ inl s
              | inr far ↦ inr (descendant_at n f.owner up.1 p (omega arith) (omega (arith, up.0)) (parent_plain (row_at rows f.owner).kind (t.parents k f.owner i f.parent)))
            ] in
            inr (f.owner, node, record { attribute = a; parent = f.parent })
      ]
    ]
  ]
