-- What one more Node step does to the links.
use Rattle.std.proofs.Common.{◌≡◌, ℕ, zero, suc, ◌+◌, ◌-◌, ◌<◌, ◌≤◌, Bool, true, false, cond, not, ◌&&◌, eqb, ltb, List, [], ◌∷◌, ◌++◌, length, Option, Some, None, take, filter, refl, ap, sym, ◌∙◌, arith, length-append, length-take, get_or-take, append-nil, inl, inr, ⊎_elim, ◌⊎◌}
use Rattle.std.proofs.lemmas.Bool.{cases_Bool, cases_lt, cases_eq, lt-ltb, le-ltb, eq-eqb, ne_eqb, and_from, and_right}
use Rattle.std.proofs.lemmas.List.{take_at, get_or_past}
use Rattle.std.proofs.lemmas.List.Elements.{filter-append}
use Rattle.doc_laws.proofs.Standing.{standing_plain}
use Rattle.doc_model.specs.declared.row.Row.{Row}
use Rattle.doc_model.specs.Document.{is_attribute, is_parent}
use Rattle.doc_model.specs.Lawful.{CanJoin, IsAttributeAt}
use Rattle.doc_model.specs.Relations.{parent_of, is_child, children_of, numbers, is_above, last_above_from, is_some_of, first_of, first_child, next_among, next_sibling, sibling_parent}
use Rattle.doc_model.specs.Rows.{root_row, row_at}
use Rattle.doc_laws.proofs.Numbers.{filter_nothing, filter-split, filter_yes, filter_no, filter_before}
use Rattle.doc_laws.proofs.Growth.{row_at_grows, parent_grows, children_below_grows}
use Rattle.doc_laws.proofs.Stack.{StackOf, row_at_seam, row_at_past, attribute_depths}
use Rattle.doc_laws.proofs.Kids.{child_decider}

not_above : (d : ℕ) (r : Row) → d ≤ r.depth → is_above d r ≡ false
not_above d r h = and_right (is_parent r.kind) (eqb (suc r.depth) d) (ne_eqb (suc r.depth) d (λ e. omega arith))

pub last_above_kept : (d n : ℕ) (rows : List Row) (found : Option ℕ) → ((k : ℕ) → k < length rows → d ≤ (row_at rows k).depth) → last_above_from d n rows found ≡ found
last_above_kept d n [] found h = refl
last_above_kept d n (r ∷ rows) found h =
    ap (λ b. last_above_from d (suc n) rows (cond b (Some n) found)) (not_above d r (h 0 (omega arith))) ∙ last_above_kept d (suc n) rows found (λ k l. h (suc k) (omega arith))

pub last_above_found : (d n : ℕ) (rows : List Row) (found : Option ℕ) (o : ℕ) → o < length rows → is_above d (row_at rows o) ≡ true → ((k : ℕ) → o < k → k < length rows → d ≤ (row_at rows k).depth) → last_above_from d n rows found ≡ Some (n + o)
last_above_found d n [] found o l e h = absurd (omega arith)
last_above_found d n (r ∷ rows) found zero l e h =
    let z : n ≡ n + 0 = omega arith in
    ap (λ b. last_above_from d (suc n) rows (cond b (Some n) found)) e ∙ last_above_kept d (suc n) rows (Some n) (λ k m. h (suc k) (omega arith) (omega arith)) ∙ ap (λ k. Some k) z
last_above_found d n (r ∷ rows) found (suc o) l e h =
    let z : suc n + o ≡ n + suc o = omega arith in
    last_above_found d (suc n) rows (cond (is_above d r) (Some n) found) o (omega arith) e (λ k m p. h (suc k) (omega arith) (omega arith)) ∙ ap (λ k. Some k) z

last_above_bound : (d n : ℕ) (rows : List Row) (found : Option ℕ) (j : ℕ) → last_above_from d n rows found ≡ Some j → (found ≡ Some j) ⊎ (j < n + length rows)
last_above_bound d n [] found j h = inl h
last_above_bound d n (r ∷ rows) found j h =
    ⊎_elim {C = (found ≡ Some j) ⊎ (j < n + length (r ∷ rows))}
    (λ e. elim (cases_Bool (is_above d r)) [
      | inl t ↦ let e' : Some n ≡ Some j = sym (ap (λ b. cond b (Some n) found) t) ∙ e in let nj : n ≡ j = cc in inr (omega arith)
      | inr f ↦ inl (sym (ap (λ b. cond b (Some n) found) f) ∙ e)
    ])
    (λ l. inr (omega arith))
    (last_above_bound d (suc n) rows (cond (is_above d r) (Some n) found) j h)

-- a parent stands before
pub parent_before : (rows : List Row) (k n : ℕ) → parent_of rows k ≡ Some n → (n < k) × (n < length rows)
parent_before rows k n h =
    let P : Type 0 = (n < k) × (n < length rows) in
    ⊎_elim {C = P} (λ e. absurd cc) (λ l. (omega (arith, length-take k rows), omega (arith, length-take k rows))) (last_above_bound (row_at rows k).depth 0 (take k rows) None n h)

-- past the last row there is no link
pub next_past : (rows : List Row) (k : ℕ) → length rows ≤ k → next_sibling rows k ≡ None
next_past rows k h =
    ap (λ (r : Row). next_among rows k (cond (is_attribute r.kind) None (last_above_from r.depth 0 (take k rows) None))) (get_or_past rows k root_row h)
    ∙ ap (next_among rows k) (last_above_kept 0 0 (take k rows) None (λ j l. omega arith))

module _ (rows : List Row) (o : ℕ) (os : List ℕ) (row : Row) (attributes : List Row) (stack : StackOf rows (o ∷ os)) (joins : CanJoin (o ∷ os) row attributes) where
  joined_rows : List Row
  joined_rows = rows ++ row ∷ attributes

  pub new_parent : parent_of (rows ++ row ∷ attributes) (length rows) ≡ Some o
  new_parent =
      let at = row_at_seam rows row attributes in
      let z : 0 + o ≡ o = omega arith in
      ap (λ (r : Row). last_above_from r.depth 0 (take (length rows) (rows ++ row ∷ attributes)) None) at
      ∙ ap (λ xs. last_above_from row.depth 0 xs None) (take_at rows (row ∷ attributes) (length rows) refl)
      ∙ last_above_found row.depth 0 rows None o stack.0.within (and_from _ _ stack.0.parent (eq-eqb _ row.depth (omega (arith, stack.0.depth, joins.depth)))) (λ k l m. let b = stack.0.below k l m in omega (arith, b, joins.depth))
      ∙ ap (λ k. Some k) z

  pub attribute_at : (i : ℕ) → i < length attributes → IsAttributeAt row.depth (row_at (rows ++ row ∷ attributes) (length rows + suc i))
  attribute_at i l =
      let e : (length rows + suc i) - length rows ≡ suc i = omega arith in
      let at : row_at (rows ++ row ∷ attributes) (length rows + suc i) ≡ row_at attributes i = row_at_past rows (row ∷ attributes) (length rows + suc i) (omega arith) ∙ ap (row_at (row ∷ attributes)) e in
      rw at (attribute_depths row.depth attributes i joins.carried l)

  bare_row : 0 < length attributes → is_parent row.kind ≡ true
  bare_row h = elim (cases_Bool (is_parent row.kind)) [ inl e ↦ e | inr e ↦ absurd (let l : length attributes ≡ 0 = ap length (joins.bare e) in omega arith) ]

  pub attribute_parent : (i : ℕ) → i < length attributes → parent_of (rows ++ row ∷ attributes) (length rows + suc i) ≡ Some (length rows)
  attribute_parent i l =
      let a = attribute_at i l in
      let n : ℕ = length rows + suc i in
      let all : List Row = rows ++ row ∷ attributes in
      let len : length all ≡ length rows + suc (length attributes) = length-append rows (row ∷ attributes) in
      let lt : length (take n all) ≡ n = length-take n all ∙ omega (arith, len) in
      let seam : row_at (take n all) (length rows) ≡ row = get_or-take n all (length rows) root_row (omega arith) ∙ row_at_seam rows row attributes in
      let z : 0 + length rows ≡ length rows = omega arith in
      ap (λ d. last_above_from d 0 (take n all) None) a.1
      ∙ last_above_found (suc row.depth) 0 (take n all) None (length rows) (omega (arith, lt)) (rw seam (and_from _ _ (bare_row (omega arith)) (eq-eqb (suc row.depth) (suc row.depth) refl)))
      (λ k g m.
      let e : length rows + suc (k - suc (length rows)) ≡ k = omega arith in
      let b = attribute_at (k - suc (length rows)) (omega (arith, lt)) in
      let c : (row_at all k).depth ≡ suc row.depth = sym (ap (λ j. (row_at all j).depth) e) ∙ b.1 in
      rw (get_or-take n all k root_row (omega (arith, lt))) (omega (arith, c)))
      ∙ ap (λ k. Some k) z

  -- the new row is a child of the innermost open row, and of no other
  pub is_child_new : (n : ℕ) → is_child (rows ++ row ∷ attributes) n (length rows) ≡ eqb o n
  is_child_new n =
      let plain : is_attribute row.kind ≡ false = standing_plain row.kind joins.kind in
      ap (λ (r : Row). not (is_attribute r.kind) && is_some_of (parent_of (rows ++ row ∷ attributes) (length rows)) n) (row_at_seam rows row attributes)
      ∙ ap (λ b. not b && is_some_of (parent_of (rows ++ row ∷ attributes) (length rows)) n) plain
      ∙ ap (λ p. is_some_of p n) new_parent

  pub is_child_attribute : (n i : ℕ) → i < length attributes → is_child (rows ++ row ∷ attributes) n (length rows + suc i) ≡ false
  is_child_attribute n i l =
      let a = attribute_at i l in
      ap (λ k. not (is_attribute k) && is_some_of (parent_of (rows ++ row ∷ attributes) (length rows + suc i)) n) a.0

  pub children_join : (n : ℕ) → children_of (rows ++ row ∷ attributes) n ≡ children_of rows n ++ cond (eqb o n) (length rows ∷ []) []
  children_join n =
      let f : ℕ → Bool = is_child (rows ++ row ∷ attributes) n in
      let m : ℕ = length rows in
      let z : 0 + m ≡ m = omega arith in
      let none : filter f (numbers (suc m) (length attributes)) ≡ [] = filter_nothing f (suc m) (length attributes) (λ k l h.
      let e : m + suc (k - suc m) ≡ k = omega arith in
      sym (ap f e) ∙ is_child_attribute n (k - suc m) (omega arith)) in
      let last : filter f (numbers m (suc (length attributes))) ≡ cond (eqb o n) (m ∷ []) [] =
      ap (λ b. cond b (m ∷ filter f (numbers (suc m) (length attributes))) (filter f (numbers (suc m) (length attributes)))) (is_child_new n)
      ∙ ap (λ xs. cond (eqb o n) (m ∷ xs) xs) none in
      ap (λ k. filter f (numbers 0 k)) (length-append rows (row ∷ attributes))
      ∙ filter-split f 0 m (suc (length attributes))
      ∙ ap (λ xs. xs ++ filter f (numbers (0 + m) (suc (length attributes)))) (children_below_grows rows (row ∷ attributes) n m (omega arith))
      ∙ ap (λ k. children_of rows n ++ filter f (numbers k (suc (length attributes)))) z
      ∙ ap (λ xs. children_of rows n ++ xs) last

  -- the links of the rows there were, but for the children of the innermost open row
  pub first_join_other : (n : ℕ) → (o ≡ n → ⊥) → first_child (rows ++ row ∷ attributes) n ≡ first_child rows n
  first_join_other n ne =
      ap first_of (children_join n ∙ ap (λ b. children_of rows n ++ cond b (length rows ∷ []) []) (ne_eqb o n ne) ∙ append-nil (children_of rows n))

  pub first_join_parent : first_child (rows ++ row ∷ attributes) o ≡ first_of (children_of rows o ++ length rows ∷ [])
  first_join_parent = ap first_of (children_join o ∙ ap (λ b. children_of rows o ++ cond b (length rows ∷ []) []) (eq-eqb o o refl))

  pub sibling_parent_grows : (k : ℕ) → k < length rows → sibling_parent (rows ++ row ∷ attributes) k ≡ sibling_parent rows k
  sibling_parent_grows k l =
      ap (λ (r : Row). cond (is_attribute r.kind) None (parent_of (rows ++ row ∷ attributes) k)) (row_at_grows rows (row ∷ attributes) k l)
      ∙ ap (λ p. cond (is_attribute (row_at rows k).kind) None p) (parent_grows rows (row ∷ attributes) k l)

  next_among_other : (k n : ℕ) → (o ≡ n → ⊥) → next_among (rows ++ row ∷ attributes) k (Some n) ≡ next_among rows k (Some n)
  next_among_other k n ne = ap (λ xs. first_of (filter (ltb k) xs)) (children_join n ∙ ap (λ b. children_of rows n ++ cond b (length rows ∷ []) []) (ne_eqb o n ne) ∙ append-nil (children_of rows n))

  next_among_parent : (k : ℕ) → k < length rows → next_among (rows ++ row ∷ attributes) k (Some o) ≡ first_of (filter (ltb k) (children_of rows o) ++ length rows ∷ [])
  next_among_parent k l =
      ap (λ xs. first_of (filter (ltb k) xs)) (children_join o ∙ ap (λ b. children_of rows o ++ cond b (length rows ∷ []) []) (eq-eqb o o refl))
      ∙ ap first_of (filter-append (ltb k) (children_of rows o) (length rows ∷ []))
      ∙ ap (λ xs. first_of (filter (ltb k) (children_of rows o) ++ xs)) (filter_yes (ltb k) (length rows) [] (lt-ltb k (length rows) l))

  -- of a row that is not a child of the innermost open row
  pub next_join_other : (k : ℕ) → k < length rows → (sibling_parent rows k ≡ Some o → ⊥) → next_sibling (rows ++ row ∷ attributes) k ≡ next_sibling rows k
  next_join_other k l ne = ap (next_among (rows ++ row ∷ attributes) k) (sibling_parent_grows k l) ∙ go (sibling_parent rows k) ne
    where
      go : (p : Option ℕ) → (p ≡ Some o → ⊥) → next_among (rows ++ row ∷ attributes) k p ≡ next_among rows k p
      go None h = refl
      go (Some n) h = next_among_other k n (λ e. h (ap (λ j. Some j) (sym e)))

  pub next_join_child : (k : ℕ) → k < length rows → sibling_parent rows k ≡ Some o → next_sibling (rows ++ row ∷ attributes) k ≡ first_of (filter (ltb k) (children_of rows o) ++ length rows ∷ [])
  next_join_child k l e = ap (next_among (rows ++ row ∷ attributes) k) (sibling_parent_grows k l ∙ e) ∙ next_among_parent k l

  -- the new rows have no further siblings
  pub next_join_new : (k : ℕ) → length rows ≤ k → next_sibling (rows ++ row ∷ attributes) k ≡ None
  next_join_new k ge = elim (cases_eq k (length rows)) [
    | inl e ↦ ap (next_sibling (rows ++ row ∷ attributes)) e ∙ ap (next_among (rows ++ row ∷ attributes) (length rows)) (child_decider (rows ++ row ∷ attributes) o (length rows) (is_child_new o ∙ eq-eqb o o refl)) ∙ ap first_of none
    | inr ne ↦ elim (cases_lt k (length rows + suc (length attributes))) [
      | inl lt ↦
          let s : length rows + suc (k - suc (length rows)) ≡ k = omega arith in
          let a = attribute_at (k - suc (length rows)) (omega arith) in
          let b : is_attribute (row_at (rows ++ row ∷ attributes) k).kind ≡ true = sym (ap (λ j. is_attribute (row_at (rows ++ row ∷ attributes) j).kind) s) ∙ ap is_attribute a.0 in
          ap (λ t. next_among (rows ++ row ∷ attributes) k (cond t None (parent_of (rows ++ row ∷ attributes) k))) b
      | inr past ↦ next_past (rows ++ row ∷ attributes) k (omega (arith, length-append rows (row ∷ attributes)))
    ]
  ]
    where
      none : filter (ltb (length rows)) (children_of (rows ++ row ∷ attributes) o) ≡ []
      none =
          let c : children_of (rows ++ row ∷ attributes) o ≡ children_of rows o ++ length rows ∷ [] = children_join o ∙ ap (λ b. children_of rows o ++ cond b (length rows ∷ []) []) (eq-eqb o o refl) in
          ap (filter (ltb (length rows))) c ∙ filter-append (ltb (length rows)) (children_of rows o) (length rows ∷ [])
          ∙ ap (λ xs. xs ++ filter (ltb (length rows)) (length rows ∷ [])) (filter_before (is_child rows o) (length rows) 0 (length rows) (omega arith))
          ∙ filter_no (ltb (length rows)) (length rows) [] (le-ltb (length rows) (length rows) (omega arith))
