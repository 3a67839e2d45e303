-- One step of a table of words.
use Rattle.std.proofs.Common.{◌≡◌, ℕ, zero, suc, ◌+◌, ◌-◌, ◌<◌, ◌≤◌, Bool, true, false, cond, not, ◌&&◌, ◌||◌, eqb, ltb, List, [], ◌∷◌, ◌++◌, length, Option, Some, None, drop, set, filter, refl, ap, sym, ◌∙◌, arith, length-append, length-drop, get_or-drop, inl, inr, ◌⊎◌}
use Rattle.std.proofs.lemmas.Bool.{cases_Bool, cases_lt, cases_order, cases_eq, le-ltb, eq-eqb, eqb-true, ne_eqb, false≢true, or_cases}
use Rattle.std.proofs.lemmas.List.{get_or-set_same, get_or-set_other, drop-append-le}
use Rattle.doc_model.specs.declared.row.Row.{Row}
use Rattle.doc_model.specs.Document.{is_attribute, is_parent, is_member}
use Rattle.doc_model.specs.Lawful.{CanJoin}
use Rattle.doc_model.specs.Relations.{is_child, children_of, numbers, parent_of, is_some_of, first_of, first_child, next_among, next_sibling, sibling_parent, extent_of, deeper}
use Rattle.doc_model.specs.Rows.{root_row, row_at}
use Rattle.doc_laws.specs.Words.{link_of, LinksHold, ExtentsHold}
use Rattle.doc_laws.proofs.Numbers.{filter_none_no, first_none, after_of, first_or_none, first_of-append}
use Rattle.doc_laws.proofs.Growth.{row_at_grows}
use Rattle.doc_laws.proofs.Stack.{StackOf, stack_covers, row_at_seam, deeper-append}
use Rattle.doc_laws.proofs.Kids.{child_decider}
use Rattle.doc_laws.proofs.Links.{attribute_at, first_join_other, first_join_parent, next_join_other, next_join_child, next_join_new, next_past}

-- a child of n, by what decides its siblings
decider_child : (rows : List Row) (n k : ℕ) → sibling_parent rows k ≡ Some n → is_child rows n k ≡ true
decider_child rows n k h = elim (cases_Bool (is_attribute (row_at rows k).kind)) [
  | inl e ↦ absurd (no (sym (ap (λ b. cond b None (parent_of rows k)) e) ∙ h))
  | inr e ↦
      let p : parent_of rows k ≡ Some n = sym (ap (λ b. cond b None (parent_of rows k)) e) ∙ h in
      ap (λ b. not b && is_some_of (parent_of rows k) n) e ∙ ap (λ o. is_some_of o n) p ∙ eq-eqb n n refl
]
  where
    no : None ≡ Some n → ⊥
    no e = cc

-- among the children of a row at most one has no sibling after it
last_is_one : (rows : List Row) (n j k : ℕ) → j < k → k < length rows → is_child rows n k ≡ true → first_of (filter (ltb j) (children_of rows n)) ≡ None → ⊥
last_is_one rows n j k lt l c h =
    let e : filter (is_child rows n) (numbers (suc j) (length rows - suc j)) ≡ [] = sym (after_of (is_child rows n) j (length rows) (omega arith)) ∙ first_none (filter (ltb j) (children_of rows n)) h in
    let f = filter_none_no (is_child rows n) (suc j) (length rows - suc j) k e (omega arith) (omega arith) in
    false≢true (sym f ∙ c)

is_or_not : (o : ℕ) (p : Option ℕ) → (p ≡ Some o) ⊎ (p ≡ Some o → ⊥)
is_or_not o None = inr (λ e. cc)
is_or_not o (Some m) = elim (cases_eq m o) [ inl e ↦ inl (ap (λ j. Some j) e) | inr ne ↦ inr (λ e. ne cc) ]

or_none : (a b : Bool) → (a || b) ≡ false → (a ≡ false) × (b ≡ false)
or_none true b h = absurd (false≢true (sym h))
or_none false b h = (refl, h)

child_is_there : (rows : List Row) (n k : ℕ) → k < length rows → is_child rows n k ≡ true → children_of rows n ≡ [] → ⊥
child_is_there rows n k l c h = false≢true (sym (filter_none_no (is_child rows n) 0 (length rows) k h (omega arith) (omega arith)) ∙ c)

module _ (rows : List Row) (o : ℕ) (os : List ℕ) (row : Row) (attributes : List Row) (stack : StackOf rows (o ∷ os)) (joins : CanJoin (o ∷ os) row attributes) (first next : List ℕ) (links : LinksHold rows first next) where
  linked : link_of (length rows) ≡ Some (length rows)
  linked = positive (length rows) (omega (arith, stack.0.within))
    where
      positive : (n : ℕ) → 0 < n → link_of n ≡ Some n
      positive zero h = absurd (omega arith)
      positive (suc n) h = refl

  -- the first child of the innermost open row is joined
  pub join_first : children_of rows o ≡ [] → o < length first → LinksHold (rows ++ row ∷ attributes) (set first o (length rows)) next
  join_first none fits = record {
    firsts = λ n. elim (cases_eq n o) [
      | inl e ↦ rw e (ap link_of (get_or-set_same first o (length rows) 0 fits) ∙ linked ∙ sym (first_join_parent rows o os row attributes stack joins ∙ ap (λ xs. first_of (xs ++ length rows ∷ [])) none))
      | inr ne ↦ ap link_of (get_or-set_other first o n (length rows) 0 ne) ∙ links.firsts n ∙ sym (first_join_other rows o os row attributes stack joins n (λ e. ne (sym e)))
    ];
    nexts = λ k. elim (cases_lt k (length rows)) [
      | inl lt ↦ links.nexts k ∙ sym (next_join_other rows o os row attributes stack joins k lt (λ e. child_is_there rows o k lt (decider_child rows o k e) none))
      | inr ge ↦ links.nexts k ∙ next_past rows k ge ∙ sym (next_join_new rows o os row attributes stack joins k ge)
    ];
  }

  -- a further child of the innermost open row is joined, after the last one
  pub join_next : (last : ℕ) → is_child rows o last ≡ true → last < length rows → next_sibling rows last ≡ None → last < length next → LinksHold (rows ++ row ∷ attributes) first (set next last (length rows))
  join_next last child within none fits =
      let d = child_decider rows o last child in
      let alone : first_of (filter (ltb last) (children_of rows o)) ≡ None = sym (ap (next_among rows last) d) ∙ none in
      record {
        firsts = λ n. elim (cases_eq n o) [
          | inl e ↦ rw e (links.firsts o ∙ go_first ∙ sym (first_join_parent rows o os row attributes stack joins))
          | inr ne ↦ links.firsts n ∙ sym (first_join_other rows o os row attributes stack joins n (λ e. ne (sym e)))
        ];
        nexts = λ k. elim (cases_eq k last) [
          | inl e ↦ rw e (ap link_of (get_or-set_same next last (length rows) 0 fits) ∙ linked
              ∙ sym (next_join_child rows o os row attributes stack joins last within d ∙ ap (λ xs. first_of (xs ++ length rows ∷ [])) (first_none (filter (ltb last) (children_of rows o)) alone)))
          | inr ne ↦ ap link_of (get_or-set_other next last k (length rows) 0 ne) ∙ links.nexts k ∙ go_next k ne alone
        ];
      }
    where
      go_first : first_child rows o ≡ first_of (children_of rows o ++ length rows ∷ [])
      go_first = elim (first_or_none (children_of rows o)) [
        | inl e ↦ absurd (child_is_there rows o last within child e)
        | inr x ↦ x.1 ∙ sym (first_of-append (children_of rows o) (length rows ∷ []) x.0 x.1)
      ]

      go_child : (k : ℕ) → (k ≡ last → ⊥) → k < length rows → first_of (filter (ltb last) (children_of rows o)) ≡ None → sibling_parent rows k ≡ Some o → next_sibling rows k ≡ next_sibling (rows ++ row ∷ attributes) k
      go_child k ne lt alone e =
          ap (next_among rows k) e
          ∙ elim (first_or_none (filter (ltb k) (children_of rows o))) [
            | inl z ↦ absurd (elim (cases_order k last) [
              | inl s ↦ ne s
              | inr t ↦ elim t [
                | inl b ↦ last_is_one rows o k last b within child (ap first_of z)
                | inr a ↦ last_is_one rows o last k a lt (decider_child rows o k e) alone
              ]
            ])
            | inr x ↦ x.1 ∙ sym (first_of-append (filter (ltb k) (children_of rows o)) (length rows ∷ []) x.0 x.1)
          ]
          ∙ sym (next_join_child rows o os row attributes stack joins k lt e)

      go_next : (k : ℕ) → (k ≡ last → ⊥) → first_of (filter (ltb last) (children_of rows o)) ≡ None → next_sibling rows k ≡ next_sibling (rows ++ row ∷ attributes) k
      go_next k ne alone = elim (cases_lt k (length rows)) [
        | inr ge ↦ next_past rows k ge ∙ sym (next_join_new rows o os row attributes stack joins k ge)
        | inl lt ↦ elim (is_or_not o (sibling_parent rows k)) [
          | inl e ↦ go_child k ne lt alone e
          | inr n ↦ sym (next_join_other rows o os row attributes stack joins k lt n)
        ]
      ]

module _ (rows : List Row) (o : ℕ) (os : List ℕ) (row : Row) (attributes : List Row) (stack : StackOf rows (o ∷ os)) (joins : CanJoin (o ∷ os) row attributes) where
  -- a row that is not open keeps its extent
  pub extent_join : (k : ℕ) → k < length rows → is_member k (o ∷ os) ≡ false → extent_of (rows ++ row ∷ attributes) k ≡ extent_of rows k
  extent_join k l closed =
      let all : List Row = rows ++ row ∷ attributes in
      let at : row_at all k ≡ row_at rows k = row_at_grows rows (row ∷ attributes) k l in
      let d : ℕ = (row_at rows k).depth in
      let xs : List Row = drop (suc k) rows in
      ap (λ (r : Row). suc k + deeper r.depth (drop (suc k) all)) at
      ∙ ap (λ ys. suc k + deeper d ys) (drop-append-le (suc k) rows (row ∷ attributes) (omega arith))
      ∙ ap (λ j. suc k + j) (deeper-append d xs (row ∷ attributes) (λ all_deeper.
      let h : length (o ∷ os) ≤ d = elim (cases_lt d (length (o ∷ os))) [
        | inl lt ↦ absurd (false≢true (sym closed ∙ stack_covers rows (o ∷ os) k stack l (λ j g m.
            let e : suc k + (j - suc k) ≡ j = omega arith in
            let b = all_deeper (j - suc k) (omega (arith, length-drop (suc k) rows)) in
            let b' : (row_at xs (j - suc k)).depth ≡ (row_at rows j).depth = ap (λ (r : Row). r.depth) (get_or-drop (suc k) rows (j - suc k) root_row ∙ ap (row_at rows) e) in
            omega (arith, b, b')) lt))
        | inr ge ↦ ge
      ] in
      ap (λ b. cond b (suc (deeper d attributes)) 0) (le-ltb d row.depth (omega (arith, joins.depth)))))

  -- the new rows: an element opens, and nothing else has children
  new_kind : (n : ℕ) → length rows ≤ n → n < length (rows ++ row ∷ attributes) → is_parent (row_at (rows ++ row ∷ attributes) n).kind ≡ true → (n ≡ length rows) × (is_parent row.kind ≡ true)
  new_kind n ge lt par = elim (cases_eq n (length rows)) [
    | inl e ↦ (e, sym (ap (λ (r : Row). is_parent r.kind) (row_at_seam rows row attributes)) ∙ (rw e at par))
    | inr ne ↦
        let s : length rows + suc (n - suc (length rows)) ≡ n = omega arith in
        let a = attribute_at rows o os row attributes stack joins (n - suc (length rows)) (omega (arith, length-append rows (row ∷ attributes))) in
        let b : is_parent (row_at (rows ++ row ∷ attributes) n).kind ≡ false = sym (ap (λ j. is_parent (row_at (rows ++ row ∷ attributes) j).kind) s) ∙ ap is_parent a.0 in
        absurd (false≢true (sym b ∙ par))
  ]

  pub extents_join : (extent : List ℕ) → ExtentsHold rows (o ∷ os) extent → ExtentsHold (rows ++ row ∷ attributes) (cond (is_parent row.kind) (length rows ∷ o ∷ os) (o ∷ os)) extent
  extents_join extent x = record {
    unset = λ n h. elim (cases_Bool (is_parent row.kind)) [
      | inl e ↦
          let h' : (eqb n (length rows) || is_member n (o ∷ os)) ≡ true = sym (ap (λ b. is_member n (cond b (length rows ∷ o ∷ os) (o ∷ os))) e) ∙ h in
          elim (or_cases (eqb n (length rows)) (is_member n (o ∷ os)) h') [ inl t ↦ let q = eqb-true n (length rows) t in x.fresh n (omega arith) | inr t ↦ x.unset n t ]
      | inr e ↦ x.unset n (sym (ap (λ b. is_member n (cond b (length rows ∷ o ∷ os) (o ∷ os))) e) ∙ h)
    ];
    shut = λ n l par closed.
        elim (cases_lt n (length rows)) [
          | inl lt ↦
              let at = row_at_grows rows (row ∷ attributes) n lt in
              let was : is_member n (o ∷ os) ≡ false = was_closed (is_parent row.kind) n closed in
              x.shut n lt (sym (ap (λ (r : Row). is_parent r.kind) at) ∙ par) was ∙ sym (extent_join n lt was)
          | inr ge ↦
              let k = new_kind n ge l par in
              absurd (false≢true (sym closed ∙ ap (λ b. is_member n (cond b (length rows ∷ o ∷ os) (o ∷ os))) (k.1) ∙ ap (λ b. b || is_member n (o ∷ os)) (eq-eqb n (length rows) (k.0))))
        ];
    fresh = λ n l. x.fresh n (omega (arith, length-append rows (row ∷ attributes)));
  }
    where
      was_closed : (b : Bool) (n : ℕ) → is_member n (cond b (length rows ∷ o ∷ os) (o ∷ os)) ≡ false → is_member n (o ∷ os) ≡ false
      was_closed true n h = (or_none (eqb n (length rows)) (is_member n (o ∷ os)) h).1
      was_closed false n h = h

-- an open row is not among those further out
pub member_depth : (rows : List Row) (os : List ℕ) (k : ℕ) → StackOf rows os → is_member k os ≡ true → (row_at rows k).depth < length os
member_depth rows [] k s h = absurd (false≢true h)
member_depth rows (o ∷ os) k s h = elim (or_cases (eqb k o) (is_member k os) h) [
  | inl e ↦ rw (eqb-true k o e) (omega (arith, s.0.depth))
  | inr t ↦ let r = member_depth rows os k s.1 t in omega arith
]

-- an open row can have children
pub member_parent : (rows : List Row) (os : List ℕ) (k : ℕ) → StackOf rows os → is_member k os ≡ true → is_parent (row_at rows k).kind ≡ true
member_parent rows [] k s h = absurd (false≢true h)
member_parent rows (o ∷ os) k s h = elim (or_cases (eqb k o) (is_member k os) h) [
  | inl e ↦ rw (eqb-true k o e) s.0.parent
  | inr t ↦ member_parent rows os k s.1 t
]

pub extents_shut : (rows : List Row) (o : ℕ) (os : List ℕ) (extent : List ℕ) → StackOf rows (o ∷ os) → ExtentsHold rows (o ∷ os) extent → o < length extent → ExtentsHold rows os (set extent o (extent_of rows o))
extents_shut rows o os extent s x fits = record {
  unset = λ n h.
      let ne : n ≡ o → ⊥ = λ e. let d = member_depth rows os n s.1 h in let d' : (row_at rows n).depth ≡ length os = ap (λ j. (row_at rows j).depth) e ∙ s.0.depth in omega arith in
      get_or-set_other extent o n (extent_of rows o) 0 ne ∙ x.unset n (or_right (eqb n o) (is_member n os) h);
  shut = λ n l par closed. elim (cases_eq n o) [
    | inl e ↦ rw e (get_or-set_same extent o (extent_of rows o) 0 fits)
    | inr ne ↦ get_or-set_other extent o n (extent_of rows o) 0 ne ∙ x.shut n l par (ap (λ b. b || is_member n os) (ne_eqb n o ne) ∙ closed)
  ];
  fresh = λ n l. let ne : n ≡ o → ⊥ = λ e. omega (arith, s.0.within) in get_or-set_other extent o n (extent_of rows o) 0 ne ∙ x.fresh n l;
}
  where
    or_right : (a b : Bool) → b ≡ true → (a || b) ≡ true
    or_right true b h = refl
    or_right false b h = h
