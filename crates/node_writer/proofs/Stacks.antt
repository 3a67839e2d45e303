-- The open rows after a join and a shut.
use Rattle.std.proofs.Common.{◌≡◌, ℕ, zero, suc, ◌+◌, ◌-◌, ◌<◌, ◌≤◌, cond, List, [], ◌∷◌, ◌++◌, length, Some, None, get_or, set, refl, ap, sym, ◌∙◌}
use Rattle.std.proofs.Common.{subst, arith, append-nil, length-append, length-set, inl, inr}
use Rattle.std.proofs.lemmas.Bool.{cases_Bool, and_parts, cases_lt, cases_eq, eq-eqb, ne_eqb}
use Rattle.std.proofs.lemmas.List.{get_or-set_same, get_or-set_other, get_or_append_left, get_or_at}
use Rattle.doc_model.specs.declared.places.RowPlace.{RowPlace}
use Rattle.doc_model.specs.declared.row.Row.{Row}
use Rattle.doc_model.specs.Cells.{Columns, place_at, root_place}
use Rattle.doc_model.specs.Document.{is_parent, tail_of}
use Rattle.doc_model.specs.Lawful.{CanJoin}
use Rattle.doc_model.specs.Legal.{IsInnermost}
use Rattle.doc_model.specs.Relations.{children_of, is_child, parent_of, last_of, last_from}
use Rattle.doc_laws.proofs.Stack.{StackOf}
use Rattle.doc_laws.proofs.Kids.{is_some_of-true}
use Rattle.doc_laws.proofs.Links.{children_join, parent_before}
use Rattle.doc_laws.proofs.Numbers.{filter_nothing}
use Rattle.node_writer.specs.declared.open_row.OpenRow.{OpenRow}
use Rattle.node_writer.specs.Stack.{open_root, open_at, innermost, rows_opened, with_child, with_joined}
use Rattle.node_writer.specs.Stands.{StackStands}

last_from-push : (x : ℕ) (xs : List ℕ) (n : ℕ) → last_from x (xs ++ n ∷ []) ≡ n
last_from-push x [] n = refl
last_from-push x (y ∷ xs) n = last_from-push y xs n

last_of-push : (xs : List ℕ) (n : ℕ) → last_of (xs ++ n ∷ []) ≡ Some n
last_of-push [] n = refl
last_of-push (x ∷ xs) n = ap (λ k. Some k) (last_from-push x xs n)

-- the innermost is the last of the list
pub rows_opened-push : (stack : List OpenRow) (one : OpenRow) (outer : List ℕ) → rows_opened (stack ++ one ∷ []) outer ≡ one.row ∷ rows_opened stack outer
rows_opened-push [] one outer = refl
rows_opened-push (x ∷ stack) one outer = rows_opened-push stack one (x.row ∷ outer)

pub rows_opened-length : (stack : List OpenRow) (outer : List ℕ) → length (rows_opened stack outer) ≡ length stack + length outer
rows_opened-length [] outer = omega arith
rows_opened-length (x ∷ stack) outer = rows_opened-length stack (x.row ∷ outer) ∙ omega arith

-- only the rows count
rows_opened-set : (stack : List OpenRow) (k : ℕ) (one : OpenRow) (outer : List ℕ) → one.row ≡ (open_at stack k).row → k < length stack → rows_opened (set stack k one) outer ≡ rows_opened stack outer
rows_opened-set [] k one outer e l = absurd (omega arith)
rows_opened-set (x ∷ stack) zero one outer e l = ap (λ r. rows_opened stack (r ∷ outer)) e
rows_opened-set (x ∷ stack) (suc k) one outer e l = rows_opened-set stack k one (x.row ∷ outer) e (omega arith)

-- a stack that is not empty is some rows and the innermost
pub record Ends (stack : List OpenRow) : Type 0 where
  pub outer : List OpenRow
  pub is : stack ≡ outer ++ innermost stack ∷ []

ends_with : (outer : List OpenRow) (one : OpenRow) → Ends (outer ++ one ∷ [])
ends_with outer one =
    let n : length (outer ++ one ∷ []) - 1 ≡ length outer = omega (arith, length-append outer (one ∷ [])) in
    let at : innermost (outer ++ one ∷ []) ≡ one = ap (open_at (outer ++ one ∷ [])) n ∙ get_or_at outer one [] open_root (length outer) refl in
    record { outer = outer; is = ap (λ (x : OpenRow). outer ++ x ∷ []) (sym at) }

last_split : (x : OpenRow) (xs : List OpenRow) → (outer : List OpenRow) × (one : OpenRow) × (x ∷ xs ≡ outer ++ one ∷ [])
last_split x [] = ([], x, refl)
last_split x (y ∷ xs) = let r = last_split y xs in (x ∷ r.0, r.1, ap (λ zs. x ∷ zs) (r.2))

pub ends : (stack : List OpenRow) → 0 < length stack → Ends stack
ends [] l = absurd (omega arith)
ends (x ∷ xs) l = let r = last_split x xs in subst (λ s. Ends s) (sym (r.2)) (ends_with (r.0) (r.1))

pub innermost_is : (stack : List OpenRow) → 0 < length stack → IsInnermost (rows_opened stack []) (innermost stack).row
innermost_is stack l =
    let e = ends stack l in
    let o : rows_opened stack [] ≡ (innermost stack).row ∷ rows_opened e.outer [] = ap (λ s. rows_opened s []) e.is ∙ rows_opened-push e.outer (innermost stack) [] in
    subst (λ os. IsInnermost os (innermost stack).row) (sym o) refl

-- a row that is not there has no children
no_children : (rows : List Row) (n : ℕ) → length rows ≤ n → children_of rows n ≡ []
no_children rows n h = filter_nothing (is_child rows n) 0 (length rows) (λ k l m. elim (cases_Bool (is_child rows n k)) [
  | inr e ↦ e
  | inl e ↦ let p : (n < k) × (n < length rows) = parent_before rows k n (is_some_of-true (parent_of rows k) n ((and_parts _ _ e).1)) in absurd (omega (arith, p.1, h))
])

-- the children of the open rows after a Node
joined_children : (rows : List Row) (opened : List ℕ) (o : ℕ) (row : Row) (attributes : List Row) → StackOf rows opened → CanJoin opened row attributes → IsInnermost opened o
    → (last_of (children_of (rows ++ row ∷ attributes) o) ≡ Some (length rows)) × ((n : ℕ) → (o ≡ n → ⊥) → children_of (rows ++ row ∷ attributes) n ≡ children_of rows n)
joined_children rows [] o row attributes s j i = absurd i
joined_children rows (m ∷ os) o row attributes s j i = (
  ap last_of (children_join rows m os row attributes s j o ∙ ap (λ b. children_of rows o ++ cond b (length rows ∷ []) []) (eq-eqb m o i)) ∙ last_of-push (children_of rows o) (length rows),
  λ n ne. children_join rows m os row attributes s j n ∙ ap (λ b. children_of rows n ++ cond b (length rows ∷ []) []) (ne_eqb m n (λ e. ne (sym i ∙ e))) ∙ append-nil (children_of rows n),
)

module _ (c d : Columns) (rows : List Row) (stack : List OpenRow) (opened : List ℕ) (row : Row) (attributes : List Row) (stands : StackStands c rows stack opened)
    (of : StackOf rows opened) (joins : CanJoin opened row attributes) (some : 0 < length stack) (n : ℕ) (next : n ≡ length rows) (more : List RowPlace) (grown : d.places ≡ c.places ++ more) where
  innermost_here : IsInnermost opened (innermost stack).row
  innermost_here = subst (λ os. IsInnermost os (innermost stack).row) (sym stands.rows) (innermost_is stack some)

  place_still : (k : ℕ) → k < length c.places → place_at d k ≡ place_at c k
  place_still k l = ap (λ ps. get_or ps k root_place) grown ∙ get_or_append_left c.places more root_place k l

  child_row : (k : ℕ) → k < length stack → (open_at (with_child stack n) k).row ≡ (open_at stack k).row
  child_row k l = elim (cases_eq k (length stack - 1)) [
    | inl e ↦ ap (λ (o : OpenRow). o.row)
        (ap (open_at (with_child stack n)) e ∙ get_or-set_same stack (length stack - 1) (record { row = (innermost stack).row; last = Some n }) open_root (omega arith))
        ∙ ap (λ j. (open_at stack j).row) (sym e)
    | inr ne ↦ ap (λ (o : OpenRow). o.row) (get_or-set_other stack (length stack - 1) k (record { row = (innermost stack).row; last = Some n }) open_root ne)
  ]

  child_last : (k : ℕ) → k < length stack → (open_at (with_child stack n) k).last ≡ last_of (children_of (rows ++ row ∷ attributes) (open_at stack k).row)
  child_last k l =
      let j = joined_children rows opened (innermost stack).row row attributes of joins innermost_here in
      elim (cases_eq k (length stack - 1)) [
        | inl e ↦
            ap (λ (o : OpenRow). o.last) (ap (open_at (with_child stack n)) e
            ∙ get_or-set_same stack (length stack - 1) (record { row = (innermost stack).row; last = Some n }) open_root (omega arith))
            ∙ ap (λ m. Some m) next ∙ sym (j.0) ∙ ap (λ m. last_of (children_of (rows ++ row ∷ attributes) (open_at stack m).row)) (sym e)
        | inr ne ↦
            let apart : (innermost stack).row ≡ (open_at stack k).row → ⊥ = λ e.
            let a = stands.depths (length stack - 1) (omega arith) in
            let b = stands.depths k l in
            let s : (place_at c (innermost stack).row).depth ≡ (place_at c (open_at stack k).row).depth = ap (λ m. (place_at c m).depth) e in
            ne (omega (arith, a, b, s)) in
            ap (λ (o : OpenRow). o.last) (get_or-set_other stack (length stack - 1) k (record { row = (innermost stack).row; last = Some n }) open_root ne)
            ∙ stands.lasts k l ∙ ap last_of (sym (j.1 (open_at stack k).row apart))
      ]

  child_stands : StackStands d (rows ++ row ∷ attributes) (with_child stack n) opened
  child_stands =
      let len : length (with_child stack n) ≡ length stack = length-set stack (length stack - 1) (record { row = (innermost stack).row; last = Some n }) in
      record {
        rows = stands.rows ∙ sym (rows_opened-set stack (length stack - 1) (record { row = (innermost stack).row; last = Some n }) [] refl (omega arith));
        within = λ k l. let w = stands.within k (omega (arith, len)) in omega (arith, w, child_row k (omega (arith, len)), ap length grown, length-append c.places more);
        depths = λ k l.
            let e = child_row k (omega (arith, len)) in
            ap (λ m. (place_at d m).depth) e ∙ ap (λ (p : RowPlace). p.depth) (place_still (open_at stack k).row (stands.within k (omega (arith, len)))) ∙ stands.depths k (omega (arith, len));
        lasts = λ k l. child_last k (omega (arith, len)) ∙ ap (λ m. last_of (children_of (rows ++ row ∷ attributes) m)) (sym (child_row k (omega (arith, len))));
      }

  -- the stack after a Node whose row is row n
  pub joined_stands : (place_at d n).depth ≡ row.depth → n < length d.places
      → StackStands d (rows ++ row ∷ attributes) (with_joined stack n row.kind) (cond (is_parent row.kind) (length rows ∷ opened) opened)
  joined_stands deep there = elim (cases_Bool (is_parent row.kind)) [
    | inr e ↦
        subst (λ b. StackStands d (rows ++ row ∷ attributes) (cond b (with_child stack n ++ record { row = n; last = None } ∷ []) (with_child stack n))
        (cond b (length rows ∷ opened) opened)) (sym e) child_stands
    | inl e ↦
        subst (λ b. StackStands d (rows ++ row ∷ attributes) (cond b (with_child stack n ++ record { row = n; last = None } ∷ []) (with_child stack n)) (cond b (length rows ∷ opened) opened)) (sym e)
        (pushed_stands d (rows ++ row ∷ attributes) (with_child stack n) opened n (length rows) next child_stands there
        (omega (arith, deep, joins.depth, ap length stands.rows, rows_opened-length stack [], length-set stack (length stack - 1) (record { row = (innermost stack).row; last = Some n })))
        (new_children rows opened row attributes of joins n next (innermost stack).row innermost_here))
  ]
    where
      new_children : (rows : List Row) (opened : List ℕ) (row : Row) (attributes : List Row) → StackOf rows opened → CanJoin opened row attributes → (n : ℕ) → n ≡ length rows
          → (o : ℕ) → IsInnermost opened o → children_of (rows ++ row ∷ attributes) n ≡ []
      new_children rows [] row attributes s j n e o i = absurd i
      new_children rows (m ∷ os) row attributes s j n e o i =
          children_join rows m os row attributes s j n ∙ ap (λ b. children_of rows n ++ cond b (length rows ∷ []) []) (ne_eqb m n (λ q. omega (arith, s.0.within, q, e)))
          ∙ append-nil (children_of rows n) ∙ no_children rows n (omega (arith, e))

      pushed_stands : (d : Columns) (rows : List Row) (stack : List OpenRow) (opened : List ℕ) (n m : ℕ) → n ≡ m → StackStands d rows stack opened → n < length d.places
          → (place_at d n).depth ≡ length stack → children_of rows n ≡ [] → StackStands d rows (stack ++ record { row = n; last = None } ∷ []) (m ∷ opened)
      pushed_stands d rows stack opened n m e s there deep none =
          let one : OpenRow = record { row = n; last = None } in
          let len : length (stack ++ one ∷ []) ≡ suc (length stack) = length-append stack (one ∷ []) ∙ omega arith in
          let last : open_at (stack ++ one ∷ []) (length stack) ≡ one = get_or_at stack one [] open_root (length stack) refl in
          let old : (k : ℕ) → k < length stack → open_at (stack ++ one ∷ []) k ≡ open_at stack k = λ k l. get_or_append_left stack (one ∷ []) open_root k l in
          record {
            rows = ap (λ x. x ∷ opened) (sym e) ∙ ap (λ xs. n ∷ xs) s.rows ∙ sym (rows_opened-push stack one []);
            within = λ k l. elim (cases_lt k (length stack)) [
              | inl lt ↦ subst (λ (o : OpenRow). o.row < length d.places) (sym (old k lt)) (s.within k lt)
              | inr ge ↦ let q : length stack ≡ k =
                  omega (arith, len) in subst (λ j. (open_at (stack ++ one ∷ []) j).row < length d.places) q (subst (λ (o : OpenRow). o.row < length d.places) (sym last) there)
            ];
            depths = λ k l. elim (cases_lt k (length stack)) [
              | inl lt ↦ ap (λ (o : OpenRow). (place_at d o.row).depth) (old k lt) ∙ s.depths k lt
              | inr ge ↦ let q : k ≡ length stack = omega (arith, len) in ap (λ (o : OpenRow). (place_at d o.row).depth) (ap (open_at (stack ++ one ∷ [])) q ∙ last) ∙ deep ∙ sym q
            ];
            lasts = λ k l. elim (cases_lt k (length stack)) [
              | inl lt ↦ ap (λ (o : OpenRow). o.last) (old k lt) ∙ s.lasts k lt ∙ ap (λ (o : OpenRow). last_of (children_of rows o.row)) (sym (old k lt))
              | inr ge ↦
                  let q : k ≡ length stack = omega (arith, len) in
                  let at : open_at (stack ++ one ∷ []) k ≡ one = ap (open_at (stack ++ one ∷ [])) q ∙ last in
                  ap (λ (o : OpenRow). o.last) at ∙ ap last_of (sym none) ∙ ap (λ (o : OpenRow). last_of (children_of rows o.row)) (sym at)
            ];
          }

tail_stack : (one : ℕ) (os opened : List ℕ) → opened ≡ one ∷ os → tail_of opened ≡ os
tail_stack one os opened e = ap tail_of e

-- the stack after a Shut
pub shut_stands : (c : Columns) (rows : List Row) (stack outer : List OpenRow) (one : OpenRow) (opened : List ℕ) → stack ≡ outer ++ one ∷ [] → StackStands c rows stack opened
    → StackStands c rows outer (tail_of opened)
shut_stands c rows stack outer one opened e s =
    let len : length stack ≡ suc (length outer) = ap length e ∙ length-append outer (one ∷ []) ∙ omega arith in
    let old : (k : ℕ) → k < length outer → open_at stack k ≡ open_at outer k = λ k l. ap (λ xs. open_at xs k) e ∙ get_or_append_left outer (one ∷ []) open_root k l in
    record {
      rows = tail_stack one.row (rows_opened outer []) opened (s.rows ∙ ap (λ xs. rows_opened xs []) e ∙ rows_opened-push outer one []);
      within = λ k l. subst (λ (o : OpenRow). o.row < length c.places) (old k l) (s.within k (omega (arith, len)));
      depths = λ k l. ap (λ (o : OpenRow). (place_at c o.row).depth) (sym (old k l)) ∙ s.depths k (omega (arith, len));
      lasts = λ k l. ap (λ (o : OpenRow). o.last) (sym (old k l)) ∙ s.lasts k (omega (arith, len)) ∙ ap (λ (o : OpenRow). last_of (children_of rows o.row)) (old k l);
    }

-- the row that a Shut ends
pub shut_innermost : (stack outer : List OpenRow) (one : OpenRow) (opened : List ℕ) → stack ≡ outer ++ one ∷ [] → opened ≡ rows_opened stack [] → opened ≡ one.row ∷ rows_opened outer []
shut_innermost stack outer one opened e r = r ∙ ap (λ xs. rows_opened xs []) e ∙ rows_opened-push outer one []
