-- How the links of the rows of a lawful list stand to extents: a subtree is a run of rows.
use Rattle.std.proofs.Common.{◌≡◌, ℕ, zero, suc, ◌+◌, ◌-◌, ◌<◌, ◌≤◌, Bool, true, false, cond, not, ◌&&◌, ◌||◌, eqb, ltb, List, [], ◌∷◌, ◌++◌, length}
use Rattle.std.proofs.Common.{Option, Some, None, drop, filter, refl, ap, sym, ◌∙◌, subst, arith, length-append, inl, inr, ◌⊎◌}
use Rattle.std.specs.Bool.{⊤}
use Rattle.std.proofs.lemmas.Bool.{cases_Bool, cases_lt, cases_order, cases_eq, lt-ltb, eq-eqb, eqb-true, ne_eqb, or_cases, false≢true}
use Rattle.doc_model.specs.declared.row.Kind.{Kind}
use Rattle.doc_model.specs.declared.row.Kind.TheVariants.{Root, Element, Attribute, Text, Instruction, Comment}
use Rattle.doc_model.specs.declared.row.Row.{Row}
use Rattle.doc_model.specs.declared.step.Step.{Step}
use Rattle.doc_model.specs.declared.step.Step.TheVariants.{Node, Shut, End}
use Rattle.doc_model.specs.declared.step.Verdict.{Verdict}
use Rattle.doc_model.specs.declared.step.Verdict.TheVariants.{Good, Bad, Failed, Starved, Upstream}
use Rattle.doc_model.specs.Document.{Document, start, after, document_from, is_attribute, is_parent, is_member, tail_of, open_after}
use Rattle.doc_model.specs.Lawful.{CanJoin, CanStep, LawfulFrom, AllAttributes}
use Rattle.doc_model.specs.Relations.{first_of, is_child, children_of, first_child, next_among, next_sibling, sibling_parent, parent_of, is_some_of, extent_of, deeper, attr_count_of}
use Rattle.doc_model.specs.Rows.{rows_of, root_row, row_at}
use Rattle.text_walk.specs.Order.{IsOrdered}
use Rattle.doc_laws.proofs.Numbers.{filter_nothing, filter_none_no, first_none, first_or_none, first_of-append, after_of}
use Rattle.doc_laws.proofs.Growth.{row_at_grows, parent_grows, document_is}
use Rattle.doc_laws.proofs.Kids.{child_decider}
use Rattle.doc_laws.proofs.Stack.{StackOf, start_stack, row_at_seam, stack_grows, step_depths}
use Rattle.doc_laws.proofs.Links.{attribute_at, attribute_parent, new_parent, is_child_new, parent_before, first_join_other, first_join_parent, next_join_other, next_join_child, next_join_new}
use Rattle.doc_laws.proofs.Words.{extent_join, member_depth}
use Rattle.doc_laws.proofs.Ends.{IsReached, reached_after, open_extent_is}
use Rattle.doc_laws.proofs.Prevs.{count_old, count_new}
use Rattle.doc_laws.proofs.Staying.{sibling_parent_later}

-- the open row further out, if there is one, decides of the siblings of an open row
abbrev pub IsUnder : List Row → ℕ → List ℕ → Type 0
IsUnder rows o [] = sibling_parent rows o ≡ None
IsUnder rows o (q ∷ qs) = sibling_parent rows o ≡ Some q

-- each open row is the last child of the next one
abbrev pub Chain : List Row → List ℕ → Type 0
Chain rows [] = ⊤
Chain rows (o ∷ os) = (next_sibling rows o ≡ None) × IsUnder rows o os × Chain rows os

is_or_not : (o : ℕ) (p : Option ℕ) → (p ≡ Some o) ⊎ (p ≡ Some o → ⊥)
is_or_not o None = inr (λ e. cc)
is_or_not o (Some m) = elim (cases_eq m o) [ inl e ↦ inl (ap (λ j. Some j) e) | inr ne ↦ inr (λ e. ne cc) ]

ends_some : (xs : List ℕ) (k : ℕ) → first_of (xs ++ k ∷ []) ≡ None → ⊥
ends_some [] k h = cc
ends_some (x ∷ xs) k h = cc

pub some_is : (a b : ℕ) → Some a ≡ Some b → a ≡ b
some_is a b h = cc

pub none_some : (o : Option ℕ) (a : ℕ) → o ≡ None → o ≡ Some a → ⊥
none_some o a h k = cc

-- a row that may have children is no attribute
pub parent_plain : (row : Row) → is_parent row.kind ≡ true → is_attribute row.kind ≡ false
parent_plain row h = go row.kind h
  where
    go : (k : Kind) → is_parent k ≡ true → is_attribute k ≡ false
    go Root h = refl
    go Element h = refl
    go Attribute h = absurd (false≢true h)
    go Text h = refl
    go Instruction h = refl
    go Comment h = refl

pub plain_decider : (rows : List Row) (n : ℕ) → is_attribute (row_at rows n).kind ≡ false → sibling_parent rows n ≡ parent_of rows n
plain_decider rows n h = ap (λ b. cond b None (parent_of rows n)) h

pub decided : (rows : List Row) (n q : ℕ) → sibling_parent rows n ≡ Some q → (is_attribute (row_at rows n).kind ≡ false) × (parent_of rows n ≡ Some q)
decided rows n q h = elim (cases_Bool (is_attribute (row_at rows n).kind)) [
  | inl e ↦ absurd (none_some (sibling_parent rows n) q (ap (λ b. cond b None (parent_of rows n)) e) h)
  | inr e ↦ (e, sym (plain_decider rows n e) ∙ h)
]

decided_child : (rows : List Row) (n q : ℕ) → sibling_parent rows n ≡ Some q → is_child rows q n ≡ true
decided_child rows n q h =
    let d = decided rows n q h in
    ap (λ b. not b && is_some_of (parent_of rows n) q) d.0 ∙ ap (λ p. is_some_of p q) d.1 ∙ eq-eqb q q refl

-- a row that is a child is among the children
not_childless : (rows : List Row) (q n : ℕ) → n < length rows → sibling_parent rows n ≡ Some q → first_child rows q ≡ None → ⊥
not_childless rows q n l h e = false≢true (sym (filter_none_no (is_child rows q) 0 (length rows) n (first_none (children_of rows q) e) (omega arith) (omega arith)) ∙ decided_child rows n q h)

childless_past : (rows : List Row) (n : ℕ) → length rows ≤ n → first_child rows n ≡ None
childless_past rows n h = ap first_of (filter_nothing (is_child rows n) 0 (length rows) (λ k a b. elim (cases_Bool (is_child rows n k)) [
  | inl e ↦ absurd (let p = parent_before rows k n (decided rows k n (child_decider rows n k e)).1 in omega (arith, p.1))
  | inr e ↦ e
]))

-- of two children of a row one has a sibling after it
one_last : (rows : List Row) (q a b : ℕ) → a < b → b < length rows → sibling_parent rows a ≡ Some q → sibling_parent rows b ≡ Some q → next_sibling rows a ≡ None → ⊥
one_last rows q a b lt l ha hb e =
    let none = first_none (filter (ltb a) (children_of rows q)) (sym (ap (next_among rows a) ha) ∙ e) in
    let f = filter_none_no (is_child rows q) (suc a) (length rows - suc a) b (sym (after_of (is_child rows q) a (length rows) (omega arith)) ∙ none) (omega arith) (omega arith) in
    false≢true (sym f ∙ decided_child rows b q hb)

open_is : (rows : List Row) (os : List ℕ) (k : ℕ) → StackOf rows os → is_member k os ≡ true → (extent_of rows k ≡ length rows) × (k < length rows)
open_is rows [] k s h = absurd (false≢true h)
open_is rows (o ∷ os) k s h = elim (or_cases (eqb k o) (is_member k os) h) [
  | inl e ↦ rw (eqb-true k o e) (open_extent_is rows o (length os) s.0, s.0.within)
  | inr t ↦ open_is rows os k s.1 t
]

-- an open row has no sibling after it
chain_last : (rows : List Row) (os : List ℕ) (k : ℕ) → Chain rows os → is_member k os ≡ true → next_sibling rows k ≡ None
chain_last rows [] k c h = absurd (false≢true h)
chain_last rows (o ∷ os) k c h = elim (or_cases (eqb k o) (is_member k os) h) [
  | inl e ↦ rw (eqb-true k o e) c.0
  | inr t ↦ chain_last rows os k c.2 t
]

member_head : (o : ℕ) (os : List ℕ) → is_member o (o ∷ os) ≡ true
member_head o os = ap (λ b. b || is_member o os) (eq-eqb o o refl)

member_tail : (k o : ℕ) (os : List ℕ) → is_member k os ≡ true → is_member k (o ∷ os) ≡ true
member_tail k o os h = right (eqb k o) (is_member k os) h
  where
    right : (a b : Bool) → b ≡ true → (a || b) ≡ true
    right true b h = refl
    right false b h = h

under_is : (rows : List Row) (o q : ℕ) (os : List ℕ) → IsUnder rows o os → sibling_parent rows o ≡ Some q → is_member q os ≡ true
under_is rows o q [] u h = absurd (none_some (sibling_parent rows o) q u h)
under_is rows o q (p ∷ ps) u h = let e : p ≡ q = some_is p q (sym u ∙ h) in subst (λ k. is_member k (p ∷ ps) ≡ true) e (member_head p ps)

-- what decides of an open row is open
chain_parent : (rows : List Row) (os : List ℕ) (k q : ℕ) → Chain rows os → is_member k os ≡ true → sibling_parent rows k ≡ Some q → is_member q os ≡ true
chain_parent rows [] k q c h e = absurd (false≢true h)
chain_parent rows (o ∷ os) k q c h e = elim (or_cases (eqb k o) (is_member k os) h) [
  | inl t ↦ member_tail q o os (under_is rows o q os c.1 (sym (ap (sibling_parent rows) (eqb-true k o t)) ∙ e))
  | inr t ↦ member_tail q o os (chain_parent rows os k q c.2 t e)
]

-- an open row within an open row
pub record HasInner (rows : List Row) (os : List ℕ) (k : ℕ) : Type 0 where
  pub inner : ℕ
  pub is_open : is_member inner os ≡ true
  pub under : sibling_parent rows inner ≡ Some k

chain_inner : (rows : List Row) (o : ℕ) (os : List ℕ) (k : ℕ) → Chain rows (o ∷ os) → is_member k os ≡ true → HasInner rows (o ∷ os) k
chain_inner rows o [] k c h = absurd (false≢true h)
chain_inner rows o (q ∷ qs) k c h = elim (or_cases (eqb k q) (is_member k qs) h) [
  | inl e ↦ record { inner = o; is_open = member_head o (q ∷ qs); under = c.1 ∙ ap (λ j. Some j) (sym (eqb-true k q e)) }
  | inr t ↦ let r = chain_inner rows q qs k c.2 t in record { inner = r.inner; is_open = member_tail r.inner o (q ∷ qs) r.is_open; under = r.under }
]

deeper_attributes : (d : ℕ) (xs : List Row) → AllAttributes d xs → deeper d xs ≡ length xs
deeper_attributes d [] a = refl
deeper_attributes d (x ∷ xs) a = ap (λ b. cond b (suc (deeper d xs)) 0) (lt-ltb d x.depth (omega (arith, a.0.1))) ∙ ap suc (deeper_attributes d xs a.1)

drop_seam : (rows : List Row) (row : Row) (more : List Row) → drop (suc (length rows)) (rows ++ row ∷ more) ≡ more
drop_seam [] row more = refl
drop_seam (x ∷ rows) row more = drop_seam rows row more

module _ (rows : List Row) (o : ℕ) (os : List ℕ) (row : Row) (attributes : List Row) (stack : StackOf rows (o ∷ os)) (joins : CanJoin (o ∷ os) row attributes) where
  all : List Row
  all = rows ++ row ∷ attributes

  all_long : length (rows ++ row ∷ attributes) ≡ length rows + suc (length attributes)
  all_long = length-append rows (row ∷ attributes)

  stack_then : StackOf (rows ++ row ∷ attributes) (o ∷ os)
  stack_then = stack_grows rows (row ∷ attributes) (o ∷ os) stack (λ k l. let i = step_depths row attributes k joins.carried l in omega (arith, i, joins.depth))

  extent_new : extent_of (rows ++ row ∷ attributes) (length rows) ≡ suc (length rows) + length attributes
  extent_new =
      ap (λ (r : Row). suc (length rows) + deeper r.depth (drop (suc (length rows)) (rows ++ row ∷ attributes))) (row_at_seam rows row attributes)
      ∙ ap (λ xs. suc (length rows) + deeper row.depth xs) (drop_seam rows row attributes)
      ∙ ap (λ k. suc (length rows) + k) (deeper_attributes row.depth attributes joins.carried)

  -- a row among the new ones that is no attribute is the first of them
  new_plain : (n : ℕ) → length rows ≤ n → n < length (rows ++ row ∷ attributes) → is_attribute (row_at (rows ++ row ∷ attributes) n).kind ≡ false → n ≡ length rows
  new_plain n ge l plain = elim (cases_eq n (length rows)) [
    | inl e ↦ e
    | inr ne ↦
        let s : length rows + suc (n - suc (length rows)) ≡ n = omega arith in
        let a = attribute_at rows o os row attributes stack joins (n - suc (length rows)) (omega (arith, all_long)) in
        absurd (false≢true (sym plain ∙ sym (ap (λ j. is_attribute (row_at (rows ++ row ∷ attributes) j).kind) s) ∙ ap is_attribute a.0))
  ]

  -- a child of the innermost open row is not open
  child_closed : (n : ℕ) → o < n → n < length rows → is_member n (o ∷ os) ≡ false
  child_closed n lt l = elim (cases_Bool (is_member n (o ∷ os))) [
    | inr e ↦ e
    | inl e ↦ absurd (let d = member_depth rows (o ∷ os) n stack e in let b = stack.0.below n lt l in omega (arith, d, b))
  ]

  ne_innermost : (k : ℕ) → is_member k os ≡ true → o ≡ k → ⊥
  ne_innermost k h e = let d = member_depth rows os k stack.1 h in let d' : (row_at rows k).depth ≡ length os = sym (ap (λ j. (row_at rows j).depth) e) ∙ stack.0.depth in omega arith

  module _ (ordered : IsOrdered rows) (chain : Chain rows (o ∷ os)) where
    join_first : (n m : ℕ) → n < length (rows ++ row ∷ attributes) → first_child (rows ++ row ∷ attributes) n ≡ Some m → m ≡ suc n + attr_count_of (rows ++ row ∷ attributes) n
    join_first n m l h = elim (cases_lt n (length rows)) [
      | inr ge ↦ absurd (none_some (first_child rows n) m (childless_past rows n ge) (sym (first_join_other rows o os row attributes stack joins n (λ e. omega (arith, stack.0.within))) ∙ h))
      | inl lt ↦
          let count : attr_count_of (rows ++ row ∷ attributes) n ≡ attr_count_of rows n = count_old rows o os row attributes stack joins n lt in
          elim (cases_eq o n) [
            | inr ne ↦ ordered.first n m lt (sym (first_join_other rows o os row attributes stack joins n ne) ∙ h) ∙ ap (λ k. suc n + k) (sym count)
            | inl e ↦
                let h' : first_of (children_of rows o ++ length rows ∷ []) ≡ Some m =
                sym (first_join_parent rows o os row attributes stack joins) ∙ ap (first_child (rows ++ row ∷ attributes)) e ∙ h in
                elim (first_or_none (children_of rows o)) [
                  | inl z ↦
                      let here : length rows ≡ m = some_is (length rows) m (sym (ap (λ xs. first_of (xs ++ length rows ∷ [])) z) ∙ h') in
                      let ends : extent_of rows n ≡ length rows = sym (ap (extent_of rows) e) ∙ open_extent_is rows o (length os) stack.0 in
                      let plain : is_attribute (row_at rows n).kind ≡ false = sym (ap (λ j. is_attribute (row_at rows j).kind) e) ∙ parent_plain (row_at rows o) stack.0.parent in
                      let c = ordered.childless n lt plain (sym (ap (first_child rows) e) ∙ ap first_of z) in
                      sym here ∙ sym ends ∙ c ∙ ap (λ k. suc n + k) (sym count)
                  | inr x ↦
                      let there : x.0 ≡ m = some_is x.0 m (sym (first_of-append (children_of rows o) (length rows ∷ []) x.0 x.1) ∙ h') in
                      sym there ∙ ordered.first n x.0 lt (sym (ap (first_child rows) e) ∙ x.1) ∙ ap (λ k. suc n + k) (sym count)
                ]
          ]
    ]

    join_childless : (n : ℕ) → n < length (rows ++ row ∷ attributes) → is_attribute (row_at (rows ++ row ∷ attributes) n).kind ≡ false
        → first_child (rows ++ row ∷ attributes) n ≡ None → extent_of (rows ++ row ∷ attributes) n ≡ suc n + attr_count_of (rows ++ row ∷ attributes) n
    join_childless n l plain h = elim (cases_lt n (length rows)) [
      | inr ge ↦
          let e : n ≡ length rows = new_plain n ge l plain in
          rw e (extent_new ∙ ap (λ k. suc (length rows) + k) (sym (count_new rows o os row attributes stack joins)))
      | inl lt ↦ elim (cases_eq o n) [
        | inl e ↦ absurd (not_childless (rows ++ row ∷ attributes) n (length rows) (omega (arith, all_long))
            (child_decider (rows ++ row ∷ attributes) n (length rows) (is_child_new rows o os row attributes stack joins n ∙ eq-eqb o n e)) h)
        | inr ne ↦
            let was : first_child rows n ≡ None = sym (first_join_other rows o os row attributes stack joins n ne) ∙ h in
            let closed : is_member n (o ∷ os) ≡ false = elim (cases_Bool (is_member n (o ∷ os))) [
              | inr f ↦ f
              | inl t ↦ absurd (elim (or_cases (eqb n o) (is_member n os) t) [
                | inl e ↦ ne (sym (eqb-true n o e))
                | inr i ↦
                    let inner = chain_inner rows o os n chain i in
                    not_childless rows n inner.inner (open_is rows (o ∷ os) inner.inner stack inner.is_open).1 inner.under was
              ])
            ] in
            let was_plain : is_attribute (row_at rows n).kind ≡ false = sym (ap (λ (r : Row). is_attribute r.kind) (row_at_grows rows (row ∷ attributes) n lt)) ∙ plain in
            extent_join rows o os row attributes stack joins n lt closed ∙ ordered.childless n lt was_plain was ∙ ap (λ k. suc n + k) (sym (count_old rows o os row attributes stack joins n lt))
      ]
    ]

    join_next : (n m : ℕ) → n < length (rows ++ row ∷ attributes) → next_sibling (rows ++ row ∷ attributes) n ≡ Some m → m ≡ extent_of (rows ++ row ∷ attributes) n
    join_next n m l h = elim (cases_lt n (length rows)) [
      | inr ge ↦ absurd (none_some (next_sibling (rows ++ row ∷ attributes) n) m (next_join_new rows o os row attributes stack joins n ge) h)
      | inl lt ↦ elim (is_or_not o (sibling_parent rows n)) [
        | inl e ↦
            let d = decided rows n o e in
            let b = parent_before rows n o d.1 in
            let same = extent_join rows o os row attributes stack joins n lt (child_closed n b.0 lt) in
            let h' : first_of (filter (ltb n) (children_of rows o) ++ length rows ∷ []) ≡ Some m = sym (next_join_child rows o os row attributes stack joins n lt e) ∙ h in
            elim (first_or_none (filter (ltb n) (children_of rows o))) [
              | inl z ↦
                  let here : length rows ≡ m = some_is (length rows) m (sym (ap (λ xs. first_of (xs ++ length rows ∷ [])) z) ∙ h') in
                  let none : next_sibling rows n ≡ None = ap (next_among rows n) e ∙ ap first_of z in
                  sym here ∙ sym (open_extent_is rows o (length os) stack.0) ∙ ordered.last n o lt d.0 d.1 none ∙ sym same
              | inr x ↦
                  let there : x.0 ≡ m = some_is x.0 m (sym (first_of-append (filter (ltb n) (children_of rows o)) (length rows ∷ []) x.0 x.1) ∙ h') in
                  sym there ∙ ordered.next n x.0 lt (ap (next_among rows n) e ∙ x.1) ∙ sym same
            ]
        | inr ne ↦
            let was : next_sibling rows n ≡ Some m = sym (next_join_other rows o os row attributes stack joins n lt ne) ∙ h in
            let closed : is_member n (o ∷ os) ≡ false = elim (cases_Bool (is_member n (o ∷ os))) [
              | inr f ↦ f
              | inl t ↦ absurd (none_some (next_sibling rows n) m (chain_last rows (o ∷ os) n chain t) was)
            ] in
            ordered.next n m lt was ∙ sym (extent_join rows o os row attributes stack joins n lt closed)
      ]
    ]

    -- an open row whose last child is closed: the child would have the next open row after it
    last_open : (n q : ℕ) → n < length rows → sibling_parent rows n ≡ Some q → next_sibling rows n ≡ None → is_member q os ≡ true → is_member n (o ∷ os) ≡ true
    last_open n q l e none i =
        let inner = chain_inner rows o os q chain i in
        let there = (open_is rows (o ∷ os) inner.inner stack inner.is_open).1 in
        elim (cases_order n inner.inner) [
          | inl same ↦ subst (λ k. is_member k (o ∷ os) ≡ true) (sym same) inner.is_open
          | inr t ↦ absurd (elim t [
            | inl lt ↦ one_last rows q n inner.inner lt there e inner.under none
            | inr gt ↦ one_last rows q inner.inner n gt l inner.under e (chain_last rows (o ∷ os) inner.inner chain inner.is_open)
          ])
        ]

    join_last : (n q : ℕ) → n < length (rows ++ row ∷ attributes) → is_attribute (row_at (rows ++ row ∷ attributes) n).kind ≡ false
        → parent_of (rows ++ row ∷ attributes) n ≡ Some q → next_sibling (rows ++ row ∷ attributes) n ≡ None → extent_of (rows ++ row ∷ attributes) q ≡ extent_of (rows ++ row ∷ attributes) n
    join_last n q l plain up h = elim (cases_lt n (length rows)) [
      | inr ge ↦
          let e : n ≡ length rows = new_plain n ge l plain in
          let q_is : o ≡ q = some_is o q (sym (new_parent rows o os row attributes stack joins) ∙ sym (ap (parent_of (rows ++ row ∷ attributes)) e) ∙ up) in
          let a : extent_of (rows ++ row ∷ attributes) q ≡ length (rows ++ row ∷ attributes) =
          sym (ap (extent_of (rows ++ row ∷ attributes)) q_is) ∙ (open_is (rows ++ row ∷ attributes) (o ∷ os) o stack_then (member_head o os)).0 in
          let b : extent_of (rows ++ row ∷ attributes) n ≡ suc (length rows) + length attributes = ap (extent_of (rows ++ row ∷ attributes)) e ∙ extent_new in
          omega (arith, a, b, all_long)
      | inl lt ↦
          let was_plain : is_attribute (row_at rows n).kind ≡ false = sym (ap (λ (r : Row). is_attribute r.kind) (row_at_grows rows (row ∷ attributes) n lt)) ∙ plain in
          let was_up : parent_of rows n ≡ Some q = sym (parent_grows rows (row ∷ attributes) n lt) ∙ up in
          let e : sibling_parent rows n ≡ Some q = plain_decider rows n was_plain ∙ was_up in
          let b = parent_before rows n q was_up in
          elim (cases_eq o q) [
            | inl same ↦
                let e' : sibling_parent rows n ≡ Some o = e ∙ ap (λ k. Some k) (sym same) in
                absurd (ends_some (filter (ltb n) (children_of rows o)) (length rows) (sym (next_join_child rows o os row attributes stack joins n lt e') ∙ h))
            | inr ne ↦
                let none : next_sibling rows n ≡ None = sym (next_join_other rows o os row attributes stack joins n lt (λ t. ne (some_is o q (sym t ∙ e)))) ∙ h in
                let was = ordered.last n q lt was_plain was_up none in
                elim (cases_Bool (is_member q os)) [
                  | inl i ↦
                      let n_open = last_open n q lt e none i in
                      (open_is (rows ++ row ∷ attributes) (o ∷ os) q stack_then (member_tail q o os i)).0 ∙ sym (open_is (rows ++ row ∷ attributes) (o ∷ os) n stack_then n_open).0
                  | inr f ↦
                      let n_closed : is_member n (o ∷ os) ≡ false = elim (cases_Bool (is_member n (o ∷ os))) [
                        | inr g ↦ g
                        | inl t ↦ absurd (elim (or_cases (eqb n o) (is_member n os) t) [
                          | inl s ↦ false≢true (sym f ∙ under_is rows o q os chain.1 (sym (ap (sibling_parent rows) (eqb-true n o s)) ∙ e))
                          | inr s ↦ false≢true (sym f ∙ chain_parent rows os n q chain.2 s e)
                        ])
                      ] in
                      let q_closed : is_member q (o ∷ os) ≡ false = ap (λ x. x || is_member q os) (ne_eqb q o (λ t. ne (sym t))) ∙ f in
                      extent_join rows o os row attributes stack joins q b.1 q_closed ∙ was ∙ sym (extent_join rows o os row attributes stack joins n lt n_closed)
                ]
          ]
    ]

    join_rooted : (n : ℕ) → n < length (rows ++ row ∷ attributes) → parent_of (rows ++ row ∷ attributes) n ≡ None → n ≡ 0
    join_rooted n l h = elim (cases_lt n (length rows)) [
      | inl lt ↦ ordered.rooted n lt (sym (parent_grows rows (row ∷ attributes) n lt) ∙ h)
      | inr ge ↦ absurd (elim (cases_eq n (length rows)) [
        | inl e ↦ none_some (parent_of (rows ++ row ∷ attributes) n) o h (ap (parent_of (rows ++ row ∷ attributes)) e ∙ new_parent rows o os row attributes stack joins)
        | inr ne ↦
            let s : n ≡ length rows + suc (n - suc (length rows)) = omega arith in
            none_some (parent_of (rows ++ row ∷ attributes) n) (length rows) h
            (ap (parent_of (rows ++ row ∷ attributes)) s ∙ attribute_parent rows o os row attributes stack joins (n - suc (length rows)) (omega (arith, all_long)))
      ])
    ]

    join_ordered : IsOrdered (rows ++ row ∷ attributes)
    join_ordered = record { first = join_first; childless = join_childless; next = join_next; last = join_last; rooted = join_rooted }

  under_grows : (k : ℕ) (ks : List ℕ) → k < length rows → IsUnder rows k ks → IsUnder (rows ++ row ∷ attributes) k ks
  under_grows k [] l u = sibling_parent_later rows (row ∷ attributes) k l ∙ u
  under_grows k (q ∷ qs) l u = sibling_parent_later rows (row ∷ attributes) k l ∙ u

  not_innermost : (k : ℕ) (ks : List ℕ) → StackOf rows ks → length ks ≤ length os → IsUnder rows k ks → sibling_parent rows k ≡ Some o → ⊥
  not_innermost k [] s l u e = none_some (sibling_parent rows k) o u e
  not_innermost k (q ∷ qs) s l u e =
      let same : q ≡ o = some_is q o (sym u ∙ e) in
      let d : length os ≡ length qs = sym (stack.0.depth) ∙ sym (ap (λ j. (row_at rows j).depth) same) ∙ s.0.depth in
      omega arith

  chain_grows : (ks : List ℕ) → StackOf rows ks → length ks ≤ suc (length os) → Chain rows ks → Chain (rows ++ row ∷ attributes) ks
  chain_grows [] s l c = tt
  chain_grows (k ∷ ks) s l c = (
    next_join_other rows o os row attributes stack joins k s.0.within (not_innermost k ks s.1 (omega arith) c.1) ∙ c.0,
    under_grows k ks s.0.within c.1,
    chain_grows ks s.1 (omega arith) c.2,
  )

  chain_join : Chain rows (o ∷ os) → Chain (rows ++ row ∷ attributes) (cond (is_parent row.kind) (length rows ∷ o ∷ os) (o ∷ os))
  chain_join c =
      let more = chain_grows (o ∷ os) stack (omega arith) c in
      let P : Bool → Type 0 = λ b. Chain (rows ++ row ∷ attributes) (cond b (length rows ∷ o ∷ os) (o ∷ os)) in
      elim (cases_Bool (is_parent row.kind)) [
        | inl e ↦ subst P (sym e) (
          next_join_new rows o os row attributes stack joins (length rows) (omega arith),
          child_decider (rows ++ row ∷ attributes) o (length rows) (is_child_new rows o os row attributes stack joins o ∙ eq-eqb o o refl),
          more,
        )
        | inr e ↦ subst P (sym e) more
      ]

-- the rows and the open rows that are reached
pub record IsKept (s : Document) : Type 0 where
  pub ordered : IsOrdered s.rows
  pub chain : Chain s.rows s.opened

kept_join : (rows : List Row) (opened : List ℕ) (row : Row) (attributes : List Row) → StackOf rows opened → 0 < length opened → CanJoin opened row attributes → IsOrdered rows → Chain rows opened
    → IsOrdered (rows ++ row ∷ attributes) × Chain (rows ++ row ∷ attributes) (cond (is_parent row.kind) (length rows ∷ opened) opened)
kept_join rows [] row attributes s z j a c = absurd (omega arith)
kept_join rows (o ∷ os) row attributes s z j a c = (join_ordered rows o os row attributes s j a c, chain_join rows o os row attributes s j c)

chain_tail : (rows : List Row) (os : List ℕ) → Chain rows os → Chain rows (tail_of os)
chain_tail rows [] c = tt
chain_tail rows (o ∷ os) c = c.2

chain_end : (rows : List Row) (v : Verdict) (os : List ℕ) → Chain rows os → Chain rows (open_after v os)
chain_end rows Good os c = tt
chain_end rows (Bad f) os c = c
chain_end rows Failed os c = c
chain_end rows Starved os c = c
chain_end rows Upstream os c = c

kept_after : (s : Document) (step : Step) → IsReached s → s.ended ≡ None → CanStep s step → IsKept s → IsKept (after s step)
kept_after s (Node row attributes) r g c k = let j = kept_join s.rows s.opened row attributes r.stack (r.going g) c k.ordered k.chain in record { ordered = j.0; chain = j.1 }
kept_after s Shut r g c k = record { ordered = k.ordered; chain = chain_tail s.rows s.opened k.chain }
kept_after s (End v) r g c k = record { ordered = k.ordered; chain = chain_end s.rows v s.opened k.chain }

kept_from : (s : Document) (p : List Step) → IsReached s → LawfulFrom s p → IsKept s → IsKept (document_from s p)
kept_from s [] r l k = k
kept_from s (x ∷ p) r l k = kept_from (after s x) p (reached_after s x r l.1) l.2 (kept_after s x r l.0 l.1 k)

root_alone : IsOrdered (root_row ∷ [])
root_alone = record {
  first = λ n m l h. absurd (none_some (first_child (root_row ∷ []) n) m (childless n l) h);
  childless = λ n l p h. only n l;
  next = λ n m l h. absurd (none_some (next_sibling (root_row ∷ []) n) m (alone n l) h);
  last = λ n q l p h e. absurd (none_some (parent_of (root_row ∷ []) n) q (orphan n l) h);
  rooted = λ n l h. omega arith;
}
  where
    childless : (n : ℕ) → n < 1 → first_child (root_row ∷ []) n ≡ None
    childless zero l = refl
    childless (suc n) l = absurd (omega arith)

    only : (n : ℕ) → n < 1 → extent_of (root_row ∷ []) n ≡ suc n + attr_count_of (root_row ∷ []) n
    only zero l = refl
    only (suc n) l = absurd (omega arith)

    alone : (n : ℕ) → n < 1 → next_sibling (root_row ∷ []) n ≡ None
    alone zero l = refl
    alone (suc n) l = absurd (omega arith)

    orphan : (n : ℕ) → n < 1 → parent_of (root_row ∷ []) n ≡ None
    orphan zero l = refl
    orphan (suc n) l = absurd (omega arith)

pub ordered_rows : (p : List Step) → LawfulFrom start p → IsOrdered (rows_of p)
ordered_rows p l =
    let begun : IsReached start = record { stack = start_stack; going = λ e. omega arith } in
    let kept = kept_from start p begun l (record { ordered = root_alone; chain = (refl, refl, tt) }) in
    subst (λ (s : Document). IsOrdered s.rows) (document_is p) kept.ordered
