-- What holds of the rows of every lawful list.
use Rattle.std.proofs.Common.{◌≡◌, ℕ, zero, suc, ◌+◌, ◌-◌, ◌<◌, ◌≤◌, true, false, cond, List, [], ◌∷◌, ◌++◌, length, Some, None, drop, refl, ap, sym, ◌∙◌, subst, arith, length-append, length-drop, get_or-drop, inl, inr}
use Rattle.std.proofs.lemmas.Bool.{cases_Bool, cases_lt, cases_eq, le-ltb, false≢true}
use Rattle.std.proofs.lemmas.List.{drop_all}
use Rattle.doc_laws.proofs.Standing.{standing_plain}
use Rattle.doc_model.specs.declared.row.Row.{Row}
use Rattle.doc_model.specs.declared.step.Step.{Step}
use Rattle.doc_model.specs.declared.step.Step.TheVariants.{Node, Shut, End}
use Rattle.doc_model.specs.Document.{is_attribute, Document, start, after, document_from, is_parent, is_member, tail_of}
use Rattle.doc_model.specs.Lawful.{CanStep, CanJoin, LawfulFrom}
use Rattle.doc_model.specs.Relations.{parent_of, extent_of, deeper}
use Rattle.doc_model.specs.Rows.{rows_of, root_row, row_at}
use Rattle.doc_laws.proofs.Growth.{document_is, row_at_grows, parent_grows}
use Rattle.doc_laws.proofs.Stack.{StackOf, row_at_seam, start_stack, after_stack}
use Rattle.doc_laws.proofs.Links.{new_parent, attribute_parent, attribute_at, parent_before}
use Rattle.doc_laws.proofs.Words.{extent_join, member_parent}

pub record IsAfter (rows : List Row) (k : ℕ) : Type 0 where
  pub owner : ℕ
  pub parent : parent_of rows k ≡ Some owner
  pub between : (j : ℕ) → owner < j → j ≤ k → is_attribute (row_at rows j).kind ≡ true

-- parents may have children, a leaf's extent is its own, the rows between a parent and its child are deeper than the parent, and an attribute stands after its parent with attributes alone between
pub record TreeHolds (rows : List Row) : Type 0 where
  pub parents : (k o : ℕ) → k < length rows → parent_of rows k ≡ Some o → is_parent (row_at rows o).kind ≡ true
  pub leaves : (k : ℕ) → k < length rows → is_parent (row_at rows k).kind ≡ false → extent_of rows k ≡ suc k
  pub contains : (k n j : ℕ) → k < length rows → parent_of rows k ≡ Some n → n < j → j ≤ k → (row_at rows n).depth < (row_at rows j).depth
  pub follow : (k : ℕ) → k < length rows → is_attribute (row_at rows k).kind ≡ true → IsAfter rows k

deeper_none : (d : ℕ) (rows : List Row) → (0 < length rows → (row_at rows zero).depth ≤ d) → deeper d rows ≡ 0
deeper_none d [] h = refl
deeper_none d (r ∷ rows) h = ap (λ b. cond b (suc (deeper d rows)) 0) (le-ltb d r.depth (h (omega arith)))

module _ (rows : List Row) (o : ℕ) (os : List ℕ) (row : Row) (attributes : List Row) (stack : StackOf rows (o ∷ os)) (joins : CanJoin (o ∷ os) row attributes) where
  bare_row : 0 < length attributes → is_parent row.kind ≡ true
  bare_row h = elim (cases_Bool (is_parent row.kind)) [ inl e ↦ e | inr e ↦ absurd (let l : length attributes ≡ 0 = ap length (joins.bare e) in omega arith) ]

  past_new : (k : ℕ) → length rows ≤ k → k < length (rows ++ row ∷ attributes) → (k ≡ length rows → ⊥) → (k ≡ length rows + suc (k - suc (length rows))) × (k - suc (length rows) < length attributes)
  past_new k ge l ne = (omega arith, omega (arith, length-append rows (row ∷ attributes)))

  some_same : (a b : ℕ) → Some a ≡ Some b → a ≡ b
  some_same a b h = cc

  plain : is_attribute row.kind ≡ false
  plain = standing_plain row.kind joins.kind

  later_depth : (j : ℕ) → length rows < j → j < length (rows ++ row ∷ attributes) → (is_attribute (row_at (rows ++ row ∷ attributes) j).kind ≡ true) × ((row_at (rows ++ row ∷ attributes) j).depth ≡ suc row.depth)
  later_depth j l m =
      let p = past_new j (omega arith) m (λ e. omega arith) in
      let a = attribute_at rows o os row attributes stack joins _ (p.1) in
      (ap (λ k. is_attribute (row_at (rows ++ row ∷ attributes) k).kind) (p.0) ∙ ap is_attribute a.0, ap (λ k. (row_at (rows ++ row ∷ attributes) k).depth) (p.0) ∙ a.1)

  contains_join : TreeHolds rows → (k n j : ℕ) → k < length (rows ++ row ∷ attributes) → parent_of (rows ++ row ∷ attributes) k ≡ Some n → n < j → j ≤ k → (row_at (rows ++ row ∷ attributes) n).depth < (row_at (rows ++ row ∷ attributes) j).depth
  contains_join t k n j l h a b = elim (cases_lt k (length rows)) [
    | inl lt ↦
        let was : parent_of rows k ≡ Some n = sym (parent_grows rows (row ∷ attributes) k lt) ∙ h in
        let c = t.contains k n j lt was a b in
        let dn = ap (λ (r : Row). r.depth) (row_at_grows rows (row ∷ attributes) n (omega arith)) in
        let dj = ap (λ (r : Row). r.depth) (row_at_grows rows (row ∷ attributes) j (omega arith)) in
        omega (arith, c, dn, dj)
    | inr ge ↦ elim (cases_eq k (length rows)) [
      | inl e ↦
          let on : o ≡ n = some_same o n (sym (ap (parent_of (rows ++ row ∷ attributes)) e ∙ new_parent rows o os row attributes stack joins) ∙ h) in
          let dn : (row_at (rows ++ row ∷ attributes) n).depth ≡ length os = sym (ap (λ i. (row_at (rows ++ row ∷ attributes) i).depth) on) ∙ ap (λ (r : Row). r.depth) (row_at_grows rows (row ∷ attributes) o stack.0.within) ∙ stack.0.depth in
          elim (cases_lt j (length rows)) [
            | inl lj ↦
                let c = stack.0.below j (omega arith) lj in
                let dj = ap (λ (r : Row). r.depth) (row_at_grows rows (row ∷ attributes) j lj) in
                omega (arith, c, dn, dj)
            | inr gj ↦
                let ej : j ≡ length rows = omega arith in
                let dj : (row_at (rows ++ row ∷ attributes) j).depth ≡ row.depth = ap (λ i. (row_at (rows ++ row ∷ attributes) i).depth) ej ∙ ap (λ (r : Row). r.depth) (row_at_seam rows row attributes) in
                omega (arith, dn, dj, joins.depth)
          ]
      | inr ne ↦
          let p = past_new k ge l ne in
          let mn : length rows ≡ n = some_same (length rows) n (sym (ap (parent_of (rows ++ row ∷ attributes)) (p.0) ∙ attribute_parent rows o os row attributes stack joins _ (p.1)) ∙ h) in
          let dn : (row_at (rows ++ row ∷ attributes) n).depth ≡ row.depth = sym (ap (λ i. (row_at (rows ++ row ∷ attributes) i).depth) mn) ∙ ap (λ (r : Row). r.depth) (row_at_seam rows row attributes) in
          let dj = (later_depth j (omega arith) (omega arith)).1 in
          omega (arith, dn, dj)
    ]
  ]

  follow_join : TreeHolds rows → (k : ℕ) → k < length (rows ++ row ∷ attributes) → is_attribute (row_at (rows ++ row ∷ attributes) k).kind ≡ true → IsAfter (rows ++ row ∷ attributes) k
  follow_join t k l h = elim (cases_lt k (length rows)) [
    | inl lt ↦
        let f = t.follow k lt (sym (ap (λ (r : Row). is_attribute r.kind) (row_at_grows rows (row ∷ attributes) k lt)) ∙ h) in
        record {
          owner = f.owner;
          parent = parent_grows rows (row ∷ attributes) k lt ∙ f.parent;
          between = λ j a b. ap (λ (r : Row). is_attribute r.kind) (row_at_grows rows (row ∷ attributes) j (omega arith)) ∙ f.between j a b;
        }
    | inr ge ↦ elim (cases_eq k (length rows)) [
      | inl e ↦ absurd (false≢true (sym plain ∙ sym (ap (λ (r : Row). is_attribute r.kind) (row_at_seam rows row attributes)) ∙ sym (ap (λ i. is_attribute (row_at (rows ++ row ∷ attributes) i).kind) e) ∙ h))
      | inr ne ↦
          let p = past_new k ge l ne in
          record {
            owner = length rows;
            parent = ap (parent_of (rows ++ row ∷ attributes)) (p.0) ∙ attribute_parent rows o os row attributes stack joins _ (p.1);
            between = λ j a b. (later_depth j a (omega arith)).0;
          }
    ]
  ]

  pub tree_join : TreeHolds rows → TreeHolds (rows ++ row ∷ attributes)
  tree_join t = record {
    parents = λ k q l h. elim (cases_lt k (length rows)) [
      | inl lt ↦
          let was : parent_of rows k ≡ Some q = sym (parent_grows rows (row ∷ attributes) k lt) ∙ h in
          let b = parent_before rows k q was in
          ap (λ (r : Row). is_parent r.kind) (row_at_grows rows (row ∷ attributes) q b.1) ∙ t.parents k q lt was
      | inr ge ↦ elim (cases_eq k (length rows)) [
        | inl e ↦
            let oq : o ≡ q = some_same o q (sym (ap (parent_of (rows ++ row ∷ attributes)) e ∙ new_parent rows o os row attributes stack joins) ∙ h) in
            sym (ap (λ j. is_parent (row_at (rows ++ row ∷ attributes) j).kind) oq) ∙ ap (λ (r : Row). is_parent r.kind) (row_at_grows rows (row ∷ attributes) o stack.0.within) ∙ stack.0.parent
        | inr ne ↦
            let p = past_new k ge l ne in
            let mq : length rows ≡ q = some_same (length rows) q (sym (ap (parent_of (rows ++ row ∷ attributes)) (p.0) ∙ attribute_parent rows o os row attributes stack joins _ (p.1)) ∙ h) in
            sym (ap (λ j. is_parent (row_at (rows ++ row ∷ attributes) j).kind) mq) ∙ ap (λ (r : Row). is_parent r.kind) (row_at_seam rows row attributes) ∙ bare_row (omega (arith, p.1))
      ]
    ];
    leaves = λ k l leaf. elim (cases_lt k (length rows)) [
      | inl lt ↦
          let was : is_parent (row_at rows k).kind ≡ false = sym (ap (λ (r : Row). is_parent r.kind) (row_at_grows rows (row ∷ attributes) k lt)) ∙ leaf in
          let closed : is_member k (o ∷ os) ≡ false = elim (cases_Bool (is_member k (o ∷ os))) [ inl m ↦ absurd (false≢true (sym was ∙ member_parent rows (o ∷ os) k stack m)) | inr m ↦ m ] in
          extent_join rows o os row attributes stack joins k lt closed ∙ t.leaves k lt was
      | inr ge ↦ elim (cases_eq k (length rows)) [
        | inl e ↦
            let at : row_at (rows ++ row ∷ attributes) k ≡ row = ap (row_at (rows ++ row ∷ attributes)) e ∙ row_at_seam rows row attributes in
            let none : attributes ≡ [] = joins.bare (sym (ap (λ (r : Row). is_parent r.kind) at) ∙ leaf) in
            let len : length (rows ++ row ∷ attributes) ≤ suc k = omega (arith, length-append rows (row ∷ attributes), ap length none) in
            ap (λ xs. suc k + deeper (row_at (rows ++ row ∷ attributes) k).depth xs) (drop_all (suc k) (rows ++ row ∷ attributes) len) ∙ omega arith
        | inr ne ↦
            let p = past_new k ge l ne in
            let a = attribute_at rows o os row attributes stack joins _ (p.1) in
            let dk : (row_at (rows ++ row ∷ attributes) k).depth ≡ suc row.depth = ap (λ j. (row_at (rows ++ row ∷ attributes) j).depth) (p.0) ∙ a.1 in
            let z : deeper (row_at (rows ++ row ∷ attributes) k).depth (drop (suc k) (rows ++ row ∷ attributes)) ≡ 0 =
            deeper_none _ (drop (suc k) (rows ++ row ∷ attributes)) (λ some.
            let ld = length-drop (suc k) (rows ++ row ∷ attributes) in
            let la = length-append rows (row ∷ attributes) in
            let b = attribute_at rows o os row attributes stack joins (suc k - suc (length rows)) (omega arith) in
            let e : length rows + suc (suc k - suc (length rows)) ≡ suc k + 0 = omega arith in
            let g : (row_at (drop (suc k) (rows ++ row ∷ attributes)) 0).depth ≡ suc row.depth = ap (λ (r : Row). r.depth) (get_or-drop (suc k) (rows ++ row ∷ attributes) 0 root_row) ∙ sym (ap (λ j. (row_at (rows ++ row ∷ attributes) j).depth) e) ∙ b.1 in
            omega arith) in
            ap (λ j. suc k + j) z ∙ omega arith
      ]
    ];
    contains = contains_join t;
    follow = follow_join t;
  }

join_tree : (rows : List Row) (opened : List ℕ) (row : Row) (attributes : List Row) → StackOf rows opened → 0 < length opened → CanJoin opened row attributes → TreeHolds rows → TreeHolds (rows ++ row ∷ attributes)
join_tree rows [] row attributes s l j t = absurd (omega arith)
join_tree rows (o ∷ os) row attributes s l j t = tree_join rows o os row attributes s j t

pub after_tree : (s : Document) (step : Step) → StackOf s.rows s.opened → CanStep s step → (s.ended ≡ None → 0 < length s.opened) → s.ended ≡ None → TreeHolds s.rows → TreeHolds (after s step).rows
after_tree s (Node row attributes) k c n e t = join_tree s.rows s.opened row attributes k (n e) c t
after_tree s Shut k c n e t = t
after_tree s (End v) k c n e t = t

pub after_open : (s : Document) (step : Step) → CanStep s step → (s.ended ≡ None → 0 < length s.opened) → (after s step).ended ≡ None → 0 < length (after s step).opened
after_open s (Node row attributes) c n e = elim (cases_Bool (is_parent row.kind)) [ inl b ↦ rw b (omega arith) | inr b ↦ rw b (n e) ]
after_open s Shut c n e = shorter s.opened c
  where
    shorter : (os : List ℕ) → 1 < length os → 0 < length (tail_of os)
    shorter [] h = absurd (omega arith)
    shorter (o ∷ os) h = omega arith
after_open s (End v) c n e = absurd cc

pub tree_from : (s : Document) (p : List Step) → StackOf s.rows s.opened → (s.ended ≡ None → 0 < length s.opened) → TreeHolds s.rows → LawfulFrom s p → TreeHolds (document_from s p).rows
tree_from s [] k n t l = t
tree_from s (x ∷ p) k n t l = tree_from (after s x) p (after_stack s x k l.1) (after_open s x l.1 n) (after_tree s x k l.1 n l.0 t) l.2

start_tree : TreeHolds start.rows
start_tree = record {
  parents = λ k o l h. absurd (no k o l h);
  leaves = λ k l h. let z : k ≡ 0 = omega arith in absurd (false≢true (sym h ∙ ap (λ j. is_parent (row_at start.rows j).kind) z));
  contains = λ k n j l h a b. absurd (no k n l h);
  follow = λ k l h. let z : k ≡ 0 = omega arith in absurd (false≢true (sym (ap (λ j. is_attribute (row_at start.rows j).kind) z) ∙ h));
}
  where
    no : (k o : ℕ) → k < 1 → parent_of start.rows k ≡ Some o → ⊥
    no zero o l h = cc
    no (suc k) o l h = omega arith

pub lawful_tree : (p : List Step) → LawfulFrom start p → TreeHolds (rows_of p)
lawful_tree p l = subst (λ (s : Document). TreeHolds s.rows) (document_is p) (tree_from start p start_stack (λ e. omega arith) start_tree l)
