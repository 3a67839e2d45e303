-- The open rows of a lawful list: one of each depth, and all rows after each are deeper.
use Rattle.std.proofs.Common.{◌≡◌, ℕ, zero, suc, ◌-◌, ◌<◌, ◌≤◌, Bool, true, false, cond, ◌||◌, eqb, ltb, List, [], ◌∷◌, ◌++◌, length, refl, ap, sym, ◌∙◌, subst, arith, length-append, inl, inr}
use Rattle.std.specs.Bool.{⊤}
use Rattle.std.proofs.lemmas.Bool.{cases_Bool, cases_lt, cases_order, cases_eq, lt-ltb, le-ltb, eq-eqb}
use Rattle.std.proofs.lemmas.List.{get_or_at}
use Rattle.std.proofs.Math.Seq.{get_or-append_right}
use Rattle.doc_model.specs.declared.row.Row.{Row}
use Rattle.doc_model.specs.declared.step.Step.{Step}
use Rattle.doc_model.specs.declared.step.Step.TheVariants.{Node, Shut, End}
use Rattle.doc_model.specs.declared.step.Verdict.{Verdict}
use Rattle.doc_model.specs.declared.step.Verdict.TheVariants.{Good, Bad, Failed, Starved, Upstream}
use Rattle.doc_model.specs.Document.{Document, start, after, document_from, document_of, is_parent, is_member, tail_of, open_after}
use Rattle.doc_model.specs.Lawful.{CanStep, CanJoin, LawfulFrom, AllAttributes, IsAttributeAt}
use Rattle.doc_model.specs.Relations.{deeper}
use Rattle.doc_model.specs.Rows.{rows_of, root_row, row_at}
use Rattle.doc_laws.proofs.Growth.{row_at_grows, document_is}

-- row o is open at depth d
pub record IsOpenAt (rows : List Row) (o d : ℕ) : Type 0 where
  pub within : o < length rows
  pub depth : (row_at rows o).depth ≡ d
  pub parent : is_parent (row_at rows o).kind ≡ true
  pub below : (k : ℕ) → o < k → k < length rows → d < (row_at rows k).depth

abbrev pub StackOf : List Row → List ℕ → Type 0
StackOf rows [] = ⊤
StackOf rows (o ∷ os) = IsOpenAt rows o (length os) × StackOf rows os

-- a row that is not deeper than the innermost open one, with nothing shallower after it, is open
pub stack_covers : (rows : List Row) (os : List ℕ) (k : ℕ) → StackOf rows os → k < length rows
    → ((j : ℕ) → k < j → j < length rows → (row_at rows k).depth < (row_at rows j).depth)
    → (row_at rows k).depth < length os → is_member k os ≡ true
stack_covers rows [] k s w r d = absurd (omega arith)
stack_covers rows (o ∷ os) k s w r d =
    elim (cases_eq (row_at rows k).depth (length os)) [
      | inl e ↦ elim (cases_order k o) [
        | inl same ↦ ap (λ b. b || is_member k os) (eq-eqb k o same)
        | inr t ↦ elim t [
          | inl lt ↦ let h = r o lt s.0.within in absurd (omega (arith, s.0.depth))
          | inr gt ↦ let h = s.0.below k gt w in absurd (omega arith)
        ]
      ]
      | inr ne ↦
          let h : is_member k os ≡ true = stack_covers rows os k s.1 w r (omega arith) in
          elim (cases_Bool (eqb k o)) [ inl e ↦ ap (λ b. b || is_member k os) e | inr e ↦ ap (λ b. b || is_member k os) e ∙ h ]
    ]

-- an open row stays open at its depth when deeper rows come
pub open_grows : (rows more : List Row) (o d : ℕ) → IsOpenAt rows o d → ((k : ℕ) → k < length more → d < (row_at more k).depth) → IsOpenAt (rows ++ more) o d
open_grows rows more o d s h = record {
  within = omega (arith, length-append rows more, s.within);
  depth = ap (λ (r : Row). r.depth) (row_at_grows rows more o s.within) ∙ s.depth;
  parent = ap (λ (r : Row). is_parent r.kind) (row_at_grows rows more o s.within) ∙ s.parent;
  below = λ k l m. elim (cases_lt k (length rows)) [
    | inl lt ↦ rw (row_at_grows rows more k lt) (s.below k l lt)
    | inr ge ↦ let i : k - length rows < length more = omega (arith, length-append rows more) in rw (get_or-append_right rows more k root_row ge) (h (k - length rows) i)
  ];
}

pub stack_grows : (rows more : List Row) (os : List ℕ) → StackOf rows os → ((k : ℕ) → k < length more → length os ≤ (row_at more k).depth) → StackOf (rows ++ more) os
stack_grows rows more [] s h = tt
stack_grows rows more (o ∷ os) s h = (open_grows rows more o (length os) s.0 (λ k l. let i = h k l in omega arith), stack_grows rows more os s.1 (λ k l. let i = h k l in omega arith))

-- the rows of a Node step
pub attribute_depths : (d : ℕ) (rows : List Row) (k : ℕ) → AllAttributes d rows → k < length rows → IsAttributeAt d (row_at rows k)
attribute_depths d [] k a l = absurd (omega arith)
attribute_depths d (row ∷ rows) zero a l = a.0
attribute_depths d (row ∷ rows) (suc k) a l = attribute_depths d rows k a.1 (omega arith)

pub step_depths : (row : Row) (attributes : List Row) (k : ℕ) → AllAttributes row.depth attributes → k < length (row ∷ attributes) → row.depth ≤ (row_at (row ∷ attributes) k).depth
step_depths row attributes zero a l = omega arith
step_depths row attributes (suc k) a l = let i = attribute_depths row.depth attributes k a (omega arith) in omega (arith, i.1)

step_below : (row : Row) (attributes : List Row) (k : ℕ) → AllAttributes row.depth attributes → 0 < k → k < length (row ∷ attributes) → row.depth < (row_at (row ∷ attributes) k).depth
step_below row attributes zero a p l = absurd (omega arith)
step_below row attributes (suc k) a p l = let i = attribute_depths row.depth attributes k a (omega arith) in omega (arith, i.1)

-- the new row is where the rows ended
pub row_at_seam : (rows : List Row) (row : Row) (more : List Row) → row_at (rows ++ row ∷ more) (length rows) ≡ row
row_at_seam rows row more = get_or_at rows row more root_row (length rows) refl

pub row_at_past : (rows more : List Row) (k : ℕ) → length rows ≤ k → row_at (rows ++ more) k ≡ row_at more (k - length rows)
row_at_past rows more k ge = get_or-append_right rows more k root_row ge

-- the new element opens
pub opens_new : (rows : List Row) (row : Row) (attributes : List Row) (d : ℕ) → row.depth ≡ d → is_parent row.kind ≡ true → AllAttributes row.depth attributes → IsOpenAt (rows ++ row ∷ attributes) (length rows) d
opens_new rows row attributes d e p a =
    let at = row_at_seam rows row attributes in
    record {
      within = omega (arith, length-append rows (row ∷ attributes));
      depth = ap (λ (r : Row). r.depth) at ∙ e;
      parent = ap (λ (r : Row). is_parent r.kind) at ∙ p;
      below = λ k l m.
          let i : k - length rows < length (row ∷ attributes) = omega (arith, length-append rows (row ∷ attributes)) in
          let b = step_below row attributes (k - length rows) a (omega arith) i in
          rw (row_at_past rows (row ∷ attributes) k (omega arith)) (omega (arith, b, e));
    }

tail_stack : (rows : List Row) (os : List ℕ) → StackOf rows os → StackOf rows (tail_of os)
tail_stack rows [] s = tt
tail_stack rows (o ∷ os) s = s.1

end_stack : (rows : List Row) (v : Verdict) (os : List ℕ) → StackOf rows os → StackOf rows (open_after v os)
end_stack rows Good os s = tt
end_stack rows (Bad f) os s = s
end_stack rows Failed os s = s
end_stack rows Starved os s = s
end_stack rows Upstream os s = s

join_stack : (rows : List Row) (os : List ℕ) (row : Row) (attributes : List Row) → StackOf rows os → CanJoin os row attributes → StackOf (rows ++ row ∷ attributes) os
join_stack rows os row attributes s j = stack_grows rows (row ∷ attributes) os s (λ k l. let i = step_depths row attributes k j.carried l in omega (arith, i, j.depth))

pub after_stack : (s : Document) (step : Step) → StackOf s.rows s.opened → CanStep s step → StackOf (after s step).rows (after s step).opened
after_stack s (Node row attributes) t c =
    let more = join_stack s.rows s.opened row attributes t c in
    let P : Bool → Type 0 = λ b. StackOf (s.rows ++ row ∷ attributes) (cond b (length s.rows ∷ s.opened) s.opened) in
    elim (cases_Bool (is_parent row.kind)) [
      | inl e ↦ subst P (sym e) (opens_new s.rows row attributes (length s.opened) c.depth e c.carried, more)
      | inr e ↦ subst P (sym e) more
    ]
after_stack s Shut t c = tail_stack s.rows s.opened t
after_stack s (End v) t c = end_stack s.rows v s.opened t

pub stack_from : (s : Document) (p : List Step) → StackOf s.rows s.opened → LawfulFrom s p → StackOf (document_from s p).rows (document_from s p).opened
stack_from s [] t l = t
stack_from s (x ∷ p) t l = stack_from (after s x) p (after_stack s x t l.1) l.2

pub start_stack : StackOf start.rows start.opened
start_stack = (record { within = omega arith; depth = refl; parent = refl; below = λ k l m. absurd (omega arith) }, tt)

pub stack_of : (p : List Step) → LawfulFrom start p → StackOf (rows_of p) (document_of p).opened
stack_of p l = subst (λ (s : Document). StackOf s.rows s.opened) (document_is p) (stack_from start p start_stack l)

below_more_at : (d : ℕ) (x : Row) (xs : List Row) → d < x.depth → ((j : ℕ) → j < length xs → d < (row_at xs j).depth) → (j : ℕ) → j < length (x ∷ xs) → d < (row_at (x ∷ xs) j).depth
below_more_at d x xs lt r zero l = lt
below_more_at d x xs lt r (suc j) l = r j (omega arith)

-- rows past a closed one leave its extent
pub deeper-append : (d : ℕ) (xs more : List Row) → (((j : ℕ) → j < length xs → d < (row_at xs j).depth) → deeper d more ≡ 0) → deeper d (xs ++ more) ≡ deeper d xs
deeper-append d [] more h = h (λ j l. absurd (omega arith))
deeper-append d (x ∷ xs) more h =
    elim (cases_lt d x.depth) [
      | inl lt ↦
          let e : ltb d x.depth ≡ true = lt-ltb d x.depth lt in
          let g : ((j : ℕ) → j < length xs → d < (row_at xs j).depth) → deeper d more ≡ 0 = λ r. h (below_more_at d x xs lt r) in
          ap (λ b. cond b (suc (deeper d (xs ++ more))) 0) e ∙ ap suc (deeper-append d xs more g) ∙ sym (ap (λ b. cond b (suc (deeper d xs)) 0) e)
      | inr ge ↦
          let e : ltb d x.depth ≡ false = le-ltb d x.depth ge in
          ap (λ b. cond b (suc (deeper d (xs ++ more))) 0) e ∙ sym (ap (λ b. cond b (suc (deeper d xs)) 0) e)
    ]
