-- The log has room for the steps to come.
use Rattle.std.proofs.Common.{◌≡◌, ℕ, ◌+◌, ◌<◌, ◌≤◌, cond, List, [], ◌∷◌, length, Some, sym, subst, arith, length-append, inl, inr}
use Rattle.std.proofs.lemmas.Bool.{cases_Bool}
use Rattle.doc_model.specs.declared.row.Row.{Row}
use Rattle.doc_model.specs.declared.step.Step.{Step}
use Rattle.doc_model.specs.declared.step.Step.TheVariants.{Node, Shut as shut_step}
use Rattle.doc_model.specs.Cells.{Columns, place_at, row_of}
use Rattle.doc_model.specs.Document.{Document, after, is_parent, tail_of}
use Rattle.doc_model.specs.Lawful.{CanStep}
use Rattle.doc_model.specs.Legal.{IsInnermost}
use Rattle.doc_model.specs.Relations.{parent_of, attr_count_of}
use Rattle.doc_model.specs.Rows.{rows_of, row_at}
use Rattle.doc_model.specs.Shown.{prev_shown}
use Rattle.doc_laws.proofs.Stack.{StackOf}
use Rattle.plain_columns.specs.Spelled.{FewSteps, Placed}

pub few_shut : (s : Document) (count : ℕ) → CanStep s shut_step → FewSteps s count → FewSteps (after s shut_step) (count + 1)
few_shut s count may f = omega (arith, f, shorter s.opened may)
  where
    shorter : (os : List ℕ) → 1 < length os → length (tail_of os) + 1 ≡ length os
    shorter [] h = absurd (omega arith)
    shorter (o ∷ os) h = omega arith

pub few_join : (s : Document) (count : ℕ) (row : Row) (attributes : List Row) → FewSteps s count → FewSteps (after s (Node row attributes)) (count + 1)
few_join s count row attributes f =
    let os : List ℕ = cond (is_parent row.kind) (length s.rows ∷ s.opened) s.opened in
    let l : length os ≤ length s.opened + 1 = elim (cases_Bool (is_parent row.kind)) [ inl t ↦ rw t (omega arith) | inr t ↦ rw t (omega arith) ] in
    omega (arith, l, f, length-append s.rows (row ∷ attributes))

pub innermost_within : (rows : List Row) (opened : List ℕ) (n : ℕ) → StackOf rows opened → IsInnermost opened n → n < length rows
innermost_within rows [] n s i = absurd i
innermost_within rows (o ∷ os) n s i = omega (arith, s.0.within, i)

pub placed_same : (c : Columns) (p q : List Step) (n : ℕ) → rows_of q ≡ rows_of p → Placed c p n → Placed c q n
placed_same c p q n e h =
    let P : List Row → Type 0 = λ rows. (n ≡ length rows) × ((k : ℕ) → k < length rows → row_at rows k ≡ row_of c (place_at c k))
    × ((k : ℕ) → 0 < k → k < length rows → parent_of rows k ≡ Some (place_at c k).parent) × ((k : ℕ) → k < length rows → prev_shown [] rows k ≡ (place_at c k).prev)
    × ((k : ℕ) → k < length rows → attr_count_of rows k ≡ (place_at c k).attr_count) in
    let t = subst P (sym e) (h.joined, h.rows, h.parents, h.prevs, h.counts) in
    record { joined = t.0; within = h.within; rows = t.1; parents = t.2; prevs = t.3; counts = t.4 }
