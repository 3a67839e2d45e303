-- The open rows are counted by the steps, and the innermost is the last of them.
use Rattle.std.proofs.Common.{◌≡◌, ℕ, suc, ◌+◌, ◌<◌, ◌≤◌, true, cond, ◌||◌, eqb, List, [], ◌∷◌, length, Some, None, refl, ap, sym, ◌∙◌, arith, inl, inr}
use Rattle.std.proofs.lemmas.Bool.{cases_Bool, cases_lt, or_cases, eqb-true, eq-eqb}
use Rattle.doc_model.specs.declared.row.Row.{Row}
use Rattle.doc_model.specs.declared.step.Step.{Step}
use Rattle.doc_model.specs.declared.step.Step.TheVariants.{Node, Shut, End}
use Rattle.doc_model.specs.Document.{Document, start, after, document_from, document_of, is_parent, is_member, is_open, tail_of}
use Rattle.doc_model.specs.Lawful.{LawfulFrom}
use Rattle.doc_model.specs.Legal.{IsInnermost}
use Rattle.doc_model.specs.Rows.{rows_of}
use Rattle.doc_model.specs.Shut.{shut_count, element_count}
use Rattle.doc_laws.proofs.Stack.{StackOf, stack_of}
use Rattle.doc_laws.proofs.Words.{member_depth}

count_from : (s : Document) (p : List Step) → LawfulFrom s p → (document_from s p).ended ≡ None → length (document_from s p).opened + shut_count p ≡ length s.opened + element_count p
count_from s [] l e = refl
count_from s (Node row attributes ∷ p) l e =
    let r = count_from (after s (Node row attributes)) p l.2 e in
    elim (cases_Bool (is_parent row.kind)) [
      | inl b ↦
          let o : length (cond (is_parent row.kind) (length s.rows ∷ s.opened) s.opened) ≡ suc (length s.opened) = ap (λ q. length (cond q (length s.rows ∷ s.opened) s.opened)) b in
          let c : element_count (Node row attributes ∷ p) ≡ suc (element_count p) = ap (λ q. cond q (suc (element_count p)) (element_count p)) b in
          omega (arith, r, o, c)
      | inr b ↦
          let o : length (cond (is_parent row.kind) (length s.rows ∷ s.opened) s.opened) ≡ length s.opened = ap (λ q. length (cond q (length s.rows ∷ s.opened) s.opened)) b in
          let c : element_count (Node row attributes ∷ p) ≡ element_count p = ap (λ q. cond q (suc (element_count p)) (element_count p)) b in
          omega (arith, r, o, c)
    ]
count_from s (Shut ∷ p) l e = let r = count_from (after s Shut) p l.2 e in omega (arith, r, shorter s.opened l.1)
  where
    shorter : (os : List ℕ) → 1 < length os → length (tail_of os) + 1 ≡ length os
    shorter [] h = absurd (omega arith)
    shorter (o ∷ os) h = omega arith
count_from s (End v ∷ []) l e = absurd cc
count_from s (End v ∷ (x ∷ p)) l e = let n : Some v ≡ None = l.2.0 in absurd cc

pub opened_count : (p : List Step) → LawfulFrom start p → (document_of p).ended ≡ None → length (document_of p).opened + shut_count p ≡ suc (element_count p)
opened_count p l e = count_from start p l e ∙ omega arith

last_member : (rows : List Row) (os : List ℕ) (n : ℕ) → StackOf rows os → IsInnermost os n → (is_member n os ≡ true) × ((k : ℕ) → is_member k os ≡ true → k < length rows → k ≤ n)
last_member rows [] n s i = absurd i
last_member rows (o ∷ os) n s i = (
  ap (λ b. b || is_member n os) (eq-eqb n o (sym i)),
  λ k m l. elim (or_cases (eqb k o) (is_member k os) m) [
    | inl e ↦ omega (arith, eqb-true k o e, i)
    | inr t ↦ elim (cases_lt n k) [
      | inr le ↦ le
      | inl lt ↦
          let d = member_depth rows os k s.1 t in
          let b = s.0.below k (omega (arith, i)) l in
          absurd (omega (arith, d, b))
    ]
  ],
)

pub innermost_last : (p : List Step) (n : ℕ) → LawfulFrom start p → IsInnermost (document_of p).opened n → (is_open p n ≡ true) × ((k : ℕ) → k < length (rows_of p) → is_open p k ≡ true → k ≤ n)
innermost_last p n l i = let r = last_member (rows_of p) (document_of p).opened n (stack_of p l) i in (r.0, λ k j o. r.1 k o j)
