-- Every row but the root has a parent.
use Rattle.std.proofs.Common.{◌≡◌, ℕ, suc, ◌+◌, ◌-◌, ◌<◌, List, [], ◌∷◌, ◌++◌, length, Option, Some, None, ap, sym, ◌∙◌, subst, arith, length-append, inl, inr}
use Rattle.std.proofs.lemmas.Bool.{cases_lt, cases_eq}
use Rattle.doc_model.specs.declared.row.Row.{Row}
use Rattle.doc_model.specs.declared.step.Step.{Step}
use Rattle.doc_model.specs.declared.step.Step.TheVariants.{Node, Shut, End}
use Rattle.doc_model.specs.Document.{Document, start, after, document_from}
use Rattle.doc_model.specs.Lawful.{CanStep, CanJoin, LawfulFrom}
use Rattle.doc_model.specs.Relations.{parent_of}
use Rattle.doc_model.specs.Rows.{rows_of}
use Rattle.doc_laws.proofs.Growth.{document_is, parent_grows}
use Rattle.doc_laws.proofs.Stack.{StackOf, start_stack}
use Rattle.doc_laws.proofs.Links.{new_parent, attribute_parent}
use Rattle.doc_laws.proofs.Ends.{IsReached, reached_after}

pub record IsRooted (rows : List Row) : Type 0 where
  pub alone : (k : ℕ) → k < length rows → parent_of rows k ≡ None → k ≡ 0

none_some : (o : Option ℕ) (n : ℕ) → o ≡ None → o ≡ Some n → ⊥
none_some o n e f = let g : None ≡ Some n = sym e ∙ f in cc

join_rooted : (rows : List Row) (opened : List ℕ) → (row : Row) (attributes : List Row) → StackOf rows opened → 0 < length opened → CanJoin opened row attributes → IsRooted rows → IsRooted (rows ++ row ∷ attributes)
join_rooted rows [] row attributes stack some joins r = absurd (omega arith)
join_rooted rows (o ∷ os) row attributes stack some joins r = record {
  alone = λ k l h. elim (cases_lt k (length rows)) [
    | inl lt ↦ r.alone k lt (sym (parent_grows rows (row ∷ attributes) k lt) ∙ h)
    | inr ge ↦ absurd (elim (cases_eq k (length rows)) [
      | inl e ↦ none_some (parent_of (rows ++ row ∷ attributes) k) o h (ap (parent_of (rows ++ row ∷ attributes)) e ∙ new_parent rows o os row attributes stack joins)
      | inr ne ↦
          let s : k ≡ length rows + suc (k - suc (length rows)) = omega arith in
          none_some (parent_of (rows ++ row ∷ attributes) k) (length rows) h
          (ap (parent_of (rows ++ row ∷ attributes)) s ∙ attribute_parent rows o os row attributes stack joins (k - suc (length rows)) (omega (arith, length-append rows (row ∷ attributes))))
    ])
  ];
}

rooted_after : (s : Document) (step : Step) → IsReached s → s.ended ≡ None → CanStep s step → IsRooted s.rows → IsRooted (after s step).rows
rooted_after s (Node row attributes) r e c h = join_rooted s.rows s.opened row attributes r.stack (r.going e) c h
rooted_after s Shut r e c h = h
rooted_after s (End v) r e c h = h

rooted_from : (s : Document) (p : List Step) → IsReached s → LawfulFrom s p → IsRooted s.rows → IsRooted (document_from s p).rows
rooted_from s [] r l h = h
rooted_from s (x ∷ p) r l h = rooted_from (after s x) p (reached_after s x r l.1) l.2 (rooted_after s x r l.0 l.1 h)

pub lawful_rooted : (p : List Step) → LawfulFrom start p → IsRooted (rows_of p)
lawful_rooted p l =
    let begun : IsReached start = record { stack = start_stack; going = λ e. omega arith } in
    subst (λ (s : Document). IsRooted s.rows) (document_is p) (rooted_from start p begun l (record { alone = λ k b h. omega arith }))
