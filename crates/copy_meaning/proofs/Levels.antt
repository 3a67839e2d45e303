-- Copies are made of copies: levels more than there are rows make no difference.
use Rattle.std.proofs.Common.{◌≡◌, ℕ, zero, suc, ◌+◌, ◌<◌, ◌≤◌, Bool, true, List, ◌++◌, length, filter, flat_map, refl, ap, sym, ◌∙◌, arith, inl, inr}
use Rattle.std.proofs.lemmas.Bool.{cases_Bool, and_parts}
use Rattle.doc_model.specs.declared.row.Row.{Row}
use Rattle.doc_model.specs.declared.step.Step.{Step}
use Rattle.doc_model.specs.declared.strip_rule.StripRule.{StripRule}
use Rattle.doc_model.specs.Lawful.{IsLawful, IsJoined}
use Rattle.doc_model.specs.Relations.{numbers, is_child}
use Rattle.doc_model.specs.Rows.{rows_of, rows_given, row_at}
use Rattle.doc_model.specs.Shown.{shown_of, is_shown}
use Rattle.doc_model.specs.Strip.{is_visible}
use Rattle.doc_laws.proofs.Numbers.{filter_yes, filter_no}
use Rattle.result_events.specs.declared.event.ResultEvent.{ResultEvent}
use Rattle.copy_meaning.specs.Copies.{made_of, attributes_of, copy_within, copy_in}
use Rattle.copy_meaning.proofs.Documents.{lawful_document}
use Rattle.copy_meaning.proofs.Families.{parent_depth, child_parent}
use Rattle.copy_meaning.proofs.Subtrees.{copy_passes}

flat_same : (g h : ℕ → List ResultEvent) (f : ℕ → Bool) (a c : ℕ) → ((k : ℕ) → a ≤ k → k < a + c → f k ≡ true → g k ≡ h k) → flat_map g (filter f (numbers a c)) ≡ flat_map h (filter f (numbers a c))
flat_same g h f a zero same = refl
flat_same g h f a (suc c) same =
    let rest = flat_same g h f (suc a) c (λ k l m e. same k (omega arith) (omega arith) e) in
    elim (cases_Bool (f a)) [
      | inl e ↦
          ap (flat_map g) (filter_yes f a (numbers (suc a) c) e)
          ∙ ap (λ xs. xs ++ flat_map g (filter f (numbers (suc a) c))) (same a (omega arith) (omega arith) e)
          ∙ ap (λ xs. h a ++ xs) rest
          ∙ sym (ap (flat_map h) (filter_yes f a (numbers (suc a) c) e))
      | inr e ↦ ap (flat_map g) (filter_no f a (numbers (suc a) c) e) ∙ rest ∙ sym (ap (flat_map h) (filter_no f a (numbers (suc a) c) e))
    ]

pub copy_made : (rules : List StripRule) (p : List Step) (n : ℕ) → IsLawful p → IsJoined p n
    → copy_in rules (rows_of p) n ≡ made_of (row_at (rows_of p) n).kind (row_at (rows_of p) n) (attributes_of (rows_of p) n) (flat_map (copy_in rules (rows_of p)) (shown_of rules (rows_of p) n))
unfolding copy_in
copy_made rules p n l j =
    let rows : List Row = rows_of p in
    let levels : ℕ = length (rows_given p) in
    ap (made_of (row_at (rows_of p) n).kind (row_at (rows_of p) n) (attributes_of (rows_of p) n))
    (flat_same (copy_within rules (rows_of p) (length (rows_given p))) (copy_within rules (rows_of p) (length (rows_of p))) (is_shown rules (rows_of p) n) 0 (length (rows_of p)) (λ k a b e.
    let doc = lawful_document p l in
    let child : is_child (rows_of p) n k ≡ true = (and_parts (is_visible rules (rows_of p) k) (is_child (rows_of p) n k) e).1 in
    let lk : k < length (rows_of p) = omega (arith, b) in
    let up = parent_depth (rows_of p) doc k n lk (child_parent (rows_of p) doc n k child) in
    copy_passes rules (rows_of p) doc (length (rows_given p)) k lk (omega (arith, up.0))
    ∙ sym (copy_passes rules (rows_of p) doc (length (rows_of p)) k lk (omega arith))))
