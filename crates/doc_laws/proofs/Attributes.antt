-- The attributes of a row are the rows right after it.
use Rattle.std.proofs.Common.{◌≡◌, ℕ, zero, suc, ◌+◌, ◌-◌, ◌<◌, ◌≤◌, true, false, cond, List, [], ◌∷◌, length, Option, Some, drop, ap, sym, ◌∙◌, arith, inl, inr, get_or-drop, length-drop}
use Rattle.std.proofs.lemmas.Bool.{cases_Bool, cases_lt, and_parts, and_from, eq-eqb, false≢true}
use Rattle.doc_model.specs.declared.row.Kind.{Kind}
use Rattle.doc_model.specs.declared.row.Row.{Row}
use Rattle.doc_model.specs.Axes.{is_attribute_of}
use Rattle.doc_model.specs.Document.{is_attribute, is_parent}
use Rattle.doc_model.specs.Relations.{parent_of, is_some_of, attribute_run, attr_count_of}
use Rattle.doc_model.specs.Rows.{root_row, row_at}
use Rattle.doc_laws.proofs.Kids.{is_some_of-true}
use Rattle.doc_laws.proofs.Links.{parent_before}
use Rattle.doc_laws.proofs.Sound.{TreeHolds}
use Rattle.doc_laws.proofs.Subtrees.{parent_plain}

run_reaches : (rows : List Row) (c : ℕ) → c ≤ length rows → ((j : ℕ) → j < c → is_attribute (row_at rows j).kind ≡ true) → c ≤ attribute_run rows
run_reaches rows zero l h = omega arith
run_reaches [] (suc c) l h = absurd (omega arith)
run_reaches (x ∷ rows) (suc c) l h =
    let more = run_reaches rows c (omega (arith, l)) (λ j m. h (suc j) (omega (arith, m))) in
    let run : attribute_run (x ∷ rows) ≡ suc (attribute_run rows) = ap (λ b. cond b (suc (attribute_run rows)) 0) (h 0 (omega arith)) in
    omega (arith, more, run)

run_holds : (rows : List Row) (j : ℕ) → j < attribute_run rows → is_attribute (row_at rows j).kind ≡ true
run_holds [] j l = absurd (omega arith)
run_holds (x ∷ rows) zero l = elim (cases_Bool (is_attribute x.kind)) [
  | inl e ↦ e
  | inr e ↦ absurd (omega (arith, l, ap (λ b. cond b (suc (attribute_run rows)) 0) e))
]
run_holds (x ∷ rows) (suc j) l = elim (cases_Bool (is_attribute x.kind)) [
  | inl e ↦ run_holds rows j (omega (arith, l, ap (λ b. cond b (suc (attribute_run rows)) 0) e))
  | inr e ↦ absurd (omega (arith, l, ap (λ b. cond b (suc (attribute_run rows)) 0) e))
]

plain_parent : (k : Kind) → is_parent k ≡ true → is_attribute k ≡ true → ⊥
plain_parent k h a = false≢true (sym (parent_plain k h) ∙ a)

same_owner : (o : Option ℕ) (a b : ℕ) → o ≡ Some a → o ≡ Some b → a ≡ b
same_owner o a b e f = let g : Some a ≡ Some b = sym e ∙ f in some_same a b g
  where
    some_same : (a b : ℕ) → Some a ≡ Some b → a ≡ b
    some_same a b h = cc

module _ (rows : List Row) (tree : TreeHolds rows) (n k : ℕ) (within : n < length rows) (inside : k < length rows) where
  dropped : (j : ℕ) → row_at (drop (suc n) rows) j ≡ row_at rows (suc n + j)
  dropped j = get_or-drop (suc n) rows j root_row

  -- a row that is no attribute has as many as there are right after it
  count_is : is_attribute (row_at rows n).kind ≡ false → attr_count_of rows n ≡ attribute_run (drop (suc n) rows)
  count_is e = ap (λ b. cond b 0 (attribute_run (drop (suc n) rows))) e

  pub attribute_after : is_attribute_of rows n k ≡ true → (n < k) × (k ≤ n + attr_count_of rows n)
  attribute_after h =
      let p = and_parts (is_attribute (row_at rows k).kind) (is_some_of (parent_of rows k) n) h in
      let f = tree.follow k inside p.0 in
      let e = same_owner (parent_of rows k) f.owner n f.parent (is_some_of-true (parent_of rows k) n p.1) in
      let parent = tree.parents k n inside (is_some_of-true (parent_of rows k) n p.1) in
      elim (cases_Bool (is_attribute (row_at rows n).kind)) [
        | inl bad ↦ absurd (plain_parent (row_at rows n).kind parent bad)
        | inr plain ↦
            let less = (parent_before rows k n (is_some_of-true (parent_of rows k) n p.1)).0 in
            let run = run_reaches (drop (suc n) rows) (k - n) (omega (arith, length-drop (suc n) rows, inside)) (λ j m. ap (λ (r : Row). is_attribute r.kind) (dropped j) ∙ f.between (suc n + j) (omega (arith, e)) (omega (arith, m, less))) in
            (less, omega (arith, run, count_is plain, less))
      ]

  pub attribute_if_after : (n < k) × (k ≤ n + attr_count_of rows n) → is_attribute_of rows n k ≡ true
  attribute_if_after h = elim (cases_Bool (is_attribute (row_at rows n).kind)) [
    | inl bad ↦ absurd (omega (arith, h.0, h.1, ap (λ b. cond b 0 (attribute_run (drop (suc n) rows))) bad))
    | inr plain ↦
        let run : (j : ℕ) → n < j → j ≤ k → is_attribute (row_at rows j).kind ≡ true = λ j l m.
        (let at : suc n + (j - suc n) ≡ j = omega (arith, l) in
        ap (λ i. is_attribute (row_at rows i).kind) (sym at) ∙ ap (λ (r : Row). is_attribute r.kind) (sym (dropped (j - suc n)))
        ∙ run_holds (drop (suc n) rows) (j - suc n) (omega (arith, h.1, count_is plain, l, m))) in
        let here = run k h.0 (omega arith) in
        let f = tree.follow k inside here in
        let parent = tree.parents k f.owner inside f.parent in
        and_from _ _ here (ap (λ o. is_some_of o n) f.parent ∙ eq-eqb f.owner n (elim (cases_lt f.owner n) [
          | inl less ↦ absurd (false≢true (sym plain ∙ f.between n less (omega (arith, h.0))))
          | inr more ↦ elim (cases_lt n f.owner) [
            | inl above ↦ absurd (plain_parent (row_at rows f.owner).kind parent (run f.owner above (omega (arith, (parent_before rows k f.owner f.parent).0))))
            | inr same ↦ omega (arith, more, same)
          ]
        ]))
  ]
