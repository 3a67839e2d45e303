-- The last child, and the link by which the next row is joined.
use Rattle.std.proofs.Common.{◌≡◌, ℕ, zero, suc, ◌+◌, ◌-◌, ◌<◌, ◌≤◌, Bool, true, List, [], ◌∷◌, length, Some, None, filter, refl, ap, sym, ◌∙◌, subst, arith, inl, inr, ◌⊎◌}
use Rattle.std.proofs.lemmas.Bool.{cases_Bool}
use Rattle.doc_model.specs.declared.row.Row.{Row}
use Rattle.doc_model.specs.Relations.{numbers, first_of, last_of, last_from, is_child, children_of, next_among, next_sibling}
use Rattle.doc_laws.proofs.Numbers.{filter_yes, filter_no, after_of}
use Rattle.doc_laws.proofs.Kids.{child_decider}

-- what is known of the last number that passes
pub record IsLast (f : ℕ → Bool) (a c k : ℕ) : Type 0 where
  pub passes : f k ≡ true
  pub from : a ≤ k
  pub within : k < a + c
  pub none : filter f (numbers (suc k) ((a + c) - suc k)) ≡ []

last_cases : (x : ℕ) (ys : List ℕ) → ((ys ≡ []) × (last_from x ys ≡ x)) ⊎ (last_of ys ≡ Some (last_from x ys))
last_cases x [] = inl (refl, refl)
last_cases x (y ∷ ys) = inr refl

same_some : (a b : ℕ) → Some a ≡ Some b → a ≡ b
same_some a b h = cc

pub last_some : (f : ℕ → Bool) (a c k : ℕ) → last_of (filter f (numbers a c)) ≡ Some k → IsLast f a c k
last_some f a zero k h = absurd cc
last_some f a (suc c) k h =
    let up : suc a + c ≡ a + suc c = omega arith in
    let later : IsLast f (suc a) c k → IsLast f a (suc c) k = λ r. record {
      passes = r.passes;
      from = omega (arith, r.from);
      within = omega (arith, r.within);
      none = subst (λ n. filter f (numbers (suc k) (n - suc k)) ≡ []) up r.none;
    } in
    elim (cases_Bool (f a)) [
      | inl e ↦
          let s : last_from a (filter f (numbers (suc a) c)) ≡ k = same_some _ k (sym (ap last_of (filter_yes f a (numbers (suc a) c) e)) ∙ h) in
          elim (last_cases a (filter f (numbers (suc a) c))) [
            | inl p ↦
                let same : a ≡ k = sym (p.1) ∙ s in
                let cut : (a + suc c) - suc a ≡ c = omega arith in
                subst (λ n. IsLast f a (suc c) n) same (record { passes = e; from = omega arith; within = omega arith; none = ap (λ n. filter f (numbers (suc a) n)) cut ∙ p.0 })
            | inr t ↦ later (last_some f (suc a) c k (t ∙ ap (λ n. Some n) s))
          ]
      | inr e ↦ later (last_some f (suc a) c k (sym (ap last_of (filter_no f a (numbers (suc a) c) e)) ∙ h))
    ]

pub last_none : (xs : List ℕ) → last_of xs ≡ None → xs ≡ []
last_none [] h = refl
last_none (x ∷ xs) h = absurd cc

-- what is known of the last child of a row
pub record IsLastChild (rows : List Row) (n k : ℕ) : Type 0 where
  pub child : is_child rows n k ≡ true
  pub within : k < length rows
  pub alone : next_sibling rows k ≡ None

pub last_child : (rows : List Row) (n k : ℕ) → last_of (children_of rows n) ≡ Some k → IsLastChild rows n k
last_child rows n k h =
    let r = last_some (is_child rows n) 0 (length rows) k h in
    let within : k < length rows = omega (arith, r.within) in
    let cut : (0 + length rows) - suc k ≡ length rows - suc k = omega arith in
    record {
      child = r.passes;
      within = within;
      alone =
          ap (next_among rows k) (child_decider rows n k r.passes)
          ∙ ap first_of (after_of (is_child rows n) k (length rows) within ∙ sym (ap (λ m. filter (is_child rows n) (numbers (suc k) m)) cut) ∙ r.none);
    }
