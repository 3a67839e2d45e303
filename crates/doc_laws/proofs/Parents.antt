-- The parent is the greatest earlier row that can be one.
use Rattle.std.proofs.Common.{◌≡◌, ℕ, zero, suc, ◌+◌, ◌-◌, ◌<◌, ◌≤◌, true, false, cond, List, [], ◌∷◌, length, Option, Some, None, take, refl, ap, sym, ◌∙◌, arith, length-take, get_or-take, inl, inr, ◌⊎◌}
use Rattle.std.proofs.lemmas.Bool.{cases_Bool}
use Rattle.doc_model.specs.declared.row.Row.{Row}
use Rattle.doc_model.specs.Relations.{is_above, last_above_from, parent_of}
use Rattle.doc_model.specs.Rows.{root_row, row_at}
use Rattle.doc_model.specs.Subtree.{IsParent}

pub last_above_skip : (d n : ℕ) (rows : List Row) (found : Option ℕ) → ((k : ℕ) → k < length rows → is_above d (row_at rows k) ≡ false) → last_above_from d n rows found ≡ found
last_above_skip d n [] found h = refl
last_above_skip d n (r ∷ rows) found h =
    ap (λ b. last_above_from d (suc n) rows (cond b (Some n) found)) (h 0 (omega arith)) ∙ last_above_skip d (suc n) rows found (λ k l. h (suc k) (omega arith))

pub last_above_at : (d n : ℕ) (rows : List Row) (found : Option ℕ) (o : ℕ) → o < length rows → is_above d (row_at rows o) ≡ true → ((k : ℕ) → o < k → k < length rows → is_above d (row_at rows k) ≡ false) → last_above_from d n rows found ≡ Some (n + o)
last_above_at d n [] found o l e h = absurd (omega arith)
last_above_at d n (r ∷ rows) found zero l e h =
    let z : n ≡ n + 0 = omega arith in
    ap (λ b. last_above_from d (suc n) rows (cond b (Some n) found)) e ∙ last_above_skip d (suc n) rows (Some n) (λ k m. h (suc k) (omega arith) (omega arith)) ∙ ap (λ k. Some k) z
last_above_at d n (r ∷ rows) found (suc o) l e h =
    let z : suc n + o ≡ n + suc o = omega arith in
    last_above_at d (suc n) rows (cond (is_above d r) (Some n) found) o (omega arith) e (λ k m p. h (suc k) (omega arith) (omega arith)) ∙ ap (λ k. Some k) z

-- what is known of the row that was found, of rows that are numbered from n
record IsFound (d n : ℕ) (rows : List Row) (j : ℕ) : Type 0 where
  pub from : n ≤ j
  pub within : j < n + length rows
  pub above : is_above d (row_at rows (j - n)) ≡ true
  pub none : (k : ℕ) → j - n < k → k < length rows → is_above d (row_at rows k) ≡ false

one_on : (d : ℕ) (r : Row) (rows : List Row) (i : ℕ) → ((k : ℕ) → i ≤ k → k < length rows → is_above d (row_at rows k) ≡ false) → (k : ℕ) → i < k → k < length (r ∷ rows) → is_above d (row_at (r ∷ rows) k) ≡ false
one_on d r rows i h zero l m = absurd (omega arith)
one_on d r rows i h (suc k) l m = h k (omega arith) (omega arith)

all_of : (d : ℕ) (r : Row) (rows : List Row) → is_above d r ≡ false → ((k : ℕ) → k < length rows → is_above d (row_at rows k) ≡ false) → (k : ℕ) → k < length (r ∷ rows) → is_above d (row_at (r ∷ rows) k) ≡ false
all_of d r rows f h zero l = f
all_of d r rows f h (suc k) l = h k (omega arith)

same_some : (a b : ℕ) → Some a ≡ Some b → a ≡ b
same_some a b h = cc

no_some : (j : ℕ) → None ≡ Some j → ⊥
no_some j h = cc

abbrev Outcome : ℕ → ℕ → List Row → Option ℕ → ℕ → Type 0
Outcome d n rows found j = ((found ≡ Some j) × ((k : ℕ) → k < length rows → is_above d (row_at rows k) ≡ false)) ⊎ IsFound d n rows j

last_above_some : (d n : ℕ) (rows : List Row) (found : Option ℕ) (j : ℕ) → last_above_from d n rows found ≡ Some j → Outcome d n rows found j
last_above_some d n [] found j h = inl (h, λ k l. absurd (omega arith))
last_above_some d n (r ∷ rows) found j h =
    elim (last_above_some d (suc n) rows (cond (is_above d r) (Some n) found) j h) [
      | inl e ↦ elim (cases_Bool (is_above d r)) [
        | inl t ↦
            let nj : n ≡ j = same_some n j (sym (ap (λ b. cond b (Some n) found) t) ∙ e.0) in
            let z : j - n ≡ 0 = omega arith in
            inr (record {
              from = omega arith;
              within = omega arith;
              above = ap (λ k. is_above d (row_at (r ∷ rows) k)) z ∙ t;
              none = λ k l m. one_on d r rows zero (λ i a b. e.1 i b) k (omega arith) m;
            })
        | inr f ↦ inl (sym (ap (λ b. cond b (Some n) found) f) ∙ e.0, all_of d r rows f e.1)
      ]
      | inr f ↦
          let z : j - n ≡ suc (j - suc n) = omega (arith, f.from) in
          inr (record {
            from = omega (arith, f.from);
            within = omega (arith, f.within);
            above = ap (λ k. is_above d (row_at (r ∷ rows) k)) z ∙ f.above;
            none = λ k l m. one_on d r rows (suc (j - suc n)) (λ i a b. f.none i (omega arith) b) k (omega arith) m;
          })
    ]

pub parent_is : (rows : List Row) (m n : ℕ) → m < length rows → parent_of rows m ≡ Some n → IsParent rows m n
parent_is rows m n l h =
    let d : ℕ = (row_at rows m).depth in
    let len : length (take m rows) ≡ m = length-take m rows ∙ omega arith in
    let at : (k : ℕ) → k < m → row_at (take m rows) k ≡ row_at rows k = λ (k : ℕ) (a : k < m). get_or-take m rows k root_row a in
    let z : n - 0 ≡ n = omega arith in
    elim (last_above_some d 0 (take m rows) None n h) [
      | inl e ↦ absurd (no_some n e.0)
      | inr f ↦
          let lt : n < m = omega (arith, f.within, len) in
          record {
            earlier = lt;
            above = sym (ap (is_above d) (at n lt)) ∙ sym (ap (λ k. is_above d (row_at (take m rows) k)) z) ∙ f.above;
            greatest = λ k a b. sym (ap (is_above d) (at k b)) ∙ f.none k (omega arith) (omega (arith, len));
          }
    ]

pub parent_from : (rows : List Row) (m n : ℕ) → m < length rows → IsParent rows m n → parent_of rows m ≡ Some n
parent_from rows m n l p =
    let d : ℕ = (row_at rows m).depth in
    let len : length (take m rows) ≡ m = length-take m rows ∙ omega arith in
    let z : 0 + n ≡ n = omega arith in
    last_above_at d 0 (take m rows) None n (omega (arith, len, p.earlier))
    (ap (is_above d) (get_or-take m rows n root_row p.earlier) ∙ p.above)
    (λ k a b. ap (is_above d) (get_or-take m rows k root_row (omega (arith, len))) ∙ p.greatest k a (omega (arith, len)))
    ∙ ap (λ k. Some k) z
