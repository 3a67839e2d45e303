-- Where the first row that is too deep stands.
use Rattle.std.proofs.Common.{◌≡◌, ℕ, zero, suc, ◌+◌, ◌<◌, Bool, true, false, cond, not, ◌&&◌, List, [], ◌∷◌, ◌++◌, nat_le, length, Option, Some}
use Rattle.std.proofs.Common.{None, drop, take, find, refl, ap, sym, ◌∙◌, arith, append-nil, inl, inr}
use Rattle.std.proofs.lemmas.Bool.{cases_Bool}
use Rattle.std.proofs.lemmas.List.{take-append-drop}
use Rattle.std.proofs.Math.Seq.{drop-cons, take-suc}
use Rattle.std.specs.List.{position_or_len}
use Rattle.std.specs.Option.{option_map}
use Rattle.doc_model.specs.declared.row.Row.{Row}
use Rattle.doc_model.specs.Document.{is_attribute}
use Rattle.doc_model.specs.Relations.{attribute_run, attr_count_of}
use Rattle.doc_model.specs.Rows.{root_row, row_at}
use Rattle.text_walk.specs.declared.fault.FaultKind.{FaultKind}
use Rattle.text_walk.specs.declared.fault.FaultKind.TheVariants.{TooDeep}
use Rattle.text_walk.specs.BuiltIn.{is_too_deep, reached, fault_of}
use Rattle.text_walk.proofs.Text.{take_on}

pub no_fault : (o : Option FaultKind) (k : FaultKind) → o ≡ Some k → o ≡ None → ⊥
no_fault o k h e = cc

fault_cons : (x : Row) (xs : List Row) (b : Bool) → is_too_deep x ≡ b → fault_of (x ∷ xs) ≡ cond b (Some TooDeep) (fault_of xs)
fault_cons x xs true e = ap (λ b. option_map (λ (r : Row). TooDeep) (cond b (Some x) (find is_too_deep xs))) e
fault_cons x xs false e = ap (λ b. option_map (λ (r : Row). TooDeep) (cond b (Some x) (find is_too_deep xs))) e

reached_cons : (x : Row) (xs : List Row) (b : Bool) → is_too_deep x ≡ b → reached (x ∷ xs) ≡ cond b [] (x ∷ reached xs)
reached_cons x xs true e = ap (λ b. take (cond (not b) (1 + position_or_len is_too_deep xs) 0) (x ∷ xs)) e
reached_cons x xs false e =
    let s : 1 + position_or_len is_too_deep xs ≡ suc (position_or_len is_too_deep xs) = omega arith in
    ap (λ b. take (cond (not b) (1 + position_or_len is_too_deep xs) 0) (x ∷ xs)) e ∙ ap (λ k. take k (x ∷ xs)) s

-- after rows of which none is too deep the first that is stands in what follows
pub fault_past : (xs ys : List Row) → fault_of xs ≡ None → fault_of (xs ++ ys) ≡ fault_of ys
fault_past [] ys h = refl
fault_past (x ∷ xs) ys h = elim (cases_Bool (is_too_deep x)) [
  | inl e ↦ absurd (no_fault (fault_of (x ∷ xs)) TooDeep (fault_cons x xs true e) h)
  | inr e ↦ fault_cons x (xs ++ ys) false e ∙ fault_past xs ys (sym (fault_cons x xs false e) ∙ h)
]

pub reached_past : (xs ys : List Row) → fault_of xs ≡ None → reached (xs ++ ys) ≡ xs ++ reached ys
reached_past [] ys h = refl
reached_past (x ∷ xs) ys h = elim (cases_Bool (is_too_deep x)) [
  | inl e ↦ absurd (no_fault (fault_of (x ∷ xs)) TooDeep (fault_cons x xs true e) h)
  | inr e ↦ reached_cons x (xs ++ ys) false e ∙ ap (λ zs. x ∷ zs) (reached_past xs ys (sym (fault_cons x xs false e) ∙ h))
]

pub reached_all : (xs : List Row) → fault_of xs ≡ None → reached xs ≡ xs
reached_all [] h = refl
reached_all (x ∷ xs) h = elim (cases_Bool (is_too_deep x)) [
  | inl e ↦ absurd (no_fault (fault_of (x ∷ xs)) TooDeep (fault_cons x xs true e) h)
  | inr e ↦ reached_cons x xs false e ∙ ap (λ zs. x ∷ zs) (reached_all xs (sym (fault_cons x xs false e) ∙ h))
]

-- what follows the first row that is too deep does not count
pub fault_stays : (xs ys : List Row) (k : FaultKind) → fault_of xs ≡ Some k → (fault_of (xs ++ ys) ≡ Some k) × (reached (xs ++ ys) ≡ reached xs)
fault_stays [] ys k h = absurd (no_fault None k h refl)
fault_stays (x ∷ xs) ys k h = elim (cases_Bool (is_too_deep x)) [
  | inl e ↦ (fault_cons x (xs ++ ys) true e ∙ sym (fault_cons x xs true e) ∙ h, reached_cons x (xs ++ ys) true e ∙ sym (reached_cons x xs true e))
  | inr e ↦
      let r = fault_stays xs ys k (sym (fault_cons x xs false e) ∙ h) in
      (fault_cons x (xs ++ ys) false e ∙ r.0, reached_cons x (xs ++ ys) false e ∙ ap (λ zs. x ∷ zs) r.1 ∙ sym (reached_cons x xs false e))
]

-- the row after such rows is the first that is too deep
pub fault_here : (rows : List Row) (n : ℕ) → n < length rows → fault_of (take n rows) ≡ None → is_too_deep (row_at rows n) ≡ true → (fault_of rows ≡ Some TooDeep) × (reached rows ≡ take n rows)
fault_here rows n l h e =
    let split : rows ≡ take n rows ++ row_at rows n ∷ drop (suc n) rows = sym (take-append-drop n rows) ∙ ap (λ xs. take n rows ++ xs) (drop-cons rows n root_row l) in (
      ap fault_of split ∙ fault_past (take n rows) _ h ∙ fault_cons (row_at rows n) (drop (suc n) rows) true e,
      ap reached split ∙ reached_past (take n rows) _ h ∙ ap (λ xs. take n rows ++ xs) (reached_cons (row_at rows n) (drop (suc n) rows) true e) ∙ append-nil (take n rows),
    )

-- no attribute is too deep
run_shallow : (xs : List Row) → fault_of (take (attribute_run xs) xs) ≡ None
run_shallow [] = refl
run_shallow (x ∷ xs) = elim (cases_Bool (is_attribute x.kind)) [
  | inr e ↦ rw e refl
  | inl e ↦
      let count : take (attribute_run (x ∷ xs)) (x ∷ xs) ≡ x ∷ take (attribute_run xs) xs = ap (λ b. take (cond b (suc (attribute_run xs)) 0) (x ∷ xs)) e in
      let fine : is_too_deep x ≡ false = ap (λ b. not b && nat_le 500 x.depth) e in
      ap fault_of count ∙ fault_cons x (take (attribute_run xs) xs) false fine ∙ run_shallow xs
]

-- the rows up to row n, the row, and its attributes
pub shallow_past : (rows : List Row) (n : ℕ) → n < length rows → fault_of (take n rows) ≡ None → is_too_deep (row_at rows n) ≡ false → fault_of (take (suc n + attr_count_of rows n) rows) ≡ None
shallow_past rows n l h e =
    let past : fault_of (take (attr_count_of rows n) (drop (suc n) rows)) ≡ None = elim (cases_Bool (is_attribute (row_at rows n).kind)) [
      | inl a ↦ rw a refl
      | inr a ↦ rw a (run_shallow (drop (suc n) rows))
    ] in
    let front : take (suc n) rows ≡ take n rows ++ row_at rows n ∷ [] = take-suc rows n root_row l in
    let none : fault_of (take (suc n) rows) ≡ None = ap fault_of front ∙ fault_past (take n rows) _ h ∙ fault_cons (row_at rows n) [] false e in
    ap fault_of (take_on (suc n) (attr_count_of rows n) rows) ∙ fault_past (take (suc n) rows) _ none ∙ past

-- a row among such rows is not too deep
pub shallow_at : (rows : List Row) (k n : ℕ) → fault_of (take k rows) ≡ None → n < k → n < length rows → is_too_deep (row_at rows n) ≡ false
shallow_at [] k n h m l = absurd (omega arith)
shallow_at (x ∷ rows) zero n h m l = absurd (omega arith)
shallow_at (x ∷ rows) (suc k) zero h m l = elim (cases_Bool (is_too_deep x)) [
  | inl e ↦ absurd (no_fault (fault_of (x ∷ take k rows)) TooDeep (fault_cons x (take k rows) true e) h)
  | inr e ↦ e
]
shallow_at (x ∷ rows) (suc k) (suc n) h m l = elim (cases_Bool (is_too_deep x)) [
  | inl e ↦ absurd (no_fault (fault_of (x ∷ take k rows)) TooDeep (fault_cons x (take k rows) true e) h)
  | inr e ↦ shallow_at rows k n (sym (fault_cons x (take k rows) false e) ∙ h) (omega arith) (omega arith)
]
