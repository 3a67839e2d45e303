-- Filters over runs of numbers.
use Rattle.std.proofs.Common.{◌≡◌, ℕ, zero, suc, ◌+◌, ◌-◌, ◌<◌, ◌≤◌, Bool, true, false, List, [], ◌∷◌, ◌++◌, Some, None, filter, refl, ap, sym, ◌∙◌, arith, ltb, append-nil, inl, inr, ◌⊎◌}
use Rattle.std.proofs.lemmas.Bool.{cases_Bool, cases_eq, lt-ltb, le-ltb}
use Rattle.std.proofs.lemmas.List.Elements.{filter-append}
use Rattle.doc_model.specs.Relations.{numbers, first_of}

pub numbers-add : (a m n : ℕ) → numbers a (m + n) ≡ numbers a m ++ numbers (a + m) n
numbers-add a zero n = grind arith
numbers-add a (suc m) n =
    let e : suc m + n ≡ suc (m + n) = omega arith in
    let f : suc a + m ≡ a + suc m = omega arith in
    rw e (ap (λ xs. a ∷ xs) (numbers-add (suc a) m n) ∙ ap (λ k. a ∷ (numbers (suc a) m ++ numbers k n)) f)

-- one test at a time
pub filter_yes : (f : ℕ → Bool) (x : ℕ) (xs : List ℕ) → f x ≡ true → filter f (x ∷ xs) ≡ x ∷ filter f xs
filter_yes f x xs e = rw e

pub filter_no : (f : ℕ → Bool) (x : ℕ) (xs : List ℕ) → f x ≡ false → filter f (x ∷ xs) ≡ filter f xs
filter_no f x xs e = rw e

pub filter_same : (f g : ℕ → Bool) (a c : ℕ) → ((k : ℕ) → a ≤ k → k < a + c → f k ≡ g k) → filter f (numbers a c) ≡ filter g (numbers a c)
filter_same f g a zero h = refl
filter_same f g a (suc c) h =
    let e : f a ≡ g a = h a (omega arith) (omega arith) in
    let r = filter_same f g (suc a) c (λ k l m. h k (omega arith) (omega arith)) in
    rw (e, r)

pub filter_nothing : (f : ℕ → Bool) (a c : ℕ) → ((k : ℕ) → a ≤ k → k < a + c → f k ≡ false) → filter f (numbers a c) ≡ []
filter_nothing f a zero h = refl
filter_nothing f a (suc c) h =
    let e : f a ≡ false = h a (omega arith) (omega arith) in
    rw e (filter_nothing f (suc a) c (λ k l m. h k (omega arith) (omega arith)))

-- what is known of the first number that passes
pub record IsFirst (f : ℕ → Bool) (a c k : ℕ) : Type 0 where
  pub passes : f k ≡ true
  pub from : a ≤ k
  pub within : k < a + c
  pub none : filter f (numbers a (k - a)) ≡ []

pub first_some : (f : ℕ → Bool) (a c k : ℕ) → first_of (filter f (numbers a c)) ≡ Some k → IsFirst f a c k
first_some f a zero k h = absurd cc
first_some f a (suc c) k h =
    elim (cases_Bool (f a)) [
      | inl e ↦
          let h' : Some a ≡ Some k = sym (ap first_of (filter_yes f a (numbers (suc a) c) e)) ∙ h in
          let ak : a ≡ k = cc in
          let z : k - a ≡ 0 = omega arith in
          record { passes = rw (← ak) e; from = omega arith; within = omega arith; none = rw z }
      | inr e ↦
          let h' : first_of (filter f (numbers (suc a) c)) ≡ Some k = sym (ap first_of (filter_no f a (numbers (suc a) c) e)) ∙ h in
          let r = first_some f (suc a) c k h' in
          let z : k - a ≡ suc (k - suc a) = omega (arith, r.from) in
          record { passes = r.passes; from = omega (arith, r.from); within = omega (arith, r.within); none = rw z (filter_no f a (numbers (suc a) (k - suc a)) e ∙ r.none) }
    ]

pub first_none : (xs : List ℕ) → first_of xs ≡ None → xs ≡ []
first_none [] h = refl
first_none (x ∷ xs) h = absurd cc

pub filter_after : (f : ℕ → Bool) (m a c : ℕ) → m < a → filter (ltb m) (filter f (numbers a c)) ≡ filter f (numbers a c)
filter_after f m a zero h = refl
filter_after f m a (suc c) h =
    let r = filter_after f m (suc a) c (omega arith) in
    let l : ltb m a ≡ true = lt-ltb m a h in
    elim (cases_Bool (f a)) [ inl e ↦ rw (e, l, r) | inr e ↦ rw (e, r) ]

pub filter_before : (f : ℕ → Bool) (m a c : ℕ) → a + c ≤ suc m → filter (ltb m) (filter f (numbers a c)) ≡ []
filter_before f m a zero h = refl
filter_before f m a (suc c) h =
    let r = filter_before f m (suc a) c (omega arith) in
    let l : ltb m a ≡ false = le-ltb m a (omega arith) in
    elim (cases_Bool (f a)) [ inl e ↦ rw (e, l, r) | inr e ↦ rw (e, r) ]

pub filter-split : (f : ℕ → Bool) (a m n : ℕ) → filter f (numbers a (m + n)) ≡ filter f (numbers a m) ++ filter f (numbers (a + m) n)
filter-split f a m n = ap (filter f) (numbers-add a m n) ∙ filter-append f (numbers a m) (numbers (a + m) n)

pub after_of : (f : ℕ → Bool) (m c : ℕ) → m < c → filter (ltb m) (filter f (numbers 0 c)) ≡ filter f (numbers (suc m) (c - suc m))
after_of f m c h =
    let e : c ≡ suc m + (c - suc m) = omega arith in
    let z : 0 + suc m ≡ suc m = omega arith in
    let s : filter f (numbers 0 c) ≡ filter f (numbers 0 (suc m)) ++ filter f (numbers (suc m) (c - suc m)) = ap (λ k. filter f (numbers 0 k)) e ∙ filter-split f 0 (suc m) (c - suc m) ∙ ap (λ k. filter f (numbers 0 (suc m)) ++ filter f (numbers k (c - suc m))) z in
    ap (filter (ltb m)) s ∙ filter-append (ltb m) (filter f (numbers 0 (suc m))) (filter f (numbers (suc m) (c - suc m)))
    ∙ ap (λ xs. xs ++ filter (ltb m) (filter f (numbers (suc m) (c - suc m)))) (filter_before f m 0 (suc m) (omega arith))
    ∙ filter_after f m (suc m) (c - suc m) (omega arith)

pub one_more : (f : ℕ → Bool) (m : ℕ) → f m ≡ true → filter f (numbers 0 (suc m)) ≡ filter f (numbers 0 m) ++ m ∷ []
one_more f m e =
    let s : suc m ≡ m + 1 = omega arith in
    let z : 0 + m ≡ m = omega arith in
    ap (λ k. filter f (numbers 0 k)) s ∙ filter-split f 0 m 1 ∙ ap (λ k. filter f (numbers 0 m) ++ filter f (k ∷ [])) z ∙ ap (λ xs. filter f (numbers 0 m) ++ xs) (filter_yes f m [] e)

-- what is known of the next number that passes
pub record IsNext (f : ℕ → Bool) (m c k : ℕ) : Type 0 where
  pub passes : f k ≡ true
  pub above : m < k
  pub within : k < c
  pub same : filter f (numbers 0 k) ≡ filter f (numbers 0 (suc m))

pub next_some : (f : ℕ → Bool) (m c k : ℕ) → m < c → first_of (filter (ltb m) (filter f (numbers 0 c))) ≡ Some k → IsNext f m c k
next_some f m c k l h =
    let r = first_some f (suc m) (c - suc m) k (sym (ap first_of (after_of f m c l)) ∙ h) in
    let e : k ≡ suc m + (k - suc m) = omega (arith, r.from) in
    let z : 0 + suc m ≡ suc m = omega arith in
    record {
      passes = r.passes;
      above = omega (arith, r.from);
      within = omega (arith, r.within);
      same = ap (λ k. filter f (numbers 0 k)) e ∙ filter-split f 0 (suc m) (k - suc m) ∙ ap (λ j. filter f (numbers 0 (suc m)) ++ filter f (numbers j (k - suc m))) z ∙ ap (λ xs. filter f (numbers 0 (suc m)) ++ xs) r.none ∙ append-nil _;
    }

pub next_none : (f : ℕ → Bool) (m c : ℕ) → m < c → first_of (filter (ltb m) (filter f (numbers 0 c))) ≡ None → filter f (numbers 0 c) ≡ filter f (numbers 0 (suc m))
next_none f m c l h =
    let r = first_none _ (sym (ap first_of (after_of f m c l)) ∙ h) in
    let e : c ≡ suc m + (c - suc m) = omega arith in
    let z : 0 + suc m ≡ suc m = omega arith in
    ap (λ k. filter f (numbers 0 k)) e ∙ filter-split f 0 (suc m) (c - suc m) ∙ ap (λ j. filter f (numbers 0 (suc m)) ++ filter f (numbers j (c - suc m))) z ∙ ap (λ xs. filter f (numbers 0 (suc m)) ++ xs) r ∙ append-nil _

pub filter_none_no : (f : ℕ → Bool) (a c k : ℕ) → filter f (numbers a c) ≡ [] → a ≤ k → k < a + c → f k ≡ false
filter_none_no f a zero k h l m = absurd (omega arith)
filter_none_no f a (suc c) k h l m =
    elim (cases_Bool (f a)) [
      | inl e ↦ absurd (nonempty a (filter f (numbers (suc a) c)) (sym (filter_yes f a (numbers (suc a) c) e) ∙ h))
      | inr e ↦ elim (cases_eq a k) [
        | inl same ↦ rw (← same) e
        | inr ne ↦ filter_none_no f (suc a) c k (sym (filter_no f a (numbers (suc a) c) e) ∙ h) (omega arith) (omega arith)
      ]
    ]
  where
    nonempty : (x : ℕ) (xs : List ℕ) → x ∷ xs ≡ [] → ⊥
    nonempty x xs e = cc

pub first_or_none : (xs : List ℕ) → (xs ≡ []) ⊎ ((x : ℕ) × (first_of xs ≡ Some x))
first_or_none [] = inl refl
first_or_none (x ∷ xs) = inr (x, refl)

pub first_of-append : (xs ys : List ℕ) (x : ℕ) → first_of xs ≡ Some x → first_of (xs ++ ys) ≡ Some x
first_of-append [] ys x h = absurd cc
first_of-append (z ∷ xs) ys x h = h
