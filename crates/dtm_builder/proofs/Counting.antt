-- The sum over the distinct items of a list, whether the first or the last of equal items is kept.
use Rattle.std.proofs.Common.{◌≡◌, ℕ, ◌+◌, Bool, true, false, ◌||◌, cond, List, [], ◌∷◌, ◌++◌, refl, ap, sym, ◌∙◌, subst, arith, inl, inr}
use Rattle.std.specs.List.{sum_by}
use Rattle.std.proofs.lemmas.Bool.{cases_Bool, false≢true}
use Rattle.std.proofs.lemmas.List.Sums.{sum_by-cons, sum_by_push}

module _ {X : Type 0} (eq : X → X → Bool) where
  abbrev pub has : X → List X → Bool
  has x [] = false
  has x (y ∷ ys) = eq x y || has x ys

  -- the item is added at the end, if it is new
  abbrev pub with_new : List X → X → List X
  with_new xs x = cond (has x xs) xs (xs ++ x ∷ [])

  -- the items in the order of first sight, after those that were seen
  abbrev pub first_seen : List X → List X → List X
  first_seen seen [] = seen
  first_seen seen (x ∷ xs) = first_seen (with_new seen x) xs

  -- the last of equal items
  abbrev pub last_seen : List X → List X
  last_seen [] = []
  last_seen (x ∷ xs) = cond (has x xs) (last_seen xs) (x ∷ last_seen xs)

  -- the sum over the last of equal items, without those that were seen
  abbrev new_sum : (X → ℕ) → List X → List X → ℕ
  new_sum w seen [] = 0
  new_sum w seen (x ∷ xs) = cond (has x xs || has x seen) (new_sum w seen xs) (w x + new_sum w seen xs)

  or_false : (b : Bool) → (b || false) ≡ b
  or_false true = refl
  or_false false = refl

  or_true : (b : Bool) → (b || true) ≡ true
  or_true true = refl
  or_true false = refl

  or_assoc : (a b c : Bool) → ((a || b) || c) ≡ (a || (b || c))
  or_assoc true b c = refl
  or_assoc false b c = refl

  has_pushed : (x y : X) (xs : List X) → has x (xs ++ y ∷ []) ≡ (has x xs || eq x y)
  has_pushed x y [] = or_false (eq x y)
  has_pushed x y (z ∷ xs) = ap (λ b. eq x z || b) (has_pushed x y xs) ∙ sym (or_assoc (eq x z) (has x xs) (eq x y))

  unseen_sum : (w : X → ℕ) (xs : List X) → sum_by w (last_seen xs) ≡ new_sum w [] xs
  unseen_sum w [] = refl
  unseen_sum w (x ∷ xs) = elim (cases_Bool (has x xs)) [
    | inl e ↦ rw e (unseen_sum w xs)
    | inr e ↦ rw e (sum_by-cons w x (last_seen xs) ∙ ap (λ n. w x + n) (unseen_sum w xs))
  ]

  module _ (same : (a b : X) → eq a b ≡ true → a ≡ b) (self : (a : X) → eq a a ≡ true) where
    swapped : (a b : X) → eq a b ≡ false → eq b a ≡ false
    swapped a b e = elim (cases_Bool (eq b a)) [
      | inl f ↦ absurd (false≢true (sym e ∙ subst (λ q. eq a q ≡ true) (sym (same b a f)) (self a)))
      | inr f ↦ f
    ]

    -- one more item is seen
    one_more : (w : X → ℕ) (seen : List X) (n : X) (xs : List X) → has n seen ≡ false
        → new_sum w seen xs ≡ new_sum w (seen ++ n ∷ []) xs + cond (has n xs) (w n) 0
    one_more w seen n [] h = omega arith
    one_more w seen n (x ∷ xs) h = elim (cases_Bool (eq n x)) [
      | inl e ↦
          let is = same n x e in
          let out : has x seen ≡ false = subst (λ q. has q seen ≡ false) is h in
          let put : has x (seen ++ n ∷ []) ≡ true = has_pushed x n seen ∙ ap (λ b. has x seen || b) (subst (λ q. eq x q ≡ true) (sym is) (self x)) ∙ or_true (has x seen) in
          let weight : w n ≡ w x = ap w is in
          let step : new_sum w seen xs ≡ new_sum w (seen ++ n ∷ []) xs + cond (has x xs) (w n) 0 =
          subst (λ q. new_sum w seen xs ≡ new_sum w (seen ++ n ∷ []) xs + cond (has q xs) (w n) 0) is (one_more w seen n xs h) in
          elim (cases_Bool (has x xs)) [
            | inl f ↦ rw (e, put, out, f) (rw f at step)
            | inr f ↦
                let none : new_sum w seen xs ≡ new_sum w (seen ++ n ∷ []) xs + 0 = rw f at step in
                rw (e, put, out, f) (omega (arith, none, weight))
          ]
      | inr e ↦
          let put : has x (seen ++ n ∷ []) ≡ has x seen = has_pushed x n seen ∙ ap (λ b. has x seen || b) (swapped n x e) ∙ or_false (has x seen) in
          let step = one_more w seen n xs h in
          elim (cases_Bool (has x xs || has x seen)) [
            | inl f ↦ rw (e, put, f) step
            | inr f ↦ rw (e, put, f) (omega (arith, step))
          ]
    ]

    sums_from : (w : X → ℕ) (seen xs : List X) → sum_by w (first_seen seen xs) ≡ sum_by w seen + new_sum w seen xs
    sums_from w seen [] = omega arith
    sums_from w seen (x ∷ xs) = elim (cases_Bool (has x seen)) [
      | inl e ↦ rw (e, or_true (has x xs)) (sums_from w seen xs)
      | inr e ↦
          let rest = sums_from w (seen ++ x ∷ []) xs in
          let pushed = sum_by_push w seen x in
          let step = one_more w seen x xs e in
          elim (cases_Bool (has x xs)) [
            | inl f ↦
                let more : new_sum w seen xs ≡ new_sum w (seen ++ x ∷ []) xs + w x = rw f at step in
                rw (e, f) (omega (arith, rest, pushed, more))
            | inr f ↦
                let more : new_sum w seen xs ≡ new_sum w (seen ++ x ∷ []) xs + 0 = rw f at step in
                rw (e, f) (omega (arith, rest, pushed, more))
          ]
    ]

    -- the sum is the same
    pub same_sum : (w : X → ℕ) (xs : List X) → sum_by w (first_seen [] xs) ≡ sum_by w (last_seen xs)
    same_sum w xs = sums_from w [] xs ∙ omega arith ∙ sym (unseen_sum w xs)
