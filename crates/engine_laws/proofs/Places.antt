-- The places of items in the order of their sort keys are the one sorted list of them.
use Rattle.std.proofs.Common.{◌≡◌, refl, sym, ap, ◌∙◌, subst, ℕ, zero, suc, ◌+◌, ◌<◌, ◌≤◌, arith, Bool, true, false, cond, List, [], ◌∷◌, length, get_or, inl, inr, ◌⊎◌}
use Rattle.std.specs.Prelude.{⊤, sum_by, ◌==◌, IsPermutation, IsSorted, IsSortedBy}
use Rattle.std.specs.List.{range_with_len}
use Rattle.std.specs.Cmp.{IsTotalOrder}
use Rattle.std.specs.Ordering.{is_lt, nat_cmp, ordering_then, ordering_reverse}
use Rattle.std.specs.declared.cmp.Ordering.{Ordering}
use Rattle.std.specs.declared.cmp.Ordering.TheVariants.{Less, Equal, Greater}
use Rattle.std.proofs.lemmas.Bool.{cases_Bool, eqb-true, eq-eqb}
use Rattle.std.proofs.lemmas.Cmp.{ranked}
use Rattle.std.proofs.lemmas.List.Sorted.{sum_by-IsPermutation}
use Rattle.std.proofs.lemmas.List.Sums.{sum_by-cons}
use Rattle.rule_choice.specs.Sorting.{placed, sorted_by}
use Rattle.sort_keys.specs.Order.{row_cmp, row_at, place_cmp}
use Rattle.sort_keys.specs.declared.key.How.{How}
use Rattle.sort_keys.specs.declared.key.KeyPart.{KeyPart}
use Rattle.engine_laws.proofs.KeyTotal.{place_total}
use Rattle.xpath_laws.specs.Sound.{Each}
use Rattle.engine_meaning.specs.Sorts.{sorted_places_of}
use Rattle.engine_laws.proofs.Insertion.{NotBefore, NoneBefore, Ascends, sorted_ascends, all_through}

-- one, for this number
abbrev pub one_for : ℕ → ℕ → ℕ
one_for z x = cond (x == z) 1 0

-- how often a number stands in a list
abbrev pub times : ℕ → List ℕ → ℕ
times z xs = sum_by (one_for z) xs

pub more_times : (z x : ℕ) (xs : List ℕ) → times z (x ∷ xs) ≡ one_for z x + times z xs
more_times z x xs = sum_by-cons (one_for z) x xs

itself_once : (z : ℕ) → one_for z z ≡ 1
itself_once z = ap (λ b. cond b 1 0) (eq-eqb z z refl)

module _ (cmp : ℕ → ℕ → Ordering) where
  times_placed : (z x : ℕ) (ys : List ℕ) → times z (placed cmp x ys) ≡ times z (x ∷ ys)
  times_placed z x [] = refl
  times_placed z x (y ∷ ys) = by_test (is_lt (cmp y x)) (times_placed z x ys)
    where
      by_test : (b : Bool) → times z (placed cmp x ys) ≡ times z (x ∷ ys) → times z (cond b (y ∷ placed cmp x ys) (x ∷ y ∷ ys)) ≡ times z (x ∷ y ∷ ys)
      by_test true r =
          let a = more_times z y (placed cmp x ys) in
          let b = more_times z x ys in
          let c = more_times z x (y ∷ ys) in
          let d = more_times z y ys in
          omega (arith, r, a, b, c, d)
      by_test false r = refl

  pub times_sorted : (z : ℕ) (xs : List ℕ) → times z (sorted_by cmp xs) ≡ times z xs
  times_sorted z [] = refl
  times_sorted z (x ∷ xs) =
      let a = times_placed z x (sorted_by cmp xs) in
      let b = more_times z x (sorted_by cmp xs) in
      let c = more_times z x xs in
      let r = times_sorted z xs in
      omega (arith, a, b, c, r)

  -- a number that stands in a list does not come before its head, or is the head
  in_list : (x y : ℕ) (ys : List ℕ) → NoneBefore cmp y ys → 0 < times x ys → NotBefore cmp x y
  in_list x y [] a l = absurd (omega (arith, l))
  in_list x y (z ∷ zs) a l = elim (cases_Bool (z == x)) [
    | inl e ↦ subst (λ w. NotBefore cmp w y) (eqb-true z x e) a.0
    | inr e ↦ in_list x y zs a.1 (let m = more_times x z zs in let n : one_for x z ≡ 0 = ap (λ b. cond b 1 0) e in omega (arith, l, m, n))
  ]

  module _ (total : IsTotalOrder cmp) (apart : (x y : ℕ) → cmp x y ≡ Equal → x ≡ y) where
    same_if_tied : (x y : ℕ) → NotBefore cmp x y → NotBefore cmp y x → x ≡ y
    same_if_tied x y f g = by_order (cmp x y) refl
      where
        by_order : (o : Ordering) → cmp x y ≡ o → x ≡ y
        by_order Less e = absurd (f e)
        by_order Equal e = apart x y e
        by_order Greater e = absurd (g (total.antisymm y x ∙ ap ordering_reverse e))

    same_head : (x y : ℕ) (xs ys : List ℕ) → NoneBefore cmp x xs → NoneBefore cmp y ys → ((z : ℕ) → times z (x ∷ xs) ≡ times z (y ∷ ys)) → x ≡ y
    same_head x y xs ys a b t = elim (cases_Bool (y == x)) [
      | inl e ↦ sym (eqb-true y x e)
      | inr e ↦ elim (cases_Bool (x == y)) [
        | inl f ↦ eqb-true x y f
        | inr f ↦
            let i : 0 < times x ys = (let m = more_times x x xs in let n = more_times x y ys in let o = itself_once x in let p : one_for x y ≡ 0 = ap (λ b. cond b 1 0) e in let q =
            t x in omega (arith, m, n, o, p, q)) in
            let j : 0 < times y xs = (let m = more_times y x xs in let n = more_times y y ys in let o = itself_once y in let p : one_for y x ≡ 0 = ap (λ b. cond b 1 0) f in let q =
            t y in omega (arith, m, n, o, p, q)) in
            same_if_tied x y (in_list x y ys b i) (in_list y x xs a j)
      ]
    ]

    -- two ascending lists in which each number stands as often are one
    pub one_ascending : (xs ys : List ℕ) → Ascends cmp xs → Ascends cmp ys → ((z : ℕ) → times z xs ≡ times z ys) → xs ≡ ys
    one_ascending [] [] a b t = refl
    one_ascending [] (y ∷ ys) a b t = absurd (let n = more_times y y ys in let o = itself_once y in let q : 0 ≡ times y (y ∷ ys) = t y in omega (arith, n, o, q))
    one_ascending (x ∷ xs) [] a b t = absurd (let n = more_times x x xs in let o = itself_once x in let q : times x (x ∷ xs) ≡ 0 = t x in omega (arith, n, o, q))
    one_ascending (x ∷ xs) (y ∷ ys) a b t =
        let e = same_head x y xs ys a.0 b.0 t in
        let r = one_ascending xs ys a.1 b.1
        (λ z. let m = more_times z x xs in let n = more_times z y ys in let q = t z in let o : one_for z x ≡ one_for z y = ap (one_for z) e in omega (arith, m, n, q, o)) in
        ap (λ z. z ∷ xs) e ∙ ap (λ l. y ∷ l) r

    not_less : (o : Ordering) → is_lt o ≡ false → o ≡ Less → ⊥
    not_less Less e l = cc
    not_less Equal e l = cc
    not_less Greater e l = cc

    -- a list in which no neighbour comes before the one before it
    pub ascending : (xs : List ℕ) → IsSorted cmp xs → Ascends cmp xs
    ascending [] s = tt
    ascending (x ∷ []) s = (tt, tt)
    ascending (x ∷ y ∷ ys) s =
        let rest = ascending (y ∷ ys) (λ k d l b. subst (λ n. is_lt (cmp (get_or (x ∷ y ∷ ys) n d) (get_or (x ∷ y ∷ ys) (suc k) d)) ≡ false)
        (let e : suc k + 1 ≡ suc (k + 1) = omega arith in e) (s (suc k) d (omega arith) (omega (arith, b)))) in
        let near : NotBefore cmp y x = not_less (cmp y x) (s 0 0 (omega arith) (omega arith)) in
        ((near, all_through cmp total x y ys near rest.0), rest)

tied_places : (hows : List How) (rows : List (List KeyPart)) (a b : ℕ) → place_cmp hows rows a b ≡ Equal → a ≡ b
tied_places hows rows a b e = by_rows (row_cmp hows 0 (row_at rows a) (row_at rows b)) e
  where
    by_rows : (o : Ordering) → ordering_then o (nat_cmp a b) ≡ Equal → a ≡ b
    by_rows Less f = cc
    by_rows Equal f = ranked a b Equal (sym f)
    by_rows Greater f = cc

pub one_sorted : (hows : List How) (rows : List (List KeyPart)) (places : List ℕ) → IsPermutation (range_with_len 0 (length rows)) places → IsSorted (place_cmp hows rows) places
    → places ≡ sorted_places_of hows rows
unfolding sorted_places_of
one_sorted hows rows places p s =
    one_ascending (place_cmp hows rows) (place_total hows rows) (tied_places hows rows) places (sorted_by (place_cmp hows rows) (range_with_len 0 (length rows)))
    (ascending (place_cmp hows rows) (place_total hows rows) (tied_places hows rows) places s)
    (sorted_ascends (place_cmp hows rows) (place_total hows rows) (range_with_len 0 (length rows)))
    (λ z. sum_by-IsPermutation (one_for z) (range_with_len 0 (length rows)) places p ∙ sym (times_sorted (place_cmp hows rows) z (range_with_len 0 (length rows))))
