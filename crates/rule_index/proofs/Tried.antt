-- The places of the rules of a mode, out of those of all rules in the order in which they are tried, are those of the rules that are tried.
use Rattle.std.proofs.Common.{◌≡◌, refl, sym, ap, ◌∙◌, ℕ, suc, ◌+◌, List, [], ◌∷◌, length, map, filter, Bool, true, false, cond, arith, inl, inr}
use Rattle.std.specs.Prelude.{slice_get, ◌==◌}
use Rattle.std.specs.List.{range_with_len}
use Rattle.std.specs.List.Sorted.{IsPermutation, IsSorted}
use Rattle.std.specs.Cmp.{IsTotalOrder, on_total, back_total}
use Rattle.std.specs.Ordering.{is_lt, int_cmp, nat_cmp, ordering_then}
use Rattle.std.specs.declared.cmp.Ordering.{Ordering}
use Rattle.std.specs.declared.cmp.Ordering.TheVariants.{Less, Equal, Greater}
use Rattle.std.proofs.lemmas.Bool.{cases_Bool, eqb-true}
use Rattle.std.proofs.lemmas.Cmp.{ranked, int_cmp_total, nat_cmp_total}
use Rattle.std.proofs.lemmas.List.Sorted.{sum_by-IsPermutation}
use Rattle.sheet_ast.specs.declared.sheet.Rule.{Rule}
use Rattle.xpath_laws.specs.Sound.{Each}
use Rattle.rule_choice.specs.Choice.{Candidate, candidates_from, trial_cmp, is_of_mode, tried}
use Rattle.rule_choice.specs.Sorting.{placed, sorted_by}
use Rattle.engine_laws.proofs.Insertion.{NoneBefore, Ascends, each_sorted, sorted_ascends}
use Rattle.engine_laws.proofs.Places.{one_for, times, more_times, times_sorted, one_ascending, ascending}
use Rattle.engine_laws.proofs.Trials.{then_total, IsRule, all_candidates, each_tried}
use Rattle.rule_index.specs.Applying.{in_mode, some_of_mode}
use Rattle.rule_index.specs.Order.{precedence_of, priority_of, priority_at_cmp, trial_at}

-- ---- the order of places

abbrev pub precedence_at : List Rule → ℕ → ℕ
precedence_at rules k = precedence_of (slice_get rules k)

pub trial_total : (rules : List Rule) → IsTotalOrder (trial_at rules)
trial_total rules = then_total (back_total (on_total (precedence_at rules) nat_cmp_total))
    (then_total (back_total (on_total (λ (k : ℕ). priority_of (slice_get rules k)) int_cmp_total)) (back_total nat_cmp_total))

pub trial_apart : (rules : List Rule) (a b : ℕ) → trial_at rules a b ≡ Equal → a ≡ b
trial_apart rules a b e = by_precedence (nat_cmp (precedence_at rules b) (precedence_at rules a)) e
  where
    by_priority : (o : Ordering) → ordering_then o (nat_cmp b a) ≡ Equal → a ≡ b
    by_priority Less f = cc
    by_priority Equal f = sym (ranked b a Equal (sym f))
    by_priority Greater f = cc

    by_precedence : (o : Ordering) → ordering_then o (priority_at_cmp rules a b) ≡ Equal → a ≡ b
    by_precedence Less f = cc
    by_precedence Equal f = by_priority (int_cmp (priority_of (slice_get rules b)) (priority_of (slice_get rules a))) f
    by_precedence Greater f = cc

-- ---- rules by their places stand as the rules themselves

module _ (rules : List Rule) (mode : ℕ) where
  abbrev pub AreRules : List Candidate → Type 0
  AreRules cs = Each (IsRule rules mode) cs

  abbrev pub places : List Candidate → List ℕ
  places cs = map (λ (c : Candidate). c.place) cs

  same_trial : (c d : Candidate) → IsRule rules mode c → IsRule rules mode d → trial_at rules d.place c.place ≡ trial_cmp d c
  same_trial c d r s =
      ap (λ o. ordering_then (nat_cmp (precedence_of o) (precedence_at rules d.place)) (ordering_then (int_cmp (priority_of o) (priority_of (slice_get rules d.place))) (nat_cmp c.place d.place)))
      r.there
      ∙ ap (λ o. ordering_then (nat_cmp c.rule.precedence (precedence_of o)) (ordering_then (int_cmp c.rule.priority (priority_of o)) (nat_cmp c.place d.place))) s.there

  places_placed : (c : Candidate) (cs : List Candidate) → IsRule rules mode c → AreRules cs → places (placed trial_cmp c cs) ≡ placed (trial_at rules) c.place (places cs)
  places_placed c [] r a = refl
  places_placed c (d ∷ ds) r a = by_test (is_lt (trial_cmp d c)) (places_placed c ds r a.1)
      ∙ ap (λ b. cond b (d.place ∷ placed (trial_at rules) c.place (places ds)) (c.place ∷ d.place ∷ places ds)) (sym (ap is_lt (same_trial c d r a.0)))
    where
      by_test : (b : Bool) → places (placed trial_cmp c ds) ≡ placed (trial_at rules) c.place (places ds)
          → places (cond b (d ∷ placed trial_cmp c ds) (c ∷ d ∷ ds)) ≡ cond b (d.place ∷ placed (trial_at rules) c.place (places ds)) (c.place ∷ d.place ∷ places ds)
      by_test true h = ap (λ ks. d.place ∷ ks) h
      by_test false h = refl

  pub places_sorted : (cs : List Candidate) → AreRules cs → places (sorted_by trial_cmp cs) ≡ sorted_by (trial_at rules) (places cs)
  places_sorted [] a = refl
  places_sorted (c ∷ cs) a =
      places_placed c (sorted_by trial_cmp cs) a.0 (each_sorted trial_cmp (IsRule rules mode) cs a.1) ∙ ap (placed (trial_at rules) c.place) (places_sorted cs a.1)

  -- ---- the rules of a mode

  -- rules from a place on
  mode_places : (at : ℕ) (left : List Rule) → ((k : ℕ) → slice_get rules (at + k) ≡ slice_get left k)
      → places (filter (is_of_mode mode) (candidates_from at left)) ≡ filter (in_mode rules mode) (range_with_len at (length left))
  mode_places at [] h = refl
  mode_places at (rule ∷ left) h =
      let next : suc at ≡ at + 1 = omega arith in
      let rest = mode_places (suc at) left (λ k. ap (slice_get rules) (let e : suc at + k ≡ at + suc k = omega arith in e) ∙ h (suc k)) in
      let here : in_mode rules mode at ≡ (rule.mode == mode) = ap (some_of_mode mode) (ap (slice_get rules) (let e : at ≡ at + 0 = omega arith in e) ∙ h 0) in
      by_test (rule.mode == mode) rest
      ∙ ap (λ b. cond b (at ∷ filter (in_mode rules mode) (range_with_len (suc at) (length left))) (filter (in_mode rules mode) (range_with_len (suc at) (length left)))) (sym here)
      ∙ ap (λ k. filter (in_mode rules mode) (at ∷ range_with_len k (length left))) next
    where
      by_test : (b : Bool) → places (filter (is_of_mode mode) (candidates_from (suc at) left)) ≡ filter (in_mode rules mode) (range_with_len (suc at) (length left))
          → places (cond b (record { place = at; rule = rule } ∷ filter (is_of_mode mode) (candidates_from (suc at) left)) (filter (is_of_mode mode) (candidates_from (suc at) left)))
          ≡ cond b (at ∷ filter (in_mode rules mode) (range_with_len (suc at) (length left))) (filter (in_mode rules mode) (range_with_len (suc at) (length left)))
      by_test true r = ap (λ ks. at ∷ ks) r
      by_test false r = r

  pub all_rules : AreRules (tried rules mode)
  all_rules = each_tried (IsRule rules mode) mode rules (λ k rule e m. record { there = e; of_mode = m })

  candidates_are_rules : AreRules (filter (is_of_mode mode) (candidates_from 0 rules))
  candidates_are_rules = all_candidates (IsRule rules mode) mode 0 rules (λ k rule e m. record { there = ap (slice_get rules) (let z : 0 + k ≡ k = omega arith in z) ∙ e; of_mode = m })

  tried_places : places (tried rules mode) ≡ sorted_by (trial_at rules) (filter (in_mode rules mode) (range_with_len 0 (length rules)))
  unfolding tried
  tried_places =
      places_sorted (filter (is_of_mode mode) (candidates_from 0 rules)) candidates_are_rules
      ∙ ap (sorted_by (trial_at rules)) (mode_places 0 rules (λ k. ap (slice_get rules) (let z : 0 + k ≡ k = omega arith in z)))

  -- ---- what is left of an ascending list ascends, and has what it had

  module _ (cmp : ℕ → ℕ → Ordering) (keep : ℕ → Bool) where
    none_kept : (x : ℕ) (xs : List ℕ) → NoneBefore cmp x xs → NoneBefore cmp x (filter keep xs)
    none_kept x [] a = tt
    none_kept x (y ∷ ys) a = by_test (keep y) (none_kept x ys a.1)
      where
        by_test : (b : Bool) → NoneBefore cmp x (filter keep ys) → NoneBefore cmp x (cond b (y ∷ filter keep ys) (filter keep ys))
        by_test true r = (a.0, r)
        by_test false r = r

    pub filter_ascends : (xs : List ℕ) → Ascends cmp xs → Ascends cmp (filter keep xs)
    filter_ascends [] a = tt
    filter_ascends (x ∷ xs) a = by_test (keep x) (filter_ascends xs a.1)
      where
        by_test : (b : Bool) → Ascends cmp (filter keep xs) → Ascends cmp (cond b (x ∷ filter keep xs) (filter keep xs))
        by_test true r = (none_kept x xs a.0, r)
        by_test false r = r

  -- how often a number is left
  abbrev left_if : (ℕ → Bool) → ℕ → ℕ → ℕ
  left_if keep z count = cond (keep z) count 0

  pub times_filter : (keep : ℕ → Bool) (z : ℕ) (xs : List ℕ) → times z (filter keep xs) ≡ left_if keep z (times z xs)
  times_filter keep z [] = by_test (keep z)
    where
      by_test : (b : Bool) → ◌≡◌ {A = ℕ} 0 (cond b 0 0)
      by_test true = refl
      by_test false = refl
  times_filter keep z (x ∷ xs) = elim (cases_Bool (x == z)) [
    | inl e ↦ same (eqb-true x z e) (times_filter keep z xs)
    | inr e ↦ other e (times_filter keep z xs)
  ]
    where
      same : x ≡ z → times z (filter keep xs) ≡ left_if keep z (times z xs) → times z (filter keep (x ∷ xs)) ≡ left_if keep z (times z (x ∷ xs))
      same e before = by_test (keep x) (ap keep e) before
        where
          by_test : (b : Bool) → b ≡ keep z → times z (filter keep xs) ≡ left_if keep z (times z xs) → times z (cond b (x ∷ filter keep xs) (filter keep xs)) ≡ left_if keep z (times z (x ∷ xs))
          by_test true f r =
              let all : left_if keep z (times z xs) ≡ times z xs = ap (λ b. cond b (times z xs) 0) (sym f) in
              let whole : left_if keep z (times z (x ∷ xs)) ≡ times z (x ∷ xs) = ap (λ b. cond b (times z (x ∷ xs)) 0) (sym f) in
              let m = more_times z x (filter keep xs) in
              let n = more_times z x xs in
              omega (arith, r, all, whole, m, n)
          by_test false f r =
              let all : left_if keep z (times z xs) ≡ 0 = ap (λ b. cond b (times z xs) 0) (sym f) in
              let whole : left_if keep z (times z (x ∷ xs)) ≡ 0 = ap (λ b. cond b (times z (x ∷ xs)) 0) (sym f) in
              r ∙ all ∙ sym whole

      other : (x == z) ≡ false → times z (filter keep xs) ≡ left_if keep z (times z xs) → times z (filter keep (x ∷ xs)) ≡ left_if keep z (times z (x ∷ xs))
      other e before = by_test (keep x) before
        where
          unseen : (ys : List ℕ) → times z (x ∷ ys) ≡ times z ys
          unseen ys = let m = more_times z x ys in let n : one_for z x ≡ 0 = ap (λ b. cond b 1 0) e in omega (arith, m, n)

          by_test : (b : Bool) → times z (filter keep xs) ≡ left_if keep z (times z xs) → times z (cond b (x ∷ filter keep xs) (filter keep xs)) ≡ left_if keep z (times z (x ∷ xs))
          by_test true r = unseen (filter keep xs) ∙ r ∙ ap (left_if keep z) (sym (unseen xs))
          by_test false r = r ∙ ap (left_if keep z) (sym (unseen xs))

  -- all places in the order in which the rules are tried have the rules of a mode in that order
  pub index_tried : (order : List ℕ) → IsPermutation (range_with_len 0 (length rules)) order → IsSorted (trial_at rules) order → filter (in_mode rules mode) order ≡ places (tried rules mode)
  index_tried order each sorted =
      let cmp : ℕ → ℕ → Ordering = trial_at rules in
      let total = trial_total rules in
      let apart = trial_apart rules in
      let all = range_with_len 0 (length rules) in
      one_ascending cmp total apart (filter (in_mode rules mode) order) (sorted_by cmp (filter (in_mode rules mode) all))
      (filter_ascends cmp (in_mode rules mode) order (ascending cmp total apart order sorted))
      (sorted_ascends cmp total (filter (in_mode rules mode) all))
      (λ z. times_filter (in_mode rules mode) z order ∙ ap (left_if (in_mode rules mode) z) (sum_by-IsPermutation (one_for z) all order each) ∙ sym (times_filter (in_mode rules mode) z all)
      ∙ sym (times_sorted cmp z (filter (in_mode rules mode) all)))
      ∙ sym tried_places
