-- The rows that a filter of all row numbers selects.
use Rattle.std.proofs.Common.{◌≡◌, ℕ, zero, suc, ◌+◌, ◌<◌, ◌≤◌, Bool, true, false, cond, ◌&&◌, ◌||◌, ltb, eqb, List, [], ◌∷◌, ◌++◌, length, reverse, filter, refl, ap, sym, ◌∙◌, subst, arith, inl, inr, ◌⊎◌}
use Rattle.std.proofs.lemmas.Bool.{cases_Bool, cases_eq, and_parts, and_from, lt-ltb, ltb-true, eq-eqb, eqb-true, false≢true}
use Rattle.std.proofs.lemmas.List.{reverse-reverse, reverse-append}
use Rattle.doc_model.specs.declared.node_test.Test.{Test}
use Rattle.doc_model.specs.declared.row.Axis.{Axis}
use Rattle.doc_model.specs.declared.row.Row.{Row}
use Rattle.doc_model.specs.declared.strip_rule.StripRule.{StripRule}
use Rattle.doc_model.specs.Axes.{axis_rows, in_order_of, is_reverse, is_selected}
use Rattle.doc_model.specs.Document.{is_member}
use Rattle.doc_model.specs.Relations.{numbers}
use Rattle.doc_laws.specs.Ordered.{AscendsFrom}
use Rattle.doc_laws.proofs.Ancestors.{same_truth}
use Rattle.doc_laws.proofs.Numbers.{filter_yes, filter_no}

ascends_lower : (a b : ℕ) (xs : List ℕ) → a ≤ b → AscendsFrom b xs → AscendsFrom a xs
ascends_lower a b [] l h = tt
ascends_lower a b (x ∷ xs) l h = (omega (arith, l, h.0), h.1)

pub filter_ascends : (f : ℕ → Bool) (a c : ℕ) → AscendsFrom a (filter f (numbers a c))
filter_ascends f a zero = tt
filter_ascends f a (suc c) = elim (cases_Bool (f a)) [
  | inl e ↦ subst (AscendsFrom a) (sym (filter_yes f a (numbers (suc a) c) e)) (omega arith, filter_ascends f (suc a) c)
  | inr e ↦ subst (AscendsFrom a) (sym (filter_no f a (numbers (suc a) c) e)) (ascends_lower a (suc a) _ (omega arith) (filter_ascends f (suc a) c))
]

-- a number is a member of a list of which it is the head, or of whose rest it is a member
member_head : (k : ℕ) (xs : List ℕ) → is_member k (k ∷ xs) ≡ true
member_head k xs = ap (λ b. b || is_member k xs) (eq-eqb k k refl)

or_right : (a : Bool) → (a || true) ≡ true
or_right true = refl
or_right false = refl

or_cases : (a b : Bool) → (a || b) ≡ true → (a ≡ true) ⊎ (b ≡ true)
or_cases true b h = inl refl
or_cases false b h = inr h

member_tail : (k x : ℕ) (xs : List ℕ) → is_member k xs ≡ true → is_member k (x ∷ xs) ≡ true
member_tail k x xs h = ap (λ b. eqb k x || b) h ∙ or_right (eqb k x)

pub member_of_filter : (f : ℕ → Bool) (a c k : ℕ) → is_member k (filter f (numbers a c)) ≡ true → (a ≤ k) × (k < a + c) × (f k ≡ true)
member_of_filter f a zero k h = absurd (false≢true h)
member_of_filter f a (suc c) k h = elim (cases_Bool (f a)) [
  | inl e ↦ elim (or_cases (eqb k a) (is_member k (filter f (numbers (suc a) c))) (sym (ap (is_member k) (filter_yes f a (numbers (suc a) c) e)) ∙ h)) [
    | inl s ↦ let same = eqb-true k a s in (omega (arith, same), omega (arith, same), ap f same ∙ e)
    | inr m ↦ let r = member_of_filter f (suc a) c k m in (omega (arith, r.0), omega (arith, r.1), r.2)
  ]
  | inr e ↦ let r = member_of_filter f (suc a) c k (sym (ap (is_member k) (filter_no f a (numbers (suc a) c) e)) ∙ h) in (omega (arith, r.0), omega (arith, r.1), r.2)
]

pub member_if_passes : (f : ℕ → Bool) (a c k : ℕ) → a ≤ k → k < a + c → f k ≡ true → is_member k (filter f (numbers a c)) ≡ true
member_if_passes f a zero k l u h = absurd (omega arith)
member_if_passes f a (suc c) k l u h = elim (cases_eq a k) [
  | inl same ↦ ap (is_member k) (filter_yes f a (numbers (suc a) c) (ap f same ∙ h)) ∙ ap (λ j. is_member k (j ∷ filter f (numbers (suc a) c))) same ∙ member_head k _
  | inr other ↦
      let later = member_if_passes f (suc a) c k (omega (arith, l, other)) (omega (arith, u)) h in
      elim (cases_Bool (f a)) [
        | inl e ↦ ap (is_member k) (filter_yes f a (numbers (suc a) c) e) ∙ member_tail k a _ later
        | inr e ↦ ap (is_member k) (filter_no f a (numbers (suc a) c) e) ∙ later
      ]
]

member_append : (k : ℕ) (xs ys : List ℕ) → is_member k (xs ++ ys) ≡ (is_member k xs || is_member k ys)
member_append k [] ys = refl
member_append k (x ∷ xs) ys = ap (λ b. eqb k x || b) (member_append k xs ys) ∙ or_assoc (eqb k x) (is_member k xs) (is_member k ys)
  where
    or_assoc : (a b c : Bool) → (a || (b || c)) ≡ ((a || b) || c)
    or_assoc true b c = refl
    or_assoc false b c = refl

or_swap : (a b : Bool) → (a || b) ≡ (b || a)
or_swap true true = refl
or_swap true false = refl
or_swap false true = refl
or_swap false false = refl

pub member_reverse : (k : ℕ) (xs : List ℕ) → is_member k (reverse xs) ≡ is_member k xs
member_reverse k [] = refl
member_reverse k (x ∷ xs) =
    ap (is_member k) (reverse-append (x ∷ []) xs) ∙ member_append k (reverse xs) (x ∷ [])
    ∙ ap (λ b. b || is_member k (x ∷ [])) (member_reverse k xs)
    ∙ or_swap (is_member k xs) (is_member k (x ∷ []))
    ∙ ap (λ b. b || is_member k xs) (or_none (eqb k x))
  where
    or_none : (a : Bool) → (a || false) ≡ a
    or_none true = refl
    or_none false = refl

member_ordered : (reversed : Bool) (k : ℕ) (xs : List ℕ) → is_member k (cond reversed (reverse xs) xs) ≡ is_member k xs
member_ordered true k xs = member_reverse k xs
member_ordered false k xs = refl

ordered_twice : (reversed : Bool) (xs : List ℕ) → cond reversed (reverse (cond reversed (reverse xs) xs)) (cond reversed (reverse xs) xs) ≡ xs
ordered_twice true xs = reverse-reverse xs
ordered_twice false xs = refl

module _ (rules : List StripRule) (rows : List Row) (n : ℕ) (axis : Axis) (test : Test) where
  pub axis_members : (k : ℕ) → is_member k (axis_rows rules rows n axis test) ≡ (ltb k (length rows) && is_selected rules rows n axis test k)
  axis_members k =
      member_ordered (is_reverse axis) k (filter (is_selected rules rows n axis test) (numbers 0 (length rows)))
      ∙ same_truth _ _
      (λ m. let r = member_of_filter (is_selected rules rows n axis test) 0 (length rows) k m in and_from _ _ (lt-ltb k (length rows) (let b = r.1 in omega (arith, b))) r.2)
      (λ h. let p = and_parts (ltb k (length rows)) (is_selected rules rows n axis test k) h in member_if_passes (is_selected rules rows n axis test) 0 (length rows) k (omega arith) (let b = ltb-true k (length rows) p.0 in omega (arith, b)) p.1)

  pub axis_ascends : AscendsFrom 0 (in_order_of axis (axis_rows rules rows n axis test))
  axis_ascends = subst (AscendsFrom 0) (sym (ordered_twice (is_reverse axis) (filter (is_selected rules rows n axis test) (numbers 0 (length rows))))) (filter_ascends (is_selected rules rows n axis test) 0 (length rows))
