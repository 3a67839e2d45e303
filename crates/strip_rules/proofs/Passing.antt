-- Passing over hidden siblings.
use Rattle.std.proofs.Common.{◌≡◌, ℕ, suc, ◌+◌, ◌-◌, ◌<◌, ◌≤◌, Bool, true, false, cond, ◌&&◌, ltb, List, [], ◌∷◌, ◌++◌, length, Option, Some, None}
use Rattle.std.proofs.Common.{filter, refl, ap, sym, ◌∙◌, subst, arith, length-append, inl, inr}
use Rattle.std.proofs.lemmas.Bool.{and_right, cases_lt, cases_eq}
use Rattle.doc_model.specs.declared.row.Row.{Row}
use Rattle.doc_model.specs.declared.step.Step.{Step}
use Rattle.doc_model.specs.declared.strip_rule.StripRule.{StripRule}
use Rattle.doc_model.specs.Lawful.{Grows, AtStep}
use Rattle.doc_model.specs.Relations.{numbers, first_of, is_child, sibling_parent}
use Rattle.doc_model.specs.Rows.{rows_of}
use Rattle.doc_model.specs.Strip.{is_visible}
use Rattle.doc_model.specs.Shown.{is_shown, shown_of, first_shown, next_shown, next_shown_in}
use Rattle.doc_model.specs.View.{is_settled}
use Rattle.doc_laws.proofs.Numbers.{first_some, first_none, filter_nothing, filter_none_no, filter-split, filter_yes, after_of, IsFirst}
use Rattle.doc_laws.proofs.Growth.{prefix_rows, Grows-trans}
use Rattle.doc_laws.proofs.Kids.{child_decider}
use Rattle.doc_laws.proofs.Staying.{sibling_parent_later}
use Rattle.doc_laws.proofs.Visible.{shown_grows}

-- at is n, or a later sibling of it, and no sibling between is visible
pub record Passes (rules : List StripRule) (rows : List Row) (n at : ℕ) : Type 0 where
  pub within : at < length rows
  pub order : n ≤ at
  pub parent : sibling_parent rows at ≡ sibling_parent rows n
  pub hidden : (k p : ℕ) → n < k → k ≤ at → sibling_parent rows n ≡ Some p → is_shown rules rows p k ≡ false

pub passes_none_yet : (rules : List StripRule) (rows : List Row) (n : ℕ) → n < length rows → Passes rules rows n n
passes_none_yet rules rows n l = record { within = l; order = omega arith; parent = refl; hidden = λ k p a b e. absurd (omega arith) }

pub passes_later : (rules : List StripRule) (p q : List Step) (n at : ℕ) → Grows p q → Passes rules (rows_of p) n at → Passes rules (rows_of q) n at
passes_later rules p q n at g s =
    let r = prefix_rows p q g in
    let go : Passes rules (rows_of p ++ r.0) n at = record {
      within = omega (arith, s.within, length-append (rows_of p) r.0);
      order = s.order;
      parent = sibling_parent_later (rows_of p) r.0 at s.within ∙ s.parent ∙ sym (sibling_parent_later (rows_of p) r.0 n (omega (arith, s.within, s.order)));
      hidden = λ k o a b e.
          shown_grows rules (rows_of p) r.0 o k (omega (arith, s.within)) ∙ s.hidden k o a b (sym (sibling_parent_later (rows_of p) r.0 n (omega (arith, s.within, s.order))) ∙ e);
    } in
    subst (λ rows. Passes rules rows n at) (sym r.1) go

-- the visible siblings after n are those after at
same_after : (rules : List StripRule) (rows : List Row) (n at p : ℕ) → Passes rules rows n at → sibling_parent rows n ≡ Some p
    → first_of (filter (ltb n) (shown_of rules rows p)) ≡ first_of (filter (ltb at) (shown_of rules rows p))
same_after rules rows n at p s e =
    let f : ℕ → Bool = is_shown rules rows p in
    let c : ℕ = length rows in
    let cut : c - suc n ≡ (at - n) + (c - suc at) = omega (arith, s.within, s.order) in
    let next : suc n + (at - n) ≡ suc at = omega (arith, s.order) in
    let none : filter f (numbers (suc n) (at - n)) ≡ [] = filter_nothing f (suc n) (at - n) (λ k a b. s.hidden k p (omega arith) (omega (arith, s.order)) e) in
    ap first_of (after_of f n c (omega (arith, s.within, s.order))
    ∙ ap (λ k. filter f (numbers (suc n) k)) cut
    ∙ filter-split f (suc n) (at - n) (c - suc at)
    ∙ ap (λ xs. xs ++ filter f (numbers (suc n + (at - n)) (c - suc at))) none
    ∙ ap (λ k. filter f (numbers k (c - suc at))) next
    ∙ sym (after_of f at c s.within))

same_next : (rules : List StripRule) (rows : List Row) (n at : ℕ) → Passes rules rows n at → next_shown rules rows n ≡ next_shown rules rows at
same_next rules rows n at s = go (sibling_parent rows n) refl
  where
    go : (o : Option ℕ) → sibling_parent rows n ≡ o → next_shown rules rows n ≡ next_shown rules rows at
    go None e = ap (next_shown_in rules rows n) e ∙ sym (ap (next_shown_in rules rows at) (s.parent ∙ e))
    go (Some p) e = ap (next_shown_in rules rows n) e ∙ same_after rules rows n at p s e ∙ sym (ap (next_shown_in rules rows at) (s.parent ∙ e))

-- the next child, visible or not
pub record IsNextKid (rows : List Row) (at k p : ℕ) : Type 0 where
  pub parent : sibling_parent rows at ≡ Some p
  pub kid : is_child rows p k ≡ true
  pub above : at < k
  pub within : k < length rows
  pub none : (j : ℕ) → at < j → j < k → is_child rows p j ≡ false

pub next_kid : (rows : List Row) (at k : ℕ) → at < length rows → next_shown [] rows at ≡ Some k → (p : ℕ) × IsNextKid rows at k p
next_kid rows at k l h = go (sibling_parent rows at) refl
  where
    go : (o : Option ℕ) → sibling_parent rows at ≡ o → (p : ℕ) × IsNextKid rows at k p
    go None e = absurd (let z : None ≡ Some k = sym (ap (next_shown_in [] rows at) e) ∙ h in cc)
    go (Some p) e =
        let f : ℕ → Bool = is_child rows p in
        let c : ℕ = length rows in
        let z : first_of (filter (ltb at) (filter f (numbers 0 c))) ≡ Some k = sym (ap (next_shown_in [] rows at) e) ∙ h in
        let r : IsFirst f (suc at) (c - suc at) k = first_some f (suc at) (c - suc at) k (sym (ap first_of (after_of f at c l)) ∙ z) in (
          p,
          record {
            parent = e;
            kid = r.passes;
            above = omega (arith, r.from);
            within = omega (arith, r.within);
            none = λ j a b. filter_none_no f (suc at) (k - suc at) j r.none (omega arith) (omega (arith, r.from));
          },
        )

same_some : (a b : ℕ) → Some a ≡ Some b → a ≡ b
same_some a b h = cc

-- one more hidden sibling
pub passes_on : (rules : List StripRule) (rows : List Row) (n at k : ℕ) → Passes rules rows n at → next_shown [] rows at ≡ Some k → is_visible rules rows k ≡ false → Passes rules rows n k × (at < k)
passes_on rules rows n at k s h v =
    let r = next_kid rows at k s.within h in
    let t = r.1 in (
      record {
        within = t.within;
        order = omega (arith, s.order, t.above);
        parent = child_decider rows r.0 k t.kid ∙ sym t.parent ∙ s.parent;
        hidden = λ j p a b e.
            let same : p ≡ r.0 = same_some p (r.0) (sym e ∙ sym s.parent ∙ t.parent) in
            elim (cases_lt at j) [
              | inl lt ↦ elim (cases_eq j k) [
                | inl jk ↦ ap (λ i. is_visible rules rows i && is_child rows p i) jk ∙ ap (λ b. b && is_child rows p k) v
                | inr ne ↦ and_right (is_visible rules rows j) (is_child rows p j) (ap (λ i. is_child rows i j) same ∙ t.none j lt (omega arith))
              ]
              | inr ge ↦ s.hidden j p a (omega arith) e
            ];
      },
      t.above,
    )

-- the next sibling that is visible
pub passes_found : (rules : List StripRule) (rows : List Row) (n at k : ℕ) → Passes rules rows n at → next_shown [] rows at ≡ Some k → is_visible rules rows k ≡ true → next_shown rules rows n ≡ Some k
passes_found rules rows n at k s h v =
    let r = next_kid rows at k s.within h in
    let t = r.1 in
    let f : ℕ → Bool = is_shown rules rows r.0 in
    let c : ℕ = length rows in
    let cut : c - suc at ≡ (k - suc at) + suc (c - suc k) = omega (arith, t.within, t.above) in
    let next : suc at + (k - suc at) ≡ k = omega (arith, t.above) in
    let yes : f k ≡ true = ap (λ b. b && is_child rows r.0 k) v ∙ t.kid in
    let none : filter f (numbers (suc at) (k - suc at)) ≡ [] =
    filter_nothing f (suc at) (k - suc at) (λ j a b. and_right (is_visible rules rows j) (is_child rows r.0 j) (t.none j (omega arith) (omega (arith, t.above)))) in
    same_next rules rows n at s ∙ ap (next_shown_in rules rows at) t.parent
    ∙ ap first_of (after_of f at c s.within
    ∙ ap (λ j. filter f (numbers (suc at) j)) cut
    ∙ filter-split f (suc at) (k - suc at) (suc (c - suc k))
    ∙ ap (λ xs. xs ++ filter f (numbers (suc at + (k - suc at)) (suc (c - suc k)))) none
    ∙ ap (λ j. filter f (numbers j (suc (c - suc k)))) next
    ∙ ap (λ b. cond b (k ∷ filter f (numbers (suc k) (c - suc k))) (filter f (numbers (suc k) (c - suc k)))) yes)

none_left : (rules : List StripRule) (rows : List Row) (at : ℕ) → at < length rows → (o : Option ℕ) → next_shown_in [] rows at o ≡ None → next_shown_in rules rows at o ≡ None
none_left rules rows at l None h = refl
none_left rules rows at l (Some p) h =
    let f : ℕ → Bool = is_child rows p in
    let g : ℕ → Bool = is_shown rules rows p in
    let c : ℕ = length rows in
    let z : filter f (numbers (suc at) (c - suc at)) ≡ [] = first_none _ (sym (ap first_of (after_of f at c l)) ∙ h) in
    ap first_of (after_of g at c l ∙ filter_nothing g (suc at) (c - suc at) (λ j a b. and_right (is_visible rules rows j) (is_child rows p j) (filter_none_no f (suc at) (c - suc at) j z a b)))

pub passes_end : (rules : List StripRule) (rows : List Row) (n at : ℕ) → Passes rules rows n at → next_shown [] rows at ≡ None → next_shown rules rows n ≡ None
passes_end rules rows n at s h = same_next rules rows n at s ∙ none_left rules rows at s.within (sibling_parent rows at) h

-- undecided at the sibling where the walk stands, undecided at n
pub passes_not_yet : (rules : List StripRule) (o p q : List Step) (n at : ℕ) → Grows o p → Passes rules (rows_of p) n at
    → AtStep p q (λ s. (next_shown [] (rows_of s) at ≡ None) × (is_settled s (sibling_parent (rows_of s) at) ≡ false))
    → AtStep o q (λ s. (next_shown rules (rows_of s) n ≡ None) × (is_settled s (sibling_parent (rows_of s) n) ≡ false))
passes_not_yet rules o p q n at g s a =
    let t = passes_later rules p (a.0) n at a.1 s in
    (a.0, Grows-trans o p (a.0) g a.1, a.2, (passes_end rules (rows_of (a.0)) n at t a.3.0, ap (is_settled (a.0)) (sym t.parent) ∙ a.3.1))

-- the first child, visible or not
pub record IsFirstKid (rows : List Row) (n k : ℕ) : Type 0 where
  pub kid : is_child rows n k ≡ true
  pub within : k < length rows
  pub none : filter (is_child rows n) (numbers 0 k) ≡ []

pub first_kid : (rows : List Row) (n k : ℕ) → first_shown [] rows n ≡ Some k → IsFirstKid rows n k
first_kid rows n k h =
    let r : IsFirst (is_child rows n) 0 (length rows) k = first_some (is_child rows n) 0 (length rows) k h in
    let z : k - 0 ≡ k = omega arith in
    record { kid = r.passes; within = omega (arith, r.within); none = sym (ap (λ j. filter (is_child rows n) (numbers 0 j)) z) ∙ r.none }

none_before : (rules : List StripRule) (rows : List Row) (n k : ℕ) → filter (is_child rows n) (numbers 0 k) ≡ [] → filter (is_shown rules rows n) (numbers 0 k) ≡ []
none_before rules rows n k h = filter_nothing (is_shown rules rows n) 0 k (λ j a b. and_right (is_visible rules rows j) (is_child rows n j) (filter_none_no (is_child rows n) 0 k j h a b))

-- the first child is visible
pub first_found : (rules : List StripRule) (rows : List Row) (n k : ℕ) → first_shown [] rows n ≡ Some k → is_visible rules rows k ≡ true → first_shown rules rows n ≡ Some k
first_found rules rows n k h v =
    let t = first_kid rows n k h in
    let f : ℕ → Bool = is_shown rules rows n in
    let c : ℕ = length rows in
    let cut : c ≡ k + suc (c - suc k) = omega (arith, t.within) in
    let z : 0 + k ≡ k = omega arith in
    let yes : f k ≡ true = ap (λ b. b && is_child rows n k) v ∙ t.kid in
    ap first_of (ap (λ j. filter f (numbers 0 j)) cut
    ∙ filter-split f 0 k (suc (c - suc k))
    ∙ ap (λ xs. xs ++ filter f (numbers (0 + k) (suc (c - suc k)))) (none_before rules rows n k t.none)
    ∙ ap (λ j. filter f (numbers j (suc (c - suc k)))) z
    ∙ filter_yes f k (numbers (suc k) (c - suc k)) yes)

-- the first child is hidden: what is first is what is next after it
pub first_hidden : (rules : List StripRule) (rows : List Row) (n k : ℕ) → first_shown [] rows n ≡ Some k → is_visible rules rows k ≡ false
    → (first_shown rules rows n ≡ next_shown rules rows k) × (sibling_parent rows k ≡ Some n)
first_hidden rules rows n k h v =
    let t = first_kid rows n k h in
    let f : ℕ → Bool = is_shown rules rows n in
    let c : ℕ = length rows in
    let up : sibling_parent rows k ≡ Some n = child_decider rows n k t.kid in
    let cut : c ≡ suc k + (c - suc k) = omega (arith, t.within) in
    let z : 0 + suc k ≡ suc k = omega arith in
    let no : f k ≡ false = ap (λ b. b && is_child rows n k) v in
    let none : filter f (numbers 0 (suc k)) ≡ [] = filter_nothing f 0 (suc k) (λ j a b. elim (cases_eq j k) [
      | inl e ↦ ap f e ∙ no
      | inr ne ↦ and_right (is_visible rules rows j) (is_child rows n j) (filter_none_no (is_child rows n) 0 k j t.none a (omega arith))
    ]) in (
      ap first_of (ap (λ j. filter f (numbers 0 j)) cut
          ∙ filter-split f 0 (suc k) (c - suc k)
          ∙ ap (λ xs. xs ++ filter f (numbers (0 + suc k) (c - suc k))) none
          ∙ ap (λ j. filter f (numbers j (c - suc k))) z
          ∙ sym (after_of f k c t.within))
          ∙ sym (ap (next_shown_in rules rows k) up),
      up,
    )

-- no child, no visible child
pub first_none_left : (rules : List StripRule) (rows : List Row) (n : ℕ) → first_shown [] rows n ≡ None → first_shown rules rows n ≡ None
first_none_left rules rows n h = ap first_of (none_before rules rows n (length rows) (first_none _ h))
