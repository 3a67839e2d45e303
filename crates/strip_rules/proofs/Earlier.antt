-- Passing over hidden siblings backwards.
use Rattle.std.proofs.Common.{◌≡◌, ℕ, suc, ◌+◌, ◌-◌, ◌<◌, ◌≤◌, Bool, true, false, ◌&&◌, List, [], ◌∷◌, ◌++◌, length, Option, Some, None, filter, refl, ap, sym, ◌∙◌, subst, arith, append-nil, inl, inr}
use Rattle.std.proofs.lemmas.Bool.{and_right, cases_lt, cases_eq}
use Rattle.doc_model.specs.declared.row.Row.{Row}
use Rattle.doc_model.specs.declared.step.Step.{Step}
use Rattle.doc_model.specs.declared.strip_rule.StripRule.{StripRule}
use Rattle.doc_model.specs.Lawful.{Grows}
use Rattle.doc_model.specs.Relations.{numbers, last_of, last_from, is_child, sibling_parent}
use Rattle.doc_model.specs.Rows.{rows_of}
use Rattle.doc_model.specs.Strip.{is_visible}
use Rattle.doc_model.specs.Shown.{is_shown, prev_shown, prev_shown_in}
use Rattle.doc_laws.proofs.Numbers.{filter_nothing, filter_none_no, filter-split, one_more}
use Rattle.doc_laws.proofs.Growth.{prefix_rows, joined_grows}
use Rattle.doc_laws.proofs.Kids.{child_decider}
use Rattle.doc_laws.proofs.Last.{IsLast, last_some, last_none}
use Rattle.doc_laws.proofs.Staying.{sibling_parent_later}
use Rattle.doc_laws.proofs.Visible.{shown_grows}

-- at is n, or an earlier sibling of it, and no sibling from at to n is visible but n
pub record Returns (rules : List StripRule) (rows : List Row) (n at : ℕ) : Type 0 where
  pub within : n < length rows
  pub order : at ≤ n
  pub parent : sibling_parent rows at ≡ sibling_parent rows n
  pub hidden : (k p : ℕ) → at ≤ k → k < n → sibling_parent rows n ≡ Some p → is_shown rules rows p k ≡ false

pub returns_none_yet : (rules : List StripRule) (rows : List Row) (n : ℕ) → n < length rows → Returns rules rows n n
returns_none_yet rules rows n l = record { within = l; order = omega arith; parent = refl; hidden = λ k p a b e. absurd (omega arith) }

pub returns_later : (rules : List StripRule) (p q : List Step) (n at : ℕ) → Grows p q → Returns rules (rows_of p) n at → Returns rules (rows_of q) n at
returns_later rules p q n at g s =
    let r = prefix_rows p q g in
    let up = sibling_parent_later (rows_of p) r.0 n s.within in
    let go : Returns rules (rows_of p ++ r.0) n at = record {
      within = subst (λ rows. n < length rows) r.1 (joined_grows p q n g s.within);
      order = s.order;
      parent = sibling_parent_later (rows_of p) r.0 at (omega (arith, s.within, s.order)) ∙ s.parent ∙ sym up;
      hidden = λ k o a b e. shown_grows rules (rows_of p) r.0 o k (omega (arith, s.within)) ∙ s.hidden k o a b (sym up ∙ e);
    } in
    subst (λ rows. Returns rules rows n at) (sym r.1) go

-- the child before, visible or not
pub record IsPrevKid (rows : List Row) (at k p : ℕ) : Type 0 where
  pub parent : sibling_parent rows at ≡ Some p
  pub kid : is_child rows p k ≡ true
  pub under : k < at
  pub none : (j : ℕ) → k < j → j < at → is_child rows p j ≡ false

pub prev_kid : (rows : List Row) (at k : ℕ) → prev_shown [] rows at ≡ Some k → (p : ℕ) × IsPrevKid rows at k p
prev_kid rows at k h = go (sibling_parent rows at) refl
  where
    go : (o : Option ℕ) → sibling_parent rows at ≡ o → (p : ℕ) × IsPrevKid rows at k p
    go None e = absurd (let z : None ≡ Some k = sym (ap (prev_shown_in [] rows at) e) ∙ h in cc)
    go (Some p) e =
        let f : ℕ → Bool = is_child rows p in
        let r : IsLast f 0 at k = last_some f 0 at k (sym (ap (prev_shown_in [] rows at) e) ∙ h) in (
          p,
          record {
            parent = e;
            kid = r.passes;
            under = omega (arith, r.within);
            none = λ j a b. filter_none_no f (suc k) ((0 + at) - suc k) j r.none (omega arith) (omega (arith, r.within));
          },
        )

same_some : (a b : ℕ) → Some a ≡ Some b → a ≡ b
same_some a b h = cc

-- one more hidden sibling
pub returns_on : (rules : List StripRule) (rows : List Row) (n at k : ℕ) → Returns rules rows n at → prev_shown [] rows at ≡ Some k → is_visible rules rows k ≡ false
    → Returns rules rows n k × (k < at)
returns_on rules rows n at k s h v =
    let r = prev_kid rows at k h in
    let t = r.1 in (
      record {
        within = s.within;
        order = omega (arith, s.order, t.under);
        parent = child_decider rows r.0 k t.kid ∙ sym t.parent ∙ s.parent;
        hidden = λ j p a b e.
            let same : p ≡ r.0 = same_some p (r.0) (sym e ∙ sym s.parent ∙ t.parent) in
            elim (cases_lt j at) [
              | inl lt ↦ elim (cases_eq j k) [
                | inl jk ↦ ap (λ i. is_visible rules rows i && is_child rows p i) jk ∙ ap (λ b. b && is_child rows p k) v
                | inr ne ↦ and_right (is_visible rules rows j) (is_child rows p j) (ap (λ i. is_child rows i j) same ∙ t.none j (omega arith) lt)
              ]
              | inr ge ↦ s.hidden j p (omega arith) b e
            ];
      },
      t.under,
    )

-- the last of a list that ends in a number
pub last_of-push : (xs : List ℕ) (k : ℕ) → last_of (xs ++ k ∷ []) ≡ Some k
last_of-push [] k = refl
last_of-push (x ∷ xs) k = ap (λ j. Some j) (last_from-push x xs k)
  where
    last_from-push : (x : ℕ) (xs : List ℕ) (k : ℕ) → last_from x (xs ++ k ∷ []) ≡ k
    last_from-push x [] k = refl
    last_from-push x (y ∷ ys) k = last_from-push y ys k

-- the sibling before that is visible
pub returns_found : (rules : List StripRule) (rows : List Row) (n at k : ℕ) → Returns rules rows n at → prev_shown [] rows at ≡ Some k → is_visible rules rows k ≡ true
    → prev_shown rules rows n ≡ Some k
returns_found rules rows n at k s h v =
    let r = prev_kid rows at k h in
    let t = r.1 in
    let f : ℕ → Bool = is_shown rules rows r.0 in
    let up : sibling_parent rows n ≡ Some (r.0) = sym s.parent ∙ t.parent in
    let cut : n ≡ suc k + (n - suc k) = omega (arith, s.order, t.under) in
    let yes : f k ≡ true = ap (λ b. b && is_child rows r.0 k) v ∙ t.kid in
    let none : filter f (numbers (0 + suc k) (n - suc k)) ≡ [] = filter_nothing f (0 + suc k) (n - suc k) (λ j a b.
    elim (cases_lt j at) [
      | inl lt ↦ and_right (is_visible rules rows j) (is_child rows r.0 j) (t.none j (omega arith) lt)
      | inr ge ↦ s.hidden j (r.0) (omega arith) (omega (arith, s.order, t.under)) up
    ]) in
    ap (prev_shown_in rules rows n) up
    ∙ ap last_of (ap (λ c. filter f (numbers 0 c)) cut
    ∙ filter-split f 0 (suc k) (n - suc k)
    ∙ ap (λ xs. filter f (numbers 0 (suc k)) ++ xs) none
    ∙ append-nil (filter f (numbers 0 (suc k)))
    ∙ one_more f k yes)
    ∙ last_of-push (filter f (numbers 0 k)) k

-- no sibling before
pub returns_end : (rules : List StripRule) (rows : List Row) (n at : ℕ) → Returns rules rows n at → prev_shown [] rows at ≡ None → prev_shown rules rows n ≡ None
returns_end rules rows n at s h = go (sibling_parent rows n) refl
  where
    go : (o : Option ℕ) → sibling_parent rows n ≡ o → prev_shown rules rows n ≡ None
    go None e = ap (prev_shown_in rules rows n) e
    go (Some p) e =
        let f : ℕ → Bool = is_child rows p in
        let none : filter f (numbers 0 at) ≡ [] = last_none _ (sym (ap (prev_shown_in [] rows at) (s.parent ∙ e)) ∙ h) in
        ap (prev_shown_in rules rows n) e
        ∙ ap last_of (filter_nothing (is_shown rules rows p) 0 n (λ j a b.
        elim (cases_lt j at) [
          | inl lt ↦ and_right (is_visible rules rows j) (is_child rows p j) (filter_none_no f 0 at j none a (omega arith))
          | inr ge ↦ s.hidden j p ge (omega arith) e
        ]))
