-- Links as filters, and as facts about rows.
use Rattle.std.proofs.Common.{◌≡◌, ℕ, suc, ◌+◌, ◌-◌, ◌<◌, ◌≤◌, Bool, true, false, ◌&&◌, List, ◌++◌, length, Option, Some, None, filter, refl, ap, sym, ◌∙◌, arith, append-nil, inl, inr}
use Rattle.std.proofs.lemmas.Bool.{and_parts, and_right, cases_Bool, false≢true}
use Rattle.doc_model.specs.declared.row.Row.{Row}
use Rattle.doc_model.specs.declared.strip_rule.StripRule.{StripRule}
use Rattle.doc_model.specs.Relations.{numbers, first_of, last_of, is_child, sibling_parent}
use Rattle.doc_model.specs.Shown.{is_shown, first_shown, next_shown, next_shown_in, prev_shown, prev_shown_in}
use Rattle.doc_model.specs.Strip.{is_visible}
use Rattle.doc_laws.proofs.Numbers.{IsFirst, first_some, filter_nothing, filter_none_no, filter-split, filter_yes, after_of, one_more}
use Rattle.doc_laws.proofs.Last.{IsLast, last_some}
use Rattle.strip_rules.specs.Among.{IsVisibleChild, IsFirstVisible, IsNextVisible, IsPrevVisible}
use Rattle.strip_rules.proofs.Earlier.{last_of-push}

-- the first number that passes
first_is : (f : ℕ → Bool) (a c k : ℕ) → a ≤ k → k < a + c → f k ≡ true → ((j : ℕ) → a ≤ j → j < k → f j ≡ false) → first_of (filter f (numbers a c)) ≡ Some k
first_is f a c k l m passes none =
    let cut : c ≡ (k - a) + suc (a + c - suc k) = omega arith in
    let at : a + (k - a) ≡ k = omega arith in
    ap first_of (ap (λ j. filter f (numbers a j)) cut
    ∙ filter-split f a (k - a) (suc (a + c - suc k))
    ∙ ap (λ xs. xs ++ filter f (numbers (a + (k - a)) (suc (a + c - suc k)))) (filter_nothing f a (k - a) (λ j p q. none j p (omega arith)))
    ∙ ap (λ j. filter f (numbers j (suc (a + c - suc k)))) at
    ∙ filter_yes f k (numbers (suc k) (a + c - suc k)) passes)

last_is : (f : ℕ → Bool) (c k : ℕ) → k < c → f k ≡ true → ((j : ℕ) → k < j → j < c → f j ≡ false) → last_of (filter f (numbers 0 c)) ≡ Some k
last_is f c k l passes none =
    let cut : c ≡ suc k + (c - suc k) = omega arith in
    ap last_of (ap (λ j. filter f (numbers 0 j)) cut
    ∙ filter-split f 0 (suc k) (c - suc k)
    ∙ ap (λ xs. filter f (numbers 0 (suc k)) ++ xs) (filter_nothing f (0 + suc k) (c - suc k) (λ j p q. none j (omega arith) (omega arith)))
    ∙ append-nil (filter f (numbers 0 (suc k)))
    ∙ one_more f k passes)
    ∙ last_of-push (filter f (numbers 0 k)) k

-- a child that does not pass is hidden, and a hidden child does not pass
hidden : (rules : List StripRule) (rows : List Row) (n j : ℕ) → is_shown rules rows n j ≡ false → is_child rows n j ≡ true → is_visible rules rows j ≡ false
hidden rules rows n j h c = elim (cases_Bool (is_visible rules rows j)) [
  | inl e ↦ absurd (false≢true (sym h ∙ ap (λ b. b && is_child rows n j) e ∙ c))
  | inr e ↦ e
]

passes_not : (rules : List StripRule) (rows : List Row) (n j : ℕ) → (is_child rows n j ≡ true → is_visible rules rows j ≡ false) → is_shown rules rows n j ≡ false
passes_not rules rows n j h = elim (cases_Bool (is_child rows n j)) [
  | inl e ↦ ap (λ b. b && is_child rows n j) (h e)
  | inr e ↦ and_right (is_visible rules rows j) (is_child rows n j) e
]

shows : (rules : List StripRule) (rows : List Row) (n k : ℕ) → IsVisibleChild rules rows n k → is_shown rules rows n k ≡ true
shows rules rows n k v = ap (λ b. b && is_child rows n k) v.visible ∙ v.child

shown_is : (rules : List StripRule) (rows : List Row) (n k : ℕ) → k < length rows → is_shown rules rows n k ≡ true → IsVisibleChild rules rows n k
shown_is rules rows n k l h = let p = and_parts _ _ h in record { joined = l; visible = p.0; child = p.1 }

pub first_is_visible : (rules : List StripRule) (rows : List Row) (n k : ℕ) → first_shown rules rows n ≡ Some k → IsFirstVisible rules rows n k
first_is_visible rules rows n k h =
    let r : IsFirst (is_shown rules rows n) 0 (length rows) k = first_some (is_shown rules rows n) 0 (length rows) k h in
    record {
      is = shown_is rules rows n k (omega (arith, r.within)) r.passes;
      before = λ j l c. hidden rules rows n j (filter_none_no (is_shown rules rows n) 0 (k - 0) j r.none (omega arith) (omega arith)) c;
    }

pub visible_is_first : (rules : List StripRule) (rows : List Row) (n k : ℕ) → IsFirstVisible rules rows n k → first_shown rules rows n ≡ Some k
visible_is_first rules rows n k v =
    first_is (is_shown rules rows n) 0 (length rows) k (omega arith) (omega (arith, v.is.joined)) (shows rules rows n k v.is) (λ j a l. passes_not rules rows n j (λ c. v.before j l c))

pub next_is_visible : (rules : List StripRule) (rows : List Row) (m k : ℕ) → m < length rows → next_shown rules rows m ≡ Some k → IsNextVisible rules rows m k
next_is_visible rules rows m k l h = go (sibling_parent rows m) refl
  where
    go : (o : Option ℕ) → sibling_parent rows m ≡ o → IsNextVisible rules rows m k
    go None e = absurd (let z : None ≡ Some k = sym (ap (next_shown_in rules rows m) e) ∙ h in cc)
    go (Some p) e =
        let f : ℕ → Bool = is_shown rules rows p in
        let c : ℕ = length rows in
        let r : IsFirst f (suc m) (c - suc m) k = first_some f (suc m) (c - suc m) k (sym (ap first_of (after_of f m c l)) ∙ sym (ap (next_shown_in rules rows m) e) ∙ h) in
        record {
          parent = p;
          shared = e;
          is = shown_is rules rows p k (omega (arith, r.within)) r.passes;
          after = omega (arith, r.from);
          between = λ j a b d. hidden rules rows p j (filter_none_no f (suc m) (k - suc m) j r.none (omega arith) (omega (arith, r.from))) d;
        }

pub visible_is_next : (rules : List StripRule) (rows : List Row) (m k : ℕ) → m < length rows → IsNextVisible rules rows m k → next_shown rules rows m ≡ Some k
visible_is_next rules rows m k l v =
    let f : ℕ → Bool = is_shown rules rows v.parent in
    ap (next_shown_in rules rows m) v.shared
    ∙ ap first_of (after_of f m (length rows) l)
    ∙ first_is f (suc m) (length rows - suc m) k (omega (arith, v.after)) (omega (arith, l, v.is.joined)) (shows rules rows v.parent k v.is)
    (λ j a b. passes_not rules rows v.parent j (λ c. v.between j (omega arith) b c))

pub prev_is_visible : (rules : List StripRule) (rows : List Row) (m k : ℕ) → m < length rows → prev_shown rules rows m ≡ Some k → IsPrevVisible rules rows m k
prev_is_visible rules rows m k l h = go (sibling_parent rows m) refl
  where
    go : (o : Option ℕ) → sibling_parent rows m ≡ o → IsPrevVisible rules rows m k
    go None e = absurd (let z : None ≡ Some k = sym (ap (prev_shown_in rules rows m) e) ∙ h in cc)
    go (Some p) e =
        let f : ℕ → Bool = is_shown rules rows p in
        let r : IsLast f 0 m k = last_some f 0 m k (sym (ap (prev_shown_in rules rows m) e) ∙ h) in
        record {
          parent = p;
          shared = e;
          is = shown_is rules rows p k (omega (arith, r.within)) r.passes;
          before = omega (arith, r.within);
          between = λ j a b d. hidden rules rows p j (filter_none_no f (suc k) ((0 + m) - suc k) j r.none (omega arith) (omega (arith, r.within))) d;
        }

pub visible_is_prev : (rules : List StripRule) (rows : List Row) (m k : ℕ) → IsPrevVisible rules rows m k → prev_shown rules rows m ≡ Some k
visible_is_prev rules rows m k v =
    let f : ℕ → Bool = is_shown rules rows v.parent in
    ap (prev_shown_in rules rows m) v.shared
    ∙ last_is f m k v.before (shows rules rows v.parent k v.is) (λ j a b. passes_not rules rows v.parent j (λ c. v.between j a b c))
