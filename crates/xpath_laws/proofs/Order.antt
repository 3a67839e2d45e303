-- Document order.
use Rattle.std.proofs.Common.{◌≡◌, ℕ, suc, ◌<◌, ◌≤◌, Bool, true, false, cond, ◌||◌, eqb, leb, List, [], ◌∷◌, refl, ap, sym, ◌∙◌, arith, inl, inr, ◌⊎◌}
use Rattle.std.proofs.lemmas.Bool.{eq-eqb, eqb-true, leb-true, leb-false, false≢true}
use Rattle.doc_model.specs.Document.{is_member}
use Rattle.doc_laws.specs.Ordered.{AscendsFrom}
use Rattle.doc_laws.proofs.Ancestors.{same_truth}
use Rattle.doc_laws.proofs.Selected.{filter_ascends, member_of_filter, member_if_passes}
use Rattle.xpath_meaning.specs.DocumentOrder.{bound_of, document_order}

pub or_cases : (a b : Bool) → (a || b) ≡ true → (a ≡ true) ⊎ (b ≡ true)
or_cases true b h = inl refl
or_cases false b h = inr h

pub or_right : (a b : Bool) → b ≡ true → (a || b) ≡ true
or_right true b h = refl
or_right false b h = h

greater : (m n : ℕ) (b : Bool) → leb m n ≡ b → (n < cond b (suc n) m) × (m ≤ cond b (suc n) m)
greater m n true e = let l = leb-true m n e in (omega arith, omega (arith, l))
greater m n false e = let l = leb-false m n e in (omega (arith, l), omega arith)

bounded : (nodes : List ℕ) (k : ℕ) → is_member k nodes ≡ true → k < bound_of nodes
bounded [] k h = absurd (false≢true h)
bounded (n ∷ ns) k h =
    let g = greater (bound_of ns) n (leb (bound_of ns) n) refl in
    elim (or_cases (eqb k n) (is_member k ns) h) [
      | inl e ↦ let same = eqb-true k n e in omega (arith, same, g.0)
      | inr m ↦ let b = bounded ns k m in omega (arith, b, g.1)
    ]

pub order_ascends : (nodes : List ℕ) → AscendsFrom 0 (document_order nodes)
order_ascends nodes = filter_ascends (λ n. is_member n nodes) 0 (bound_of nodes)

pub order_members : (nodes : List ℕ) (k : ℕ) → is_member k (document_order nodes) ≡ is_member k nodes
order_members nodes k = same_truth _ _
    (λ m. (member_of_filter (λ n. is_member n nodes) 0 (bound_of nodes) k m).2)
    (λ h. member_if_passes (λ n. is_member n nodes) 0 (bound_of nodes) k (omega arith) (let b = bounded nodes k h in omega (arith, b)) h)

member_from : (a : ℕ) (xs : List ℕ) (k : ℕ) → AscendsFrom a xs → is_member k xs ≡ true → a ≤ k
member_from a [] k s h = absurd (false≢true h)
member_from a (x ∷ xs) k s h = elim (or_cases (eqb k x) (is_member k xs) h) [
  | inl e ↦ let same = eqb-true k x e in let l = s.0 in omega (arith, same, l)
  | inr m ↦ let b = member_from (suc x) xs k s.1 m in let l = s.0 in omega (arith, b, l)
]

head_in : (k : ℕ) (xs : List ℕ) → is_member k (k ∷ xs) ≡ true
head_in k xs = ap (λ b. b || is_member k xs) (eq-eqb k k refl)

-- the head of one is the head of the other or stands behind it
head_behind : (x y : ℕ) (xs ys : List ℕ) → AscendsFrom (suc y) ys → ((k : ℕ) → is_member k (x ∷ xs) ≡ is_member k (y ∷ ys)) → y ≤ x
head_behind x y xs ys s h = elim (or_cases (eqb x y) (is_member x ys) (sym (h x) ∙ head_in x xs)) [
  | inl e ↦ let same = eqb-true x y e in omega (arith, same)
  | inr m ↦ let b = member_from (suc y) ys x s m in omega (arith, b)
]

tail_in : (x y : ℕ) (xs ys : List ℕ) → x ≡ y → AscendsFrom (suc x) xs → ((k : ℕ) → is_member k (x ∷ xs) ≡ is_member k (y ∷ ys)) → (k : ℕ) → is_member k xs ≡ true → is_member k ys ≡ true
tail_in x y xs ys same s h k m = elim (or_cases (eqb k y) (is_member k ys) (sym (h k) ∙ or_right (eqb k x) (is_member k xs) m)) [
  | inl e ↦ absurd (let b = member_from (suc x) xs k s m in let here = eqb-true k y e in omega (arith, b, here, same))
  | inr r ↦ r
]

-- two ascending lists with the same members are one
pub one_order : (a b : ℕ) (xs ys : List ℕ) → AscendsFrom a xs → AscendsFrom b ys → ((k : ℕ) → is_member k xs ≡ is_member k ys) → xs ≡ ys
one_order a b [] [] s t h = refl
one_order a b [] (y ∷ ys) s t h = absurd (false≢true (h y ∙ head_in y ys))
one_order a b (x ∷ xs) [] s t h = absurd (false≢true (sym (h x) ∙ head_in x xs))
one_order a b (x ∷ xs) (y ∷ ys) s t h =
    let l = head_behind x y xs ys t.1 h in
    let g = head_behind y x ys xs s.1 (λ k. sym (h k)) in
    let same : x ≡ y = omega (arith, l, g) in
    let rest = one_order (suc x) (suc y) xs ys s.1 t.1
    (λ k. same_truth _ _ (tail_in x y xs ys same s.1 h k) (tail_in y x ys xs (sym same) t.1 (λ k. sym (h k)) k)) in
    ap (λ n. n ∷ xs) same ∙ ap (λ ns. y ∷ ns) rest

pub order_is : (nodes ordered : List ℕ) → AscendsFrom 0 ordered → ((k : ℕ) → is_member k ordered ≡ is_member k nodes) → ordered ≡ document_order nodes
order_is nodes ordered s h = one_order 0 0 ordered (document_order nodes) s (order_ascends nodes) (λ k. h k ∙ sym (order_members nodes k))
