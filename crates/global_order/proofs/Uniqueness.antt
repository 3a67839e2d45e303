-- A graph has one order at most, and none beside a circle.
use Rattle.std.proofs.Common.{◌≡◌, refl, sym, ap, ◌∙◌, subst, ℕ, zero, suc, ◌<◌, ◌≤◌, arith, List, [], ◌∷◌, length, Option, Some, None, inl, inr}
use Rattle.std.specs.Prelude.{slice_get}
use Rattle.std.proofs.lemmas.Bool.{cases_lt}
use Rattle.global_order.specs.declared.graph.Node.{Node}
use Rattle.global_order.specs.Needs.{Ready, ready, IsCircle}
use Rattle.global_order.specs.Order.{IsAmong, MayFollow, IsOrder}

-- all globals of an order are ready
ready_within : (nodes : List Node) (order : List ℕ) → IsOrder nodes order → (bound j g : ℕ) → j < bound → slice_get order j ≡ Some g → Ready nodes g
ready_within nodes order o zero j g l e = absurd (omega (arith, l))
ready_within nodes order o (suc bound) j g l e =
    ready (λ h n. let a = (o.next j g e).may.needs h n in ready_within nodes order o bound (a.0) h (let k = a.1 in omega (arith, k, l)) a.2)

pub no_circle : (nodes : List Node) (order : List ℕ) (g : ℕ) → IsOrder nodes order → IsCircle nodes g → ⊥
no_circle nodes order g o c = let a = o.all g c.is in c.never (ready_within nodes order o (length order) (a.0) g a.1 a.2)

same_lists : (xs ys : List ℕ) → ((k : ℕ) → slice_get xs k ≡ slice_get ys k) → xs ≡ ys
same_lists [] [] h = refl
same_lists [] (y ∷ ys) h = let e = h 0 in cc
same_lists (x ∷ xs) [] h = let e = h 0 in cc
same_lists (x ∷ xs) (y ∷ ys) h = let e : x ≡ y = (let f = h 0 in cc) in let r = same_lists xs ys (λ k. h (suc k)) in ap (λ z. z ∷ xs) e ∙ ap (λ l. y ∷ l) r

-- two orders agree up to here
abbrev Agree : List ℕ → List ℕ → ℕ → Type 0
Agree order other k = (j : ℕ) → j < k → slice_get order j ≡ slice_get other j

among_too : (order other : List ℕ) (k g : ℕ) → Agree order other k → IsAmong order k g → IsAmong other k g
among_too order other k g a m = (m.0, m.1, sym (a (m.0) m.1) ∙ m.2)

turned : (order other : List ℕ) (k : ℕ) → Agree order other k → Agree other order k
turned order other k a j l = sym (a j l)

may_too : (nodes : List Node) (order other : List ℕ) (k g : ℕ) → Agree order other k → MayFollow nodes order k g → MayFollow nodes other k g
may_too nodes order other k g a m = record {
  is = m.is;
  new = λ i. m.new (among_too other order k g (turned order other k a) i);
  needs = λ h n. among_too order other k h a (m.needs h n);
}

past_none : (xs : List ℕ) (k : ℕ) → slice_get xs k ≡ None → length xs ≤ k
past_none [] k e = omega arith
past_none (x ∷ xs) zero e = cc
past_none (x ∷ xs) (suc k) e = let r = past_none xs k e in omega (arith, r)

-- where one ends the other ends too
ends_too : (nodes : List Node) (order other : List ℕ) (k g : ℕ) → IsOrder nodes order → IsOrder nodes other → Agree order other k → slice_get order k ≡ Some g → slice_get other k ≡ None → ⊥
ends_too nodes order other k g o p a e f =
    let m = (o.next k g e).may in
    let i = p.all g m.is in
    let l = past_none other k f in
    let j = i.1 in
    let below : i.0 < k = omega (arith, l, j) in
    m.new (i.0, below, a (i.0) below ∙ i.2)

same_next : (nodes : List Node) (order other : List ℕ) (k g h : ℕ) → IsOrder nodes order → IsOrder nodes other → Agree order other k → slice_get order k ≡ Some g → slice_get other k ≡ Some h → g ≡ h
same_next nodes order other k g h o p a e f = elim (cases_lt g h) [
  | inl l ↦ absurd ((p.next k h f).first g l (may_too nodes order other k g a (o.next k g e).may))
  | inr m ↦ elim (cases_lt h g) [
    | inl l ↦ absurd ((o.next k g e).first h l (may_too nodes other order k h (turned order other k a) (p.next k h f).may))
    | inr n ↦ omega (arith, m, n)
  ]
]

here_too : (nodes : List Node) (order other : List ℕ) (k : ℕ) → IsOrder nodes order → IsOrder nodes other → Agree order other k → (x y : Option ℕ) → slice_get order k ≡ x
    → slice_get other k ≡ y → x ≡ y
here_too nodes order other k o p a None None e f = refl
here_too nodes order other k o p a None (Some h) e f = absurd (ends_too nodes other order k h p o (turned order other k a) f e)
here_too nodes order other k o p a (Some g) None e f = absurd (ends_too nodes order other k g o p a e f)
here_too nodes order other k o p a (Some g) (Some h) e f = ap Some (same_next nodes order other k g h o p a e f)

all_agree : (nodes : List Node) (order other : List ℕ) → IsOrder nodes order → IsOrder nodes other → (k : ℕ) → Agree order other k
all_agree nodes order other o p zero j l = absurd (omega (arith, l))
all_agree nodes order other o p (suc k) j l = elim (cases_lt j k) [
  | inl b ↦ all_agree nodes order other o p k j b
  | inr c ↦
      let same : k ≡ j = omega (arith, c, l) in
      subst (λ z. slice_get order z ≡ slice_get other z) same (here_too nodes order other k o p (all_agree nodes order other o p k) (slice_get order k) (slice_get other k) refl refl)
]

pub same_order : (nodes : List Node) (order other : List ℕ) → IsOrder nodes order → IsOrder nodes other → order ≡ other
same_order nodes order other o p = same_lists order other (λ k. all_agree nodes order other o p (suc k) k (omega arith))
