-- Stretches of lesser globals.
use Rattle.std.proofs.Common.{◌≡◌, refl, sym, subst, ℕ, zero, suc, ◌+◌, ◌-◌, ◌<◌, ◌≤◌, arith, List, [], ◌∷◌, ◌++◌, length, get_or, Some, inl, inr, ◌⊎◌}
use Rattle.std.specs.Prelude.{slice_get}
use Rattle.std.proofs.lemmas.Bool.{cases_lt}
use Rattle.global_order.specs.declared.graph.Node.{Node}
use Rattle.global_order.specs.declared.moments.Moment.{Moment}
use Rattle.global_order.specs.Times.{AreLess, Stands, StandsAt, StandTo}

pub there : (xs : List ℕ) (k : ℕ) → k < length xs → slice_get xs k ≡ Some (get_or xs k 0)
there [] k l = absurd (omega (arith, l))
there (x ∷ xs) zero l = refl
there (x ∷ xs) (suc k) l = there xs k (omega (arith, l))

got : (xs : List ℕ) (k x : ℕ) → slice_get xs k ≡ Some x → get_or xs k 0 ≡ x
got [] k x e = cc
got (y ∷ ys) zero x e = cc
got (y ∷ ys) (suc k) x e = got ys k x e

pub begins : (order : List ℕ) (at : ℕ) → AreLess order at at
begins order at = record { within = omega arith; less = λ k x g a b e f. absurd (omega (arith, a, b)) }

module _ (order starts : List ℕ) (at : ℕ) (known : at ≡ length starts) (less : (k s : ℕ) → slice_get starts k ≡ Some s → AreLess order s k) where
  before : (from : ℕ) → 0 < from → AreLess order from at → AreLess order (get_or starts (from - 1) 0) (from - 1)
  before from p a = less (from - 1) (get_or starts (from - 1) 0) (there starts (from - 1) (let w = a.within in omega (arith, p, w, known)))

  pub smaller : (from : ℕ) → 0 < from → AreLess order from at → get_or starts (from - 1) 0 < from
  smaller from p a = let w = (before from p a).within in omega (arith, p, w)

  pub extends : (from global : ℕ) → slice_get order at ≡ Some global → 0 < from → AreLess order from at → get_or order (from - 1) 0 < global → AreLess order (get_or starts (from - 1) 0) at
  extends from global e p a l = record {
    within = let w = (before from p a).within in let v = a.within in omega (arith, p, w, v);
    less = λ k x g b c f h. less_at k x g b c f h;
  }
    where
      same : (g : ℕ) → slice_get order at ≡ Some g → g ≡ global
      same g h = cc

      less_at : (k x g : ℕ) → get_or starts (from - 1) 0 ≤ k → k < at → slice_get order k ≡ Some x → slice_get order at ≡ Some g → x < g
      less_at k x g b c f h = elim (cases_lt k from) [
        | inr m ↦ a.less k x g m c f h
        | inl m ↦ elim (cases_lt k (from - 1)) [
          | inl i ↦
              let s = before from p a in
              let v = a.within in
              let last = there_last v in
              let near : x < get_or order (from - 1) 0 = s.less k x (get_or order (from - 1) 0) b i f last in
              let q = same g h in
              omega (arith, near, l, q)
          | inr i ↦
              let e : k ≡ from - 1 = omega (arith, p, m, i) in
              let r : get_or order (from - 1) 0 ≡ x = subst (λ z. get_or order z 0 ≡ x) e (got order k x f) in
              let q = same g h in
              omega (arith, r, l, q)
        ]
      ]
        where
          long : (xs : List ℕ) (k x : ℕ) → slice_get xs k ≡ Some x → k < length xs
          long [] k x e = cc
          long (y ∷ ys) zero x e = omega arith
          long (y ∷ ys) (suc k) x e = let i = long ys k x e in omega (arith, i)

          there_last : from ≤ at → slice_get order (from - 1) ≡ Some (get_or order (from - 1) 0)
          there_last v = there order (from - 1) (let i = long order at global e in omega (arith, i, v, p))

-- what stands in a list with one more at its end
pushed_at : (xs : List ℕ) (y j s : ℕ) → slice_get (xs ++ y ∷ []) j ≡ Some s → (slice_get xs j ≡ Some s) ⊎ ((j ≡ length xs) × (s ≡ y))
pushed_at [] y zero s e = inr (refl, cc)
pushed_at [] y (suc j) s e = cc
pushed_at (x ∷ xs) y zero s e = inl e
pushed_at (x ∷ xs) y (suc j) s e = elim (pushed_at xs y j s e) [
  | inl i ↦ inl i
  | inr i ↦ inr (let k = i.0 in omega (arith, k), i.1)
]

plus : (xs : List ℕ) (y : ℕ) → length (xs ++ y ∷ []) ≡ length xs + 1
plus [] y = refl
plus (x ∷ xs) y = let r = plus xs y in omega (arith, r)

pub none_stand : (nodes : List Node) (moments : List Moment) (order starts : List ℕ) → starts ≡ [] → StandTo nodes moments order starts 0
none_stand nodes moments order starts e = subst (λ s. StandTo nodes moments order s 0) (sym e) (record { known = refl; less = λ j s i. cc; stand = λ j l. absurd (omega (arith, l)) })

pub one_more_stands : (nodes : List Node) (moments : List Moment) (order starts later : List ℕ) (at global from : ℕ) → StandTo nodes moments order starts at
    → slice_get order at ≡ Some global → AreLess order from at → Stands nodes moments global at from
    → later ≡ starts ++ from ∷ [] → StandTo nodes moments order later (at + 1)
one_more_stands nodes moments order starts later at global from s e a w l = subst (λ z. StandTo nodes moments order z (at + 1)) (sym l) (record {
  known = let k = s.known in let p = plus starts from in omega (arith, k, p);
  less = λ j z i. elim (pushed_at starts from j z i) [
    | inl o ↦ s.less j z o
    | inr n ↦ let k = s.known in let q : at ≡ j = omega (arith, k, n.0) in subst (λ y. AreLess order z y) q (subst (λ y. AreLess order y at) (sym n.1) a)
  ];
  stand = λ j b. elim (cases_lt j at) [
    | inl o ↦ s.stand j o
    | inr o ↦ let q : at ≡ j = omega (arith, o, b) in subst (λ y. StandsAt nodes moments order y) q
        (record { from = from; less = a; stands = λ g f. let r : global ≡ g = cc in subst (λ y. Stands nodes moments y at from) r w })
  ];
})
