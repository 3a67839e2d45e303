-- What moments show.
use Rattle.std.proofs.Common.{◌≡◌, refl, sym, ap, ◌∙◌, subst, ℕ, zero, suc, ◌+◌, ◌<◌, ◌≤◌, arith, Bool, true, false, List, length, Option, Some, None, inl, inr, ◌⊎◌}
use Rattle.std.specs.Prelude.{slice_get, nat_lt, nat_le, ◌&&◌, ◌||◌, ◌==◌, not}
use Rattle.std.specs.Bool.{OnTrue}
use Rattle.std.specs.Prelude.{Result, Ok, Err, IfOk}
use Rattle.std.specs.declared.alloc.AllocError.{AllocError}
use Rattle.std.proofs.lemmas.Bool.{eqb-true, cases_lt}
use Rattle.std.proofs.lemmas.Bool.Decides.{nat_tests}
use Rattle.global_order.specs.declared.graph.Node.{Node}
use Rattle.global_order.specs.declared.moments.Moment.{Moment}
use Rattle.global_order.specs.Needs.{Names, names, IsGlobal, one, Needs, itself, through}
use Rattle.global_order.specs.Order.{IsAmong, MayFollow, IsOrder}
use Rattle.global_order.specs.Times.{done_by, with_moment, is_in_time, is_last, is_timed, is_at, is_placed, AreTimes, AreLess, Stands, StandsAt}
use Rattle.global_order.proofs.Shown.{both, either, all_at, any_at, within, is_there, needy_there}

-- a node with its moment
record Timed (nodes : List Node) (moments : List Moment) (v : ℕ) : Type 0 where
  node : Node
  moment : Moment
  is_node : slice_get nodes v ≡ Some node
  is_moment : slice_get moments v ≡ Some moment

timed_at : (nodes : List Node) (moments : List Moment) (order : List ℕ) (v : ℕ) (n : Node) → AreTimes nodes moments order → slice_get nodes v ≡ Some n → (m : Moment) × (slice_get moments v ≡ Some m)
timed_at nodes moments order v n t e = is_there moments v (let i = within nodes v n e in let l = t.all in omega (arith, i, l))

module _ (nodes : List Node) (moments : List Moment) (order : List ℕ) (t : AreTimes nodes moments order) where
  in_time_at : (time v : ℕ) (n : Node) (m : Moment) → slice_get nodes v ≡ Some n → slice_get moments v ≡ Some m → is_in_time nodes moments time v ≡ true → done_by n.is_global m ≤ time
  unfolding is_in_time
  in_time_at time v n m e i h =
      let s : nat_le (done_by n.is_global m) time ≡ true =
      subst (λ o. with_moment (Some n) o true (λ n m. nat_le (done_by n.is_global m) time) ≡ true) i
      (subst (λ o. with_moment o (slice_get moments v) true (λ n m. nat_le (done_by n.is_global m) time) ≡ true) e h) in
      grind (arith, nat_tests)

  name_in_time : (u v : ℕ) (n : Node) (m : Moment) → slice_get nodes u ≡ Some n → slice_get moments u ≡ Some m → Names nodes u v → is_in_time nodes moments m.time v ≡ true
  unfolding is_timed
  name_in_time u v n m e i (names k f at g) =
      let same : k ≡ n = cc in
      all_at (is_in_time nodes moments m.time) n.names at v (both _ _ (t.timed u n m e i)).0 (subst (λ (z : Node). slice_get z.names at ≡ Some v) same g)

  -- a needed global stands before the time
  needed_before : (u h : ℕ) (n : Node) (m : Moment) → slice_get nodes u ≡ Some n → slice_get moments u ≡ Some m → Needs nodes u h → (k : Moment) × (slice_get moments h ≡ Some k) × (k.place < m.time)
  needed_before u h n m e i (itself f (one k j g)) =
      let w = timed_at nodes moments order h k t j in
      let l = in_time_at m.time h k w.0 j w.1 (name_in_time u h n m e i f) in
      (w.0, w.1, let l' : done_by true w.0 ≤ m.time = subst (λ b. done_by b w.0 ≤ m.time) g l in omega (arith, l'))
  needed_before u h n m e i (through {v = v} f g s) =
      let y = needy_there nodes v h s in
      let w = timed_at nodes moments order v y.0 t y.1 in
      let l = in_time_at m.time v y.0 w.0 y.1 w.1 (name_in_time u v n m e i f) in
      let b = needed_before v h y.0 w.0 y.1 w.1 s in
      (b.0, b.1, let o = not_global v y.0 y.1 g in let l' : w.0.time ≤ m.time = subst (λ b. done_by b w.0 ≤ m.time) o l in let c = b.2 in omega (arith, l', c))
    where
      by_bool : (b : Bool) → (b ≡ true → ⊥) → b ≡ false
      by_bool true h = absurd (h refl)
      by_bool false h = refl

      not_global : (v : ℕ) (y : Node) → slice_get nodes v ≡ Some y → (IsGlobal nodes v → ⊥) → y.is_global ≡ false
      not_global v y e g = by_bool y.is_global (λ b. g (one y e b))

  last_at : (time names' v : ℕ) → is_last nodes moments time names' v ≡ true
      → (w : Timed nodes moments v) × (done_by w.node.is_global w.moment ≡ time) × ((w.node.is_global ≡ true) ⊎ (w.moment.names < names'))
  unfolding is_last
  last_at time names' v h = by_options (slice_get nodes v) (slice_get moments v) refl refl h
    where
      by_options : (o : Option Node) (p : Option Moment) → slice_get nodes v ≡ o → slice_get moments v ≡ p
          → with_moment o p false (λ n m. done_by n.is_global m == time && (n.is_global || nat_lt m.names names')) ≡ true
          → (w : Timed nodes moments v) × (done_by w.node.is_global w.moment ≡ time) × ((w.node.is_global ≡ true) ⊎ (w.moment.names < names'))
      by_options None p e f h = cc
      by_options (Some n) None e f h = cc
      by_options (Some n) (Some m) e f h =
          let b = both _ _ h in (
            record { node = n; moment = m; is_node = e; is_moment = f },
            eqb-true (done_by n.is_global m) time b.0,
            elim (either _ _ b.1)
                [ inl g ↦ inl g | inr l ↦ inr (let k : m.names < names' = grind (arith, nat_tests) in k) ],
          )

  one_last : (u : ℕ) (n : Node) (m : Moment) → slice_get nodes u ≡ Some n → slice_get moments u ≡ Some m → 0 < m.time → (v : ℕ) × Names nodes u v × (is_last nodes moments m.time m.names v ≡ true)
  unfolding is_timed
  one_last u n m e i l = elim (either _ _ (both _ _ (t.timed u n m e i)).1) [
    | inl z ↦ absurd (let s = eqb-true m.time 0 z in omega (arith, s, l))
    | inr h ↦ let a = any_at (is_last nodes moments m.time m.names) n.names h in (a.1, names n e a.0 a.2, a.3)
  ]

  -- a global that is needed and stands just before a time
  abbrev LastNeeded : ℕ → ℕ → Type 0
  LastNeeded u time = (h : ℕ) × Needs nodes u h × (k : Moment) × (slice_get moments h ≡ Some k) × (k.place + 1 ≡ time)

  no_global : (v : ℕ) (w : Timed nodes moments v) → w.node.is_global ≡ false → IsGlobal nodes v → ⊥
  no_global v w f (one n e t) = let i = w.is_node in let q : n ≡ w.node = cc in let r : n.is_global ≡ w.node.is_global = ap (λ (z : Node). z.is_global) q in cc

  by_global : (bound u v : ℕ) (m : Moment) → m.names < suc bound → 0 < m.time → Names nodes u v → (w : Timed nodes moments v) (g : Bool) → w.node.is_global ≡ g
      → done_by w.node.is_global w.moment ≡ m.time → ((w.node.is_global ≡ true) ⊎ (w.moment.names < m.names))
      → (w.moment.names < bound → 0 < w.moment.time → LastNeeded v w.moment.time) → LastNeeded u m.time
  by_global bound u v m b l f w true g d c r = (v, itself f (one w.node w.is_node g), w.moment, w.is_moment, subst (λ b. done_by b w.moment ≡ m.time) g d)
  by_global bound u v m b l f w false g d c r =
      let s : w.moment.time ≡ m.time = subst (λ b. done_by b w.moment ≡ m.time) g d in
      let near : w.moment.names < m.names = elim c [ inl x ↦ absurd (cc (sym x ∙ g)) | inr x ↦ x ] in
      let t = r (omega (arith, near, b)) (omega (arith, s, l)) in
      (t.0, through f (no_global v w g) t.1, t.2, t.3, t.4 ∙ s)

  -- unless the time is 0, a global is needed that stands just before it
  last_needed : (bound u : ℕ) (n : Node) (m : Moment) → m.names < bound → slice_get nodes u ≡ Some n → slice_get moments u ≡ Some m → 0 < m.time → LastNeeded u m.time
  last_needed zero u n m b e i l = absurd (omega (arith, b))
  last_needed (suc bound) u n m b e i l =
      let o = one_last u n m e i l in
      let w = last_at m.time m.names (o.0) o.2 in
      by_global bound u (o.0) m b l o.1 w.0 w.0.node.is_global refl w.1 w.2 (λ x y. last_needed bound (o.0) w.0.node w.0.moment x w.0.is_node w.0.is_moment y)

  place_of_global : (g : ℕ) → IsGlobal nodes g → (n : Node) × (m : Moment) × (slice_get nodes g ≡ Some n) × (slice_get moments g ≡ Some m) × (slice_get order m.place ≡ Some g)
  unfolding is_placed
  place_of_global g (one n e b) =
      let w = timed_at nodes moments order g n t e in
      (n, w.0, e, w.1, at_is (slice_get order w.0.place) g (or_left n.is_global (is_at (slice_get order w.0.place) g) b (t.placed g n w.0 e w.1)))
    where
      or_left : (a b : Bool) → a ≡ true → (not a || b) ≡ true → b ≡ true
      or_left true b e h = h
      or_left false b e h = cc

      at_is : (o : Option ℕ) (g : ℕ) → is_at o g ≡ true → o ≡ Some g
      at_is None g h = cc
      at_is (Some k) g h = ap Some (eqb-true k g h)

  module _ (s : (k : ℕ) → k < length order → StandsAt nodes moments order k) where
    at_place : (k g : ℕ) → slice_get order k ≡ Some g → (from : ℕ) × AreLess order from k × Stands nodes moments g k from
    at_place k g e = let z = s k (within order k g e) in (z.from, z.less, z.stands g e)

    -- one global does not stand at two places
    one_place : (j k g : ℕ) → slice_get order j ≡ Some g → slice_get order k ≡ Some g → j ≡ k
    one_place j k g e f =
        let a = (at_place j g e).2 in
        let b = (at_place k g f).2 in
        let same : a.moment ≡ b.moment = let x = a.is_moment in let y = b.is_moment in cc in
        sym a.is_place ∙ ap (λ (m : Moment). m.place) same ∙ b.is_place

    may_follow : (k g : ℕ) → slice_get order k ≡ Some g → MayFollow nodes order k g
    may_follow k g e =
        let w = (at_place k g e).2 in
        record {
          is = one w.node w.is_node w.is_global;
          new = λ a. let same = one_place (a.0) k g a.2 e in let l = a.1 in absurd (omega (arith, same, l));
          needs = λ h n. needed_among k h w.moment w.is_ready (needed_before g h w.node w.moment w.is_node w.is_moment n) n;
        }
      where
        needed_global : (u h : ℕ) → Needs nodes u h → IsGlobal nodes h
        needed_global u h (itself f g) = g
        needed_global u h (through f g n) = needed_global _ h n

        needed_among : (k h : ℕ) (m : Moment) → m.time ≤ k → (x : Moment) × (slice_get moments h ≡ Some x) × (x.place < m.time) → {u : ℕ} → Needs nodes u h → IsAmong order k h
        needed_among k h m r b {u} n =
            let p = place_of_global h (needed_global u h n) in
            let same : p.1 ≡ b.0 = let x = p.3 in let y = b.1 in cc in
            let place : p.1.place ≡ b.0.place = ap (λ (m : Moment). m.place) same in
            (p.1.place, let l = b.2 in omega (arith, place, l, r), p.4)

    -- a global that may follow was ready at some place, and since then only lesser ones came
    none_before : (k g f : ℕ) → slice_get order k ≡ Some g → f < g → MayFollow nodes order k f → ⊥
    none_before k g f e l y =
        let p = place_of_global f y.is in
        let w = at_place p.1.place f p.4 in
        let same : w.2.moment ≡ p.1 = let x = p.3 in let z = w.2.is_moment in cc in
        let later : k ≤ p.1.place = by_cases k (p.1.place) (λ b. y.new (p.1.place, b, p.4)) in
        let differ : (k ≡ p.1.place → ⊥) = λ q. let x : g ≡ f = same_global k (p.1.place) g f q e p.4 in omega (arith, x, l) in
        let before : k < p.1.place = strictly k (p.1.place) later differ in
        let ready : p.1.time ≤ k = ready_by k f p.0 p.1 p.2 p.3 y in
        let since : w.0 ≤ p.1.time = subst (λ (m : Moment). w.0 ≤ m.time) same w.2.since in
        let less : g < f = w.1.less k g f (omega (arith, ready, since)) before e p.4 in
        omega (arith, less, l)
      where
        by_cases : (k p : ℕ) → (p < k → ⊥) → k ≤ p
        by_cases k p h = elim (cases_lt p k) [ inl b ↦ absurd (h b) | inr c ↦ c ]

        strictly : (k p : ℕ) → k ≤ p → (k ≡ p → ⊥) → k < p
        strictly k p a h = elim (cases_lt k p) [ inl b ↦ b | inr c ↦ absurd (h (omega (arith, a, c))) ]

        same_global : (k p g f : ℕ) → k ≡ p → slice_get order k ≡ Some g → slice_get order p ≡ Some f → g ≡ f
        same_global k p g f q e h = let x : slice_get order p ≡ Some g = subst (λ z. slice_get order z ≡ Some g) q e in cc

        ready_by : (k f : ℕ) (n : Node) (m : Moment) → slice_get nodes f ≡ Some n → slice_get moments f ≡ Some m → MayFollow nodes order k f → m.time ≤ k
        ready_by k f n m e i y = elim (cases_lt 0 m.time) [
          | inr z ↦ omega (arith, z)
          | inl l ↦
              let h = last_needed (suc m.names) f n m (omega arith) e i l in
              let a = y.needs (h.0) h.1 in
              let w = at_place (a.0) (h.0) a.2 in
              let same : w.2.moment ≡ h.2 = let x = w.2.is_moment in let z = h.3 in cc in
              let place : h.2.place ≡ a.0 = ap (λ (m : Moment). m.place) (sym same) ∙ w.2.is_place in
              let last = h.4 in
              let j = a.1 in
              omega (arith, place, last, j)
        ]

    pub is_order : IsOrder nodes order
    is_order = record {
      next = λ k g e. record { may = may_follow k g e; first = λ f l y. none_before k g f e l y };
      all = λ g y. let p = place_of_global g y in (p.1.place, within order p.1.place g p.4, p.4);
    }

-- where a test shows the one, it shows the other
pub shown_so : (result : Result Bool AllocError) (P Q : Type 0) → (P → Q) → IfOk result (λ b. OnTrue b P) → IfOk result (λ b. OnTrue b Q)
shown_so (Ok true) P Q f h = f h
shown_so (Ok false) P Q f h = h
shown_so (Err e) P Q f h = h
