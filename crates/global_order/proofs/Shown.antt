-- What marks show.
use Rattle.std.proofs.Common.{◌≡◌, refl, ap, ◌∙◌, subst, ℕ, zero, suc, ◌<◌, ◌≤◌, arith, Bool, true, false, List, [], ◌∷◌, length, Option, Some, None, inl, inr, ◌⊎◌}
use Rattle.std.specs.Prelude.{slice_get, ◌&&◌, ◌||◌}
use Rattle.std.specs.List.{list_all, list_any}
use Rattle.std.proofs.lemmas.Bool.Decides.{nat_tests}
use Rattle.global_order.specs.declared.graph.Node.{Node}
use Rattle.global_order.specs.declared.marks.Mark.{Mark}
use Rattle.global_order.specs.declared.marks.Mark.TheVariants as mark
use Rattle.global_order.specs.Marks.{global_node, is_global, is_below, is_nearer, is_stuck, is_stuck_global, mark_below, named_below, mark_nearer, node_shown, AreProof}
use Rattle.global_order.specs.Needs.{Names, names, IsGlobal, one, Needs, itself, through, Ready, ready, IsCircle}

pub both : (a b : Bool) → (a && b) ≡ true → (a ≡ true) × (b ≡ true)
both true b h = (refl, h)
both false b h = cc

pub either : (a b : Bool) → (a || b) ≡ true → (a ≡ true) ⊎ (b ≡ true)
either true b h = inl refl
either false b h = inr h

-- a test that all pass, at one of them
pub all_at : {X : Type 0} (p : X → Bool) (xs : List X) (k : ℕ) (x : X) → list_all p xs ≡ true → slice_get xs k ≡ Some x → p x ≡ true
all_at p [] k x h e = cc
all_at p (y ∷ ys) zero x h e = let s : y ≡ x = cc in subst (λ z. p z ≡ true) s ((both (p y) (list_all p ys) h).0)
all_at p (y ∷ ys) (suc k) x h e = all_at p ys k x ((both (p y) (list_all p ys) h).1) e

-- one that passes
pub any_at : {X : Type 0} (p : X → Bool) (xs : List X) → list_any p xs ≡ true → (k : ℕ) × (x : X) × (slice_get xs k ≡ Some x) × (p x ≡ true)
any_at p [] h = cc
any_at p (y ∷ ys) h = elim (either (p y) (list_any p ys) h) [
  | inl e ↦ (0, y, refl, e)
  | inr e ↦ let r = any_at p ys e in (suc r.0, r.1, r.2, r.3)
]

is_global_at : (nodes : List Node) (v : ℕ) (o : Option Node) → slice_get nodes v ≡ o → global_node o ≡ true → IsGlobal nodes v
is_global_at nodes v None e h = cc
is_global_at nodes v (Some n) e h = one n e h

yes_global : (nodes : List Node) (v : ℕ) → is_global nodes v ≡ true → IsGlobal nodes v
unfolding is_global
yes_global nodes v h = is_global_at nodes v (slice_get nodes v) refl h

no_global : (nodes : List Node) (v : ℕ) → is_global nodes v ≡ false → IsGlobal nodes v → ⊥
unfolding is_global
no_global nodes v h (one n e g) = let i : global_node (Some n) ≡ false = subst (λ o. global_node o ≡ false) e h in cc

-- what a ready mark shows of a mark below it
below_is : (b : Bool) (r : ℕ) (o : Option Mark) → mark_below b r o ≡ true → (s : ℕ) × (o ≡ Some (mark.Ready s)) × (s ≤ r) × (b ≡ true → s < r)
below_is b r None h = elim b as (λ b. mark_below b r None ≡ true → (s : ℕ) × (None ≡ Some (mark.Ready s)) × (s ≤ r) × (b ≡ true → s < r)) [ true ↦ λ h. cc | false ↦ λ h. cc ] h
below_is true r (Some (mark.Ready s)) h = let l : s < r = grind (arith, nat_tests) in (s, refl, omega arith, λ _. l)
below_is false r (Some (mark.Ready s)) h = let l : s ≤ r = grind (arith, nat_tests) in (s, refl, l, λ e. absurd (cc e))
below_is true r (Some (mark.Stuck e)) h = cc
below_is false r (Some (mark.Stuck e)) h = cc

nearer_is : (b : Bool) (d : ℕ) (o : Option Mark) → mark_nearer b d o ≡ true → (e : ℕ) × (o ≡ Some (mark.Stuck e)) × ((b ≡ true) ⊎ (e < d))
nearer_is true d None h = cc
nearer_is false d None h = cc
nearer_is true d (Some (mark.Ready s)) h = cc
nearer_is false d (Some (mark.Ready s)) h = cc
nearer_is true d (Some (mark.Stuck e)) h = (e, refl, inl refl)
nearer_is false d (Some (mark.Stuck e)) h = let l : e < d = grind (arith, nat_tests) in (e, refl, inr l)

shown_below : (nodes : List Node) (marks : List Mark) (n : Node) (r k v : ℕ) → node_shown nodes marks n (mark.Ready r) ≡ true → slice_get n.names k ≡ Some v → is_below nodes marks r v ≡ true
unfolding node_shown
shown_below nodes marks n r k v h f = all_at (is_below nodes marks r) n.names k v h f

shown_nearer : (nodes : List Node) (marks : List Mark) (n : Node) (d : ℕ) → node_shown nodes marks n (mark.Stuck d) ≡ true
    → (k : ℕ) × (v : ℕ) × (slice_get n.names k ≡ Some v) × (is_nearer nodes marks d v ≡ true)
unfolding node_shown
shown_nearer nodes marks n d h = any_at (is_nearer nodes marks d) n.names h

-- a node that needs something is there
pub needy_there : (nodes : List Node) (v h : ℕ) → Needs nodes v h → (n : Node) × (slice_get nodes v ≡ Some n)
needy_there nodes v h (itself (names n e k f) g) = (n, e)
needy_there nodes v h (through (names n e k f) g m) = (n, e)

-- what is below a rank where a node is
below_at : (nodes : List Node) (marks : List Mark) (r v : ℕ) (n : Node) → slice_get nodes v ≡ Some n → is_below nodes marks r v ≡ true
    → (s : ℕ) × (slice_get marks v ≡ Some (mark.Ready s)) × (s ≤ r) × (n.is_global ≡ true → s < r)
unfolding is_below
below_at nodes marks r v n e h = below_is n.is_global r (slice_get marks v) (subst (λ o. named_below o r (slice_get marks v) ≡ true) e h)

-- a node with a ready mark names only nodes with lower ones
name_below : (nodes : List Node) (marks : List Mark) (u v r : ℕ) → AreProof nodes marks → slice_get marks u ≡ Some (mark.Ready r) → Names nodes u v → is_below nodes marks r v ≡ true
name_below nodes marks u v r p m (names n e k f) = shown_below nodes marks n r k v (p.shown u n (mark.Ready r) e m) f

global_test : (nodes : List Node) (v : ℕ) → IsGlobal nodes v → is_global nodes v ≡ true
unfolding is_global
global_test nodes v (one n e g) = ap global_node e ∙ g

needs_itself : (nodes : List Node) (marks : List Mark) (u h r : ℕ) → AreProof nodes marks → slice_get marks u ≡ Some (mark.Ready r) → Names nodes u h → IsGlobal nodes h
    → (s : ℕ) × (slice_get marks h ≡ Some (mark.Ready s)) × (s < r)
needs_itself nodes marks u h r p m e (one n i g) = let b = below_at nodes marks r h n i (name_below nodes marks u h r p m e) in (b.0, b.1, b.3 g)

needs_below : (nodes : List Node) (marks : List Mark) (u h r : ℕ) → AreProof nodes marks → slice_get marks u ≡ Some (mark.Ready r) → Needs nodes u h
    → (s : ℕ) × (slice_get marks h ≡ Some (mark.Ready s)) × (s < r)
needs_below nodes marks u h r p m (itself e g) = needs_itself nodes marks u h r p m e g
needs_below nodes marks u h r p m (through {v = v} e g n) =
    let t = needy_there nodes v h n in
    let b = below_at nodes marks r v t.0 t.1 (name_below nodes marks u v r p m e) in
    let c = needs_below nodes marks v h b.0 p b.1 n in
    (c.0, c.1, let i = c.2 in let j = b.2 in omega (arith, i, j))

ready_within : (nodes : List Node) (marks : List Mark) (k u r : ℕ) → r < k → AreProof nodes marks → slice_get marks u ≡ Some (mark.Ready r) → Ready nodes u
ready_within nodes marks zero u r l p m = absurd (omega arith)
ready_within nodes marks (suc k) u r l p m = ready (λ h n. let b = needs_below nodes marks u h r p m n in ready_within nodes marks k h b.0 (let i : b.0 < k = omega arith in i) p b.1)

pub shown_ready : (nodes : List Node) (marks : List Mark) (u r : ℕ) → AreProof nodes marks → slice_get marks u ≡ Some (mark.Ready r) → Ready nodes u
shown_ready nodes marks u r p m = ready_within nodes marks (suc r) u r (omega arith) p m

-- a node with a stuck mark names a global with one, or a node that is nearer to one
named_nearer : (nodes : List Node) (marks : List Mark) (u d : ℕ) → AreProof nodes marks → slice_get marks u ≡ Some (mark.Stuck d)
    → (v : ℕ) × (e : ℕ) × Names nodes u v × (slice_get marks v ≡ Some (mark.Stuck e)) × ((is_global nodes v ≡ true) ⊎ (e < d))
unfolding is_nearer
named_nearer nodes marks u d p m =
    let i = p.stands u (mark.Stuck d) m in
    let a = shown_nearer nodes marks i.0 d (p.shown u i.0 (mark.Stuck d) i.1 m) in
    let b = nearer_is (is_global nodes a.1) d (slice_get marks a.1) a.3 in
    (a.1, b.0, names i.0 i.1 a.0 a.2, b.1, b.2)

-- so it needs a global with a stuck mark
Stuck_needs : List Node → List Mark → ℕ → Type 0
Stuck_needs nodes marks u = (h : ℕ) × (e : ℕ) × Needs nodes u h × (slice_get marks h ≡ Some (mark.Stuck e))

by_test : (nodes : List Node) (marks : List Mark) (u v e : ℕ) (b : Bool) → is_global nodes v ≡ b → Names nodes u v → slice_get marks v ≡ Some (mark.Stuck e)
    → (b ≡ false → Stuck_needs nodes marks v) → Stuck_needs nodes marks u
unfolding Stuck_needs
by_test nodes marks u v e true t n m f = (v, e, itself n (yes_global nodes v t), m)
by_test nodes marks u v e false t n m f = let s = f refl in (s.0, s.1, through n (no_global nodes v t) s.2, s.3)

nearer_where : (b : Bool) (e d : ℕ) → ((b ≡ true) ⊎ (e < d)) → b ≡ false → e < d
nearer_where b e d (inl t) f = cc
nearer_where b e d (inr l) f = l

needs_within : (nodes : List Node) (marks : List Mark) (k u d : ℕ) → d < k → AreProof nodes marks → slice_get marks u ≡ Some (mark.Stuck d) → Stuck_needs nodes marks u
needs_within nodes marks zero u d l p m = absurd (omega arith)
needs_within nodes marks (suc k) u d l p m =
    let a = named_nearer nodes marks u d p m in
    by_test nodes marks u a.0 a.1 (is_global nodes a.0) refl a.2 a.3
    (λ f. let less = nearer_where (is_global nodes a.0) a.1 d a.4 f in needs_within nodes marks k a.0 a.1 (let i : a.1 < k = omega arith in i) p a.3)

-- and never becomes ready
pub shown_stuck : (nodes : List Node) (marks : List Mark) (g d : ℕ) → AreProof nodes marks → slice_get marks g ≡ Some (mark.Stuck d) → Ready nodes g → ⊥
unfolding Stuck_needs
shown_stuck nodes marks g d p m (ready f) = let s = needs_within nodes marks (suc d) g d (omega arith) p m in shown_stuck nodes marks s.0 s.1 p s.3 (f s.0 s.2)

pub within : {X : Type 0} (xs : List X) (k : ℕ) (x : X) → slice_get xs k ≡ Some x → k < length xs
within [] k x e = cc
within (y ∷ ys) zero x e = omega arith
within (y ∷ ys) (suc k) x e = let i = within ys k x e in omega arith

pub is_there : {X : Type 0} (xs : List X) (k : ℕ) → k < length xs → (x : X) × (slice_get xs k ≡ Some x)
is_there [] k l = absurd (omega arith)
is_there (y ∷ ys) zero l = (y, refl)
is_there (y ∷ ys) (suc k) l = is_there ys k (omega arith)

-- a global that isn't stuck has a ready mark
by_mark : (nodes : List Node) (marks : List Mark) (g : ℕ) (m : Mark) → AreProof nodes marks → slice_get marks g ≡ Some m → is_stuck (Some m) ≡ false → Ready nodes g
by_mark nodes marks g (mark.Ready r) p e h = shown_ready nodes marks g r p e
by_mark nodes marks g (mark.Stuck d) p e h = cc

both_false : (a b : Bool) → (a && b) ≡ false → a ≡ true → b ≡ false
both_false true b h e = h
both_false false b h e = cc

pub not_stuck : (nodes : List Node) (marks : List Mark) (g : ℕ) → AreProof nodes marks → length nodes ≡ length marks → is_stuck_global nodes marks g ≡ false → IsGlobal nodes g → Ready nodes g
unfolding is_stuck_global
not_stuck nodes marks g p l h (one n e t) =
    let w = within nodes g n e in
    let m = is_there marks g (omega arith) in
    by_mark nodes marks g m.0 p m.1 (subst (λ o. is_stuck o ≡ false) m.1 (both_false (is_global nodes g) (is_stuck (slice_get marks g)) h (global_test nodes g (one n e t))))

stuck_mark : (o : Option Mark) → is_stuck o ≡ true → (d : ℕ) × (o ≡ Some (mark.Stuck d))
stuck_mark None h = cc
stuck_mark (Some (mark.Ready r)) h = cc
stuck_mark (Some (mark.Stuck d)) h = (d, refl)

pub circle : (nodes : List Node) (marks : List Mark) (g : ℕ) → AreProof nodes marks → length nodes ≡ length marks → is_stuck_global nodes marks g ≡ true
    → ((u : ℕ) → u < g → is_stuck_global nodes marks u ≡ false) → IsCircle nodes g
unfolding is_stuck_global
circle nodes marks g p l h k =
    let b = both (is_global nodes g) (is_stuck (slice_get marks g)) h in
    let d = stuck_mark (slice_get marks g) b.1 in
    record { is = yes_global nodes g b.0; never = shown_stuck nodes marks g d.0 p d.1; before = λ u i t. not_stuck nodes marks u p l (k u i) t }

pub all_ready : (nodes : List Node) (marks : List Mark) → AreProof nodes marks → length nodes ≡ length marks → ((u : ℕ) → u < length marks → is_stuck_global nodes marks u ≡ false)
    → (g : ℕ) → IsGlobal nodes g → Ready nodes g
all_ready nodes marks p l k g (one n e t) = let w = within nodes g n e in not_stuck nodes marks g p l (k g (omega arith)) (one n e t)
