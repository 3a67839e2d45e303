-- Sorted numbers, each once.
use Rattle.std.proofs.Common.{◌≡◌, ℕ, suc, ◌+◌, ◌≤◌, Bool, true, false, cond, ◌||◌, eqb, List, [], ◌∷◌, ◌++◌, Option, Some, None, Result, Ok, Err}
use Rattle.std.proofs.Common.{get_or, refl, ap, sym, ◌∙◌, subst, arith, inl, inr, append_assoc}
use Rattle.std.proofs.lemmas.Bool.{cases_Bool, eqb-true, eqb-false}
use Rattle.std.proofs.lemmas.List.Sorted.{list_any-IsPermutation}
use Rattle.std.specs.List.{list_any}
use Rattle.std.specs.Prelude.{⊤, IfOk}
use Rattle.std.specs.List.Sorted.{IsSorted, IsPermutation}
use Rattle.std.specs.Ordering.{nat_cmp, is_lt}
use Rattle.std.proofs.lemmas.Map.Keys.{ge_from_not_lt}
use Rattle.doc_model.specs.Document.{is_member}
use Rattle.doc_model.specs.Relations.{is_some_of}
use Rattle.doc_laws.specs.Ordered.{AscendsFrom}
use Rattle.node_lists.specs.InOrder.{IsInOrder}

-- the numbers without those that repeat the one before
abbrev pub unrepeated : Option ℕ → List ℕ → List ℕ
unrepeated last [] = []
unrepeated last (n ∷ ns) = cond (is_some_of last n) (unrepeated last ns) (n ∷ unrepeated (Some n) ns)

pub repeat_left_out : (last : Option ℕ) (n : ℕ) (done ns all : List ℕ) → is_some_of last n ≡ true → done ++ unrepeated last (n ∷ ns) ≡ all → done ++ unrepeated last ns ≡ all
repeat_left_out last n done ns all e h = ap (λ b. done ++ cond b (unrepeated last ns) (n ∷ unrepeated (Some n) ns)) (sym e) ∙ h

pub next_is_put : (last : Option ℕ) (n : ℕ) (done ns all : List ℕ) → is_some_of last n ≡ false → done ++ unrepeated last (n ∷ ns) ≡ all → (done ++ n ∷ []) ++ unrepeated (Some n) ns ≡ all
next_is_put last n done ns all e h =
    append_assoc done (n ∷ []) (unrepeated (Some n) ns) ∙ ap (λ b. done ++ cond b (unrepeated last ns) (n ∷ unrepeated (Some n) ns)) (sym e) ∙ h

-- each number is not below the one before
abbrev RisesFrom : ℕ → List ℕ → Type 0
RisesFrom a [] = ⊤
RisesFrom a (n ∷ ns) = (a ≤ n) × RisesFrom n ns

tail_rises : (n : ℕ) (ns : List ℕ) → IsSorted nat_cmp (n ∷ ns) → RisesFrom n ns
tail_rises n [] s = tt
tail_rises n (m ∷ ms) s = (
  ge_from_not_lt m n (s 0 n (omega arith) (omega arith)),
  tail_rises m ms (λ k d l lt.
      let next : suc k + 1 ≡ suc (k + 1) = omega arith in
      subst (λ j. is_lt (nat_cmp (get_or (n ∷ m ∷ ms) j d) (get_or (m ∷ ms) k d)) ≡ false) next (s (suc k) d (omega arith) (omega (arith, lt)))),
)

rises : (ns : List ℕ) → IsSorted nat_cmp ns → RisesFrom 0 ns
rises [] s = tt
rises (n ∷ ns) s = (omega arith, tail_rises n ns s)

unrepeated_ascends : (m : ℕ) (ns : List ℕ) → RisesFrom m ns → AscendsFrom (suc m) (unrepeated (Some m) ns)
unrepeated_ascends m [] r = tt
unrepeated_ascends m (n ∷ ns) r = elim (cases_Bool (eqb m n)) [
  | inl e ↦
      subst (AscendsFrom (suc m)) (sym (ap (λ b. cond b (unrepeated (Some m) ns) (n ∷ unrepeated (Some n) ns)) e))
      (unrepeated_ascends m ns (subst (λ k. RisesFrom k ns) (sym (eqb-true m n e)) r.1))
  | inr e ↦
      subst (AscendsFrom (suc m)) (sym (ap (λ b. cond b (unrepeated (Some m) ns) (n ∷ unrepeated (Some n) ns)) e))
      (let l = r.0 in let other = eqb-false m n e in omega (arith, l, other), unrepeated_ascends n ns r.1)
]

ascending : (ns : List ℕ) → RisesFrom 0 ns → AscendsFrom 0 (unrepeated None ns)
ascending [] r = tt
ascending (n ∷ ns) r = (omega arith, unrepeated_ascends n ns r.1)

or_twice : (a b : Bool) → (a || (a || b)) ≡ (a || b)
or_twice true b = refl
or_twice false b = refl

same_members : (k m : ℕ) (ns : List ℕ) → is_member k (m ∷ unrepeated (Some m) ns) ≡ is_member k (m ∷ ns)
same_members k m [] = refl
same_members k m (n ∷ ns) = elim (cases_Bool (eqb m n)) [
  | inl e ↦
      ap (λ b. is_member k (m ∷ cond b (unrepeated (Some m) ns) (n ∷ unrepeated (Some n) ns))) e
      ∙ same_members k m ns ∙ sym (or_twice (eqb k m) (is_member k ns))
      ∙ ap (λ j. eqb k m || (eqb k j || is_member k ns)) (eqb-true m n e)
  | inr e ↦
      ap (λ b. is_member k (m ∷ cond b (unrepeated (Some m) ns) (n ∷ unrepeated (Some n) ns))) e ∙ ap (λ b. eqb k m || b) (same_members k n ns)
]

members : (k : ℕ) (ns : List ℕ) → is_member k (unrepeated None ns) ≡ is_member k ns
members k [] = refl
members k (n ∷ ns) = same_members k n ns

pub sorted_once : (ns ordered : List ℕ) → IsSorted nat_cmp ns → ordered ≡ unrepeated None ns → IsInOrder ns ordered
sorted_once ns ordered s e = record { order = subst (AscendsFrom 0) (sym e) (ascending ns (rises ns s)); members = λ k. ap (is_member k) e ∙ members k ns }

member_any : (k : ℕ) (ns : List ℕ) → is_member k ns ≡ list_any (λ n. eqb k n) ns
member_any k [] = refl
member_any k (n ∷ ns) = ap (λ b. eqb k n || b) (member_any k ns)

-- the same numbers in another order
pub moved : (ns ms ordered : List ℕ) → IsPermutation ns ms → IsInOrder ms ordered → IsInOrder ns ordered
moved ns ms ordered p i = record { order = i.order; members = λ k. i.members k ∙ member_any k ms ∙ sym (list_any-IsPermutation (λ n. eqb k n) ns ms p) ∙ sym (member_any k ns) }

pub moved_ok : {E : Type 0} (ns ms : List ℕ) (r : Result (List ℕ) E) → IsPermutation ns ms → IfOk r (λ ordered. IsInOrder ms ordered) → IfOk r (λ ordered. IsInOrder ns ordered)
moved_ok ns ms (Ok ordered) p i = moved ns ms ordered p i
moved_ok ns ms (Err e) p i = tt
