-- What the maps answer after an insertion.
use Rattle.std.proofs.Common.{◌≡◌, inl, inr, ℕ, Bool, true, false, List, Some, refl, sym, ap, ◌∙◌, ⊎_elim, arith}
use Rattle.std.specs.BTreeMap as tree
use Rattle.std.specs.BTreeMap.{BTreeMap, is_at}
use Rattle.std.specs.Global.{Vec}
use Rattle.std.specs.Map.{KeepsOthers, IsKeyTest, AreApart, lookup}
use Rattle.std.specs.Cmp.{Equal-is}
use Rattle.std.specs.Cmp.Lexicographic.{slice_cmp, bytes_decides}
use Rattle.std.specs.Str.{bytes_eq}
use Rattle.std.proofs.Math.Bool.{true≢false}
use Rattle.std.specs.Ordering.{nat_cmp, is_eq, ordering_then}
use Rattle.std.specs.declared.cmp.Ordering.{Ordering}
use Rattle.std.specs.declared.cmp.Ordering.TheVariants.{Less, Equal, Greater}
use Rattle.std.proofs.lemmas.Cmp.{nat_list_cmp_total, eq_by_cmp_equiv}
use Rattle.std.proofs.lemmas.Grind.{common_steps}
use Rattle.std.proofs.lemmas.Bool.{cases_Bool, cond-true, cond-false}
use Rattle.std.proofs.lemmas.Map.Lookups.{exact_bytes, exact_unsigned}
use Rattle.name_pool.specs.Keys.{key_cmp, key_number}
use Rattle.name_pool.specs.Numbers.{text_number}
use Rattle.name_pool.specs.declared.type_numbers.TypeKey.{TypeKey}
use Rattle.name_pool.proofs.Numbering.{Puts}

is_less : Ordering → Bool
is_less Less = true
is_less Equal = false
is_less Greater = false

equal_parts : (a b : Ordering) → ordering_then a b ≡ Equal → (a ≡ Equal) × (b ≡ Equal)
unfolding is_less
equal_parts Less b e = absurd (true≢false (ap is_less e))
equal_parts Equal b e = (refl, e)
equal_parts Greater b e = absurd (true≢false (sym (ap is_eq e)))

pub exact_keys : (a b : TypeKey) → key_cmp a b ≡ Equal → a ≡ b
exact_keys a b e =
    let first = equal_parts (nat_cmp a.kind b.kind) (ordering_then (nat_cmp a.uri b.uri) (nat_cmp a.local b.local)) e in
    let rest = equal_parts (nat_cmp a.uri b.uri) (nat_cmp a.local b.local) first.1 in
    λ i. record { kind = exact_unsigned a.kind b.kind first.0 i; uri = exact_unsigned a.uri b.uri rest.0 i; local = exact_unsigned a.local b.local rest.1 i }

is_equal : (o : Ordering) → is_eq o ≡ true → o ≡ Equal
is_equal o = (Equal-is o).0

-- an order's test of an item that it ties with itself
itself : (a : TypeKey) → key_cmp a a ≡ Equal
itself a = grind (arith, common_steps)

pub puts_key : (m n : BTreeMap TypeKey ℕ) (key : TypeKey) (v : ℕ) → tree.Updates key_cmp m n key (Some v) → Puts (key_number m) (key_number n) key v
puts_key m n key v u x =
    ⊎_elim
    (λ y. let e = exact_keys key x (is_equal (key_cmp key x) y) in inl (sym e, u.0 x ∙ cond-true (is_at (key_cmp key) x) (Some v) (key_number m x) y))
    (λ f. inr ((λ e. true≢false (sym (ap is_eq (ap (key_cmp key) e ∙ itself key)) ∙ f)), u.0 x ∙ cond-false (is_at (key_cmp key) x) (Some v) (key_number m x) f))
    (cases_Bool (is_at (key_cmp key) x))

module _ {K : Type 0} (eq : K → K → Bool) (test : K → Bool) where
  others : {X : Type 0} (old new : List (K × X)) → KeepsOthers eq test old new → (other : K → Bool) → IsKeyTest eq other → AreApart test other → lookup other new ≡ lookup other old
  unfolding KeepsOthers
  others old new h = h

-- bytes that are not the key's are told from it wherever the order compares them
apart_in_order : (bs cs ks : List ℕ) → bytes_eq bs cs ≡ false → is_eq (slice_cmp nat_cmp bs ks) ≡ true → is_eq (slice_cmp nat_cmp cs ks) ≡ false
apart_in_order bs cs ks n y =
    let same = exact_bytes bs ks (is_equal (slice_cmp nat_cmp bs ks) y) in
    ⊎_elim (λ t. absurd (true≢false (sym ((bytes_decides bs cs).1 (same ∙ sym (exact_bytes cs ks (is_equal (slice_cmp nat_cmp cs ks) t)))) ∙ n))) (λ f. f)
    (cases_Bool (is_eq (slice_cmp nat_cmp cs ks)))

pub puts_text : (m n : BTreeMap (Vec ℕ) ℕ) (key : Vec ℕ) (v : ℕ) → tree.Updates (λ x y. slice_cmp nat_cmp x.items y.items) m n key (Some v) → Puts (text_number m) (text_number n) key.items v
puts_text m n key v u bytes =
    ⊎_elim
    (λ y. inl (sym ((bytes_decides key.items bytes).0 y), ap (λ l. text_number n l) (sym ((bytes_decides key.items bytes).0 y)) ∙ u.1))
    (λ f. inr (
      (λ e. true≢false (sym ((bytes_decides key.items bytes).1 (sym e)) ∙ f)),
      others _ _ _ _ u.3 _
          (λ x y. (eq_by_cmp_equiv nat_list_cmp_total).congr bytes x.items y.items) (λ k. apart_in_order key.items bytes k.items f),
    ))
    (cases_Bool (bytes_eq key.items bytes))
