-- What the maps answer after an insertion.
use Rattle.std.proofs.Common.{◌↔◌, ◌<◌, length, Option, None, ◌≡◌, inl, inr, ℕ, Bool, true, false, List, Some, refl, sym, ap, ◌∙◌, ⊎_elim}
use Rattle.std.specs.BTreeMap as tree
use Rattle.std.specs.BTreeMap.{BTreeMap}
use Rattle.std.specs.Global.{Vec}
use Rattle.std.specs.Map.{KeepsOthers, IsKeyTest, AreApart, lookup}
use Rattle.std.specs.Cmp.{Equal-is}
use Rattle.std.specs.Cmp.Lexicographic.{slice_cmp, bytes_decides}
use Rattle.std.specs.Str.{bytes_eq}
use Rattle.std.proofs.Math.Bool.{true≢false}
use Rattle.std.specs.Ordering.{nat_cmp, is_eq}
use Rattle.std.specs.declared.cmp.Ordering.{Ordering}
use Rattle.std.specs.declared.cmp.Ordering.TheVariants.{Equal}
use Rattle.std.proofs.lemmas.Cmp.{nat_list_cmp_total, eq_by_cmp_equiv}
use Rattle.std.proofs.lemmas.Bool.{cases_Bool}
use Rattle.std.proofs.lemmas.Map.Lookups.{exact_bytes}
use Rattle.shared_texts.specs.Numbers.{text_number, Numbers, NoRepeats}
use Rattle.std.specs.Prelude.{slice_get, IfSome}
use Rattle.std.proofs.lemmas.Option.{slice_get_within, same_Some}
use Rattle.shared_texts.proofs.Numbering.{Puts}

is_equal : (o : Ordering) → is_eq o ≡ true → o ≡ Equal
is_equal o = (Equal-is o).0

module _ {K : Type 0} (eq : K → K → Bool) (test : K → Bool) where
  others : {X : Type 0} (old new : List (K × X)) → KeepsOthers eq test old new → (other : K → Bool) → IsKeyTest eq other → AreApart test other → lookup other new ≡ lookup other old
  unfolding KeepsOthers
  others old new h = h

-- bytes that are not the key's are told from it wherever the order compares them
apart_in_order : (bs cs ks : List ℕ) → bytes_eq bs cs ≡ false → is_eq (slice_cmp nat_cmp bs ks) ≡ true → is_eq (slice_cmp nat_cmp cs ks) ≡ false
apart_in_order bs cs ks n y =
    let same = exact_bytes bs ks (is_equal (slice_cmp nat_cmp bs ks) y) in
    ⊎_elim (λ t. absurd (true≢false (sym ((bytes_decides bs cs).1 (same ∙ sym (exact_bytes cs ks (is_equal (slice_cmp nat_cmp cs ks) t)))) ∙ n))) (λ f. f) (cases_Bool (is_eq (slice_cmp nat_cmp cs ks)))

pub puts_text : (m n : BTreeMap (Vec ℕ) ℕ) (key : Vec ℕ) (v : ℕ) → tree.Updates (λ x y. slice_cmp nat_cmp x.items y.items) m n key (Some v) → Puts (text_number m) (text_number n) key.items v
puts_text m n key v u bytes =
    ⊎_elim
    (λ y. inl (sym ((bytes_decides key.items bytes).0 y), ap (λ l. text_number n l) (sym ((bytes_decides key.items bytes).0 y)) ∙ u.1))
    (λ f. inr ((λ e. true≢false (sym ((bytes_decides key.items bytes).1 (sym e)) ∙ f)), others _ _ _ _ u.3 _ (λ x y. (eq_by_cmp_equiv nat_list_cmp_total).congr bytes x.items y.items) (λ k. apart_in_order key.items bytes k.items f)))
    (cases_Bool (bytes_eq key.items bytes))

pub within_some : {X : Type 0} (r : Option ℕ) (xs : List X) (x : X) → ((k : ℕ) → (r ≡ Some k) ↔ (slice_get xs k ≡ Some x)) → IfSome r (λ k. k < length xs)
within_some None xs x h = tt
within_some (Some k) xs x h = slice_get_within xs k x ((h k).0 refl)

-- a look-up that answers each item's position says that no item is there twice
pub told : {X : Type 0} (look : X → Option ℕ) (xs : List X) → Numbers look xs → NoRepeats xs
told look xs h x j k p q = same_Some j k (sym ((h x j).1 p) ∙ (h x k).1 q)
