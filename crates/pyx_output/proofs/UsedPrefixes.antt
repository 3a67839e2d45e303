-- One more prefix in the index.
use Rattle.std.proofs.Common.{◌≡◌, ℕ, ◌||◌, List, ◌∷◌, Bool, true, false, cond, Option, Some, is_some, refl, sym, ap, ◌∙◌, subst, ⊎_elim}
use Rattle.std.proofs.lemmas.Bool.{cases_Bool, cond-true, cond-false}
use Rattle.std.proofs.lemmas.Map.Text.{is_eq-slice_cmp}
use Rattle.std.specs.BTreeMap.{UpdatesBy}
use Rattle.std.specs.Cmp.{eq_by_cmp_equiv}
use Rattle.std.specs.Cmp.Lexicographic.{slice_cmp, bytes_decides, nat_list_eq_equiv, nat_list_cmp_total}
use Rattle.std.specs.Map.{lookup, KeepsOthers, IsKeyTest, AreApart}
use Rattle.std.specs.Ordering.{is_eq, nat_cmp}
use Rattle.std.specs.Str.{bytes_eq}
use Rattle.xml_names.specs.Kept.{Latest, found}
use Rattle.pyx_output.specs.Declaring.{has_prefix}
use Rattle.pyx_output.specs.Used.{IsUsed}

other_entries : {K X : Type 0} (eq : K → K → Bool) (test : K → Bool) (old new : List (K × X)) → KeepsOthers eq test old new → (other : K → Bool) → IsKeyTest eq other
    → AreApart test other → lookup other new ≡ lookup other old
unfolding KeepsOthers
other_entries eq test old new h = h

apart : (bs cs ks : List ℕ) → bytes_eq bs cs ≡ false → bytes_eq bs ks ≡ true → bytes_eq cs ks ≡ false
apart bs cs ks n y = nat_list_eq_equiv.symm cs ks ∙ sym (nat_list_eq_equiv.congr bs ks cs y) ∙ n

apart_in_order : (bs cs ks : List ℕ) → bytes_eq bs cs ≡ false → is_eq (slice_cmp nat_cmp bs ks) ≡ true → is_eq (slice_cmp nat_cmp cs ks) ≡ false
apart_in_order bs cs ks n y = is_eq-slice_cmp cs ks ∙ apart bs cs ks n (sym (is_eq-slice_cmp bs ks) ∙ y)

-- what is found after a change at one prefix
pub found_after : (bs : List ℕ) (old new : Latest) (w : Option ℕ) → UpdatesBy (λ x y. slice_cmp nat_cmp x.items y.items) (λ key. slice_cmp nat_cmp bs key.items) old new w
    → (cs : List ℕ) → found cs new ≡ cond (bytes_eq bs cs) w (found cs old)
found_after bs old new w h cs =
    ⊎_elim
    (λ y. subst (λ l. found l new ≡ w) ((bytes_decides bs cs).0 y) h.1 ∙ sym (cond-true (bytes_eq bs cs) w (found cs old) y))
    (λ n. other_entries _ _ _ _ h.3 _ (λ x y. (eq_by_cmp_equiv nat_list_cmp_total).congr cs x.items y.items) (λ key. apart_in_order bs cs key.items n)
    ∙ sym (cond-false (bytes_eq bs cs) w (found cs old) n))
    (cases_Bool (bytes_eq bs cs))

some_by : (is more : Bool) (before : Option ℕ) → is_some before ≡ more → is_some (cond is (Some 0) before) ≡ is || more
some_by true more before same = refl
some_by false more before same = same

pub used_more : (key : List ℕ) (old new : Latest) (prefixes : List (List ℕ)) → IsUsed old prefixes
    → ((prefix : List ℕ) → found prefix new ≡ cond (bytes_eq key prefix) (Some 0) (found prefix old)) → IsUsed new (key ∷ prefixes)
used_more key old new prefixes is after = λ prefix. ap (λ (place : Option ℕ). is_some place) (after prefix) ∙ some_by (bytes_eq key prefix) (has_prefix prefix prefixes) (found prefix old) (is prefix)
