-- The index of partners after one more mention.
use Rattle.std.proofs.Common.{◌≡◌, ℕ, List, ◌∷◌, Bool, true, false, cond, Option, Some, None, refl, sym, ◌∙◌, subst, ⊎_elim}
use Rattle.std.proofs.lemmas.Bool.{cases_Bool, cond-true, cond-false}
use Rattle.std.proofs.lemmas.Map.Text.{is_eq-slice_cmp}
use Rattle.std.specs.Str.{bytes_eq}
use Rattle.std.specs.Ordering.{is_eq, nat_cmp}
use Rattle.std.specs.Cmp.{eq_by_cmp_equiv}
use Rattle.std.specs.Cmp.Lexicographic.{slice_cmp, bytes_decides, nat_list_eq_equiv, nat_list_cmp_total}
use Rattle.std.specs.BTreeMap.{BTreeMap, UpdatesBy}
use Rattle.std.specs.Global.{Vec}
use Rattle.std.specs.Map.{lookup, KeepsOthers, IsKeyTest, AreApart}
use Rattle.xpath_funcs.specs.Translating.{found, either, partner, first_of, rest_of}

abbrev pub Index : Type 0
Index = BTreeMap (Vec ℕ) (List ℕ)

other_entries : {K X : Type 0} (eq : K → K → Bool) (test : K → Bool) (old new : List (K × X)) → KeepsOthers eq test old new → (other : K → Bool) → IsKeyTest eq other
    → AreApart test other → lookup other new ≡ lookup other old
unfolding KeepsOthers
other_entries eq test old new h = h

apart : (bs cs ks : List ℕ) → bytes_eq bs cs ≡ false → bytes_eq bs ks ≡ true → bytes_eq cs ks ≡ false
apart bs cs ks n y = nat_list_eq_equiv.symm cs ks ∙ sym (nat_list_eq_equiv.congr bs ks cs y) ∙ n

apart_in_order : (bs cs ks : List ℕ) → bytes_eq bs cs ≡ false → is_eq (slice_cmp nat_cmp bs ks) ≡ true → is_eq (slice_cmp nat_cmp cs ks) ≡ false
apart_in_order bs cs ks n y = is_eq-slice_cmp cs ks ∙ apart bs cs ks n (sym (is_eq-slice_cmp bs ks) ∙ y)

-- a change at one character leaves what others have
pub found_after : (bs : List ℕ) (old new : Index) (w : Option (List ℕ)) → UpdatesBy (λ x y. slice_cmp nat_cmp x.items y.items) (λ key. slice_cmp nat_cmp bs key.items) old new w
    → (cs : List ℕ) → found cs new ≡ cond (bytes_eq bs cs) w (found cs old)
found_after bs old new w h cs =
    ⊎_elim
    (λ y. subst (λ l. found l new ≡ w) ((bytes_decides bs cs).0 y) h.1 ∙ sym (cond-true (bytes_eq bs cs) w (found cs old) y))
    (λ n. other_entries _ _ _ _ h.3 _ (λ x y. (eq_by_cmp_equiv nat_list_cmp_total).congr cs x.items y.items) (λ key. apart_in_order bs cs key.items n)
    ∙ sym (cond-false (bytes_eq bs cs) w (found cs old) n))
    (cases_Bool (bytes_eq bs cs))

first_by : (is : Bool) (have : Option (List ℕ)) (new : List ℕ) → (is ≡ true → have ≡ None) → cond is (Some new) have ≡ either have (cond is (Some new) None)
first_by true None new none = refl
first_by true (Some old) new none = absurd (cc (none refl))
first_by false None new none = refl
first_by false (Some old) new none = refl

-- a first mention
pub mentioned : (bs partner : List ℕ) (old new : Index) → found bs old ≡ None → UpdatesBy (λ x y. slice_cmp nat_cmp x.items y.items) (λ key. slice_cmp nat_cmp bs key.items) old new (Some partner)
    → (cs : List ℕ) → found cs new ≡ either (found cs old) (cond (bytes_eq bs cs) (Some partner) None)
mentioned bs partner old new none h cs =
    found_after bs old new (Some partner) h cs
    ∙ first_by (bytes_eq bs cs) (found cs old) partner (λ is. subst (λ l. found l old ≡ None) ((bytes_decides bs cs).0 is) none)

step_by : (is : Bool) (have : Option (List ℕ)) (new : List ℕ) (rest : Option (List ℕ)) → either (either have (cond is (Some new) None)) rest ≡ either have (cond is (Some new) rest)
step_by is (Some old) new rest = refl
step_by true None new rest = refl
step_by false None new rest = refl

-- what the index has after a mention, and what is still to be mentioned
pub partner_step : (character mentioned : List ℕ) (from to : List (List ℕ)) (have : Option (List ℕ))
    → either (either have (cond (bytes_eq mentioned character) (Some (first_of to)) None)) (partner character from (rest_of to)) ≡ either have (partner character (mentioned ∷ from) to)
partner_step character mentioned from to have = step_by (bytes_eq mentioned character) have (first_of to) (partner character from (rest_of to))
