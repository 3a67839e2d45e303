-- The index of the prefixes after a change at one of them.
use Rattle.std.proofs.Common.{◌≡◌, ℕ, List, [], ◌∷◌, ◌++◌, Bool, true, false, cond, Option, Some, IsSome, sym, ◌∙◌, ap, subst, reverse, length, refl, ⊎_elim}
use Rattle.std.proofs.lemmas.Bool.{cases_Bool, cond-true, cond-false}
use Rattle.std.proofs.lemmas.List.{reverse-append, length-reverse}
use Rattle.std.proofs.lemmas.Map.Text.{is_eq-slice_cmp}
use Rattle.std.specs.Str.{bytes_eq}
use Rattle.std.specs.Ordering.{is_eq, nat_cmp}
use Rattle.std.specs.Cmp.{eq_by_cmp_equiv}
use Rattle.std.specs.Cmp.Lexicographic.{slice_cmp, bytes_decides, nat_list_eq_equiv, nat_list_cmp_total}
use Rattle.std.specs.BTreeMap.{UpdatesBy}
use Rattle.std.specs.List.{AllZip}
use Rattle.std.specs.declared.vec.Vec.{Vec}
use Rattle.std.specs.declared.alloc.Global.{Global}
use Rattle.std.specs.Map.{lookup, KeepsOthers, IsKeyTest, AreApart}
use Rattle.xml_names.specs.Kept.{Latest, found, place_of, AreLinked, IsIndexed}
use Rattle.xml_names.specs.declared.index.Declaration.{Declaration}

other_entries : {K X : Type 0} (eq : K → K → Bool) (test : K → Bool) (old new : List (K × X)) → KeepsOthers eq test old new → (other : K → Bool) → IsKeyTest eq other
    → AreApart test other → lookup other new ≡ lookup other old
unfolding KeepsOthers
other_entries eq test old new h = h

apart : (bs cs ks : List ℕ) → bytes_eq bs cs ≡ false → bytes_eq bs ks ≡ true → bytes_eq cs ks ≡ false
apart bs cs ks n y = nat_list_eq_equiv.symm cs ks ∙ sym (nat_list_eq_equiv.congr bs ks cs y) ∙ n

apart_in_order : (bs cs ks : List ℕ) → bytes_eq bs cs ≡ false → is_eq (slice_cmp nat_cmp bs ks) ≡ true → is_eq (slice_cmp nat_cmp cs ks) ≡ false
apart_in_order bs cs ks n y = is_eq-slice_cmp cs ks ∙ apart bs cs ks n (sym (is_eq-slice_cmp bs ks) ∙ y)

-- a change at the prefix bs leaves what is found at others
pub found_after : (bs : List ℕ) (old new : Latest) (w : Option ℕ) → UpdatesBy (λ x y. slice_cmp nat_cmp x.items y.items) (λ key. slice_cmp nat_cmp bs key.items) old new w
    → (cs : List ℕ) → found cs new ≡ cond (bytes_eq bs cs) w (found cs old)
found_after bs old new w h cs =
    ⊎_elim
    (λ y. subst (λ l. found l new ≡ w) ((bytes_decides bs cs).0 y) h.1 ∙ sym (cond-true (bytes_eq bs cs) w (found cs old) y))
    (λ n. other_entries _ _ _ _ h.3 _ (λ x y. (eq_by_cmp_equiv nat_list_cmp_total).congr cs x.items y.items) (λ key. apart_in_order bs cs key.items n)
    ∙ sym (cond-false (bytes_eq bs cs) w (found cs old) n))
    (cases_Bool (bytes_eq bs cs))

-- one more binding, of a prefix whose latest it hides
pub indexed_more : (declarations : List Declaration) (old new : Latest) (it : Declaration) → IsIndexed declarations old
    → ((prefix : List ℕ) → found prefix new ≡ cond (bytes_eq it.binding.prefix prefix) (Some (length declarations)) (found prefix old))
    → it.hidden ≡ found it.binding.prefix old → IsIndexed (declarations ++ it ∷ []) new
indexed_more declarations old new it is after hides =
    let back : reverse (declarations ++ it ∷ []) ≡ it ∷ reverse declarations = reverse-append declarations (it ∷ []) in
    record {
      finds = λ prefix. after prefix ∙ subst (λ r. cond (bytes_eq it.binding.prefix prefix) (Some (length declarations)) (found prefix old) ≡ place_of prefix r) (sym back)
          (rw (length-reverse declarations, is.finds prefix) refl);
      linked = subst AreLinked (sym back) (hides ∙ is.finds it.binding.prefix, is.linked);
    }

revealed : (it : Declaration) (back : List Declaration) (old : Latest) (prefix : List ℕ) → it.hidden ≡ place_of it.binding.prefix back
    → found prefix old ≡ place_of prefix (it ∷ back) → cond (bytes_eq it.binding.prefix prefix) it.hidden (found prefix old) ≡ place_of prefix back
revealed it back old prefix hides finds =
    let same = bytes_eq it.binding.prefix prefix in
    ⊎_elim
    (λ y. cond-true same it.hidden (found prefix old) y ∙ hides ∙ ap (λ p. place_of p back) ((bytes_decides it.binding.prefix prefix).0 y))
    (λ n. cond-false same it.hidden (found prefix old) n ∙ finds ∙ cond-false same (Some (length back)) (place_of prefix back) n)
    (cases_Bool same)

-- without the last binding
pub indexed_less : (declarations : List Declaration) (old new : Latest) (it : Declaration) → IsIndexed (declarations ++ it ∷ []) old
    → ((prefix : List ℕ) → found prefix new ≡ cond (bytes_eq it.binding.prefix prefix) it.hidden (found prefix old))
    → IsIndexed declarations new
indexed_less declarations old new it is after =
    let back : reverse (declarations ++ it ∷ []) ≡ it ∷ reverse declarations = reverse-append declarations (it ∷ []) in
    let linked : AreLinked (it ∷ reverse declarations) = subst AreLinked back is.linked in
    record {
      finds = λ prefix. after prefix ∙ revealed it (reverse declarations) old prefix linked.0 (subst (λ r. found prefix old ≡ place_of prefix r) back (is.finds prefix));
      linked = linked.1;
    }

-- the last binding is found
pub found_last : (declarations : List Declaration) (latest : Latest) (it : Declaration) → IsIndexed (declarations ++ it ∷ []) latest → IsSome (found it.binding.prefix latest)
found_last declarations latest it is =
    rw (is.finds it.binding.prefix, reverse-append declarations (it ∷ []), nat_list_eq_equiv.refl it.binding.prefix) refl

-- entries whose keys have the same bytes, and whose values are the same, are found alike
pub found_alike : (R : Vec ℕ Global → Vec ℕ Global → Type 0) (S : ℕ → ℕ → Type 0) → ((v w : Vec ℕ Global) → R v w → w.items ≡ v.items) → ((x y : ℕ) → S x y → y ≡ x)
    → (prefix : List ℕ) (old new : List (Vec ℕ Global × ℕ)) → AllZip (λ p q. R p.0 q.0 × S p.1 q.1) old new
    → lookup (λ key. is_eq (slice_cmp nat_cmp prefix key.items)) new ≡ lookup (λ key. is_eq (slice_cmp nat_cmp prefix key.items)) old
found_alike R S keys values prefix [] [] h = refl
found_alike R S keys values prefix [] (q ∷ new) h = absurd h
found_alike R S keys values prefix (p ∷ old) [] h = absurd h
found_alike R S keys values prefix (p ∷ old) (q ∷ new) h =
    rw (keys p.0 q.0 h.0.0, values p.1 q.1 h.0.1, found_alike R S keys values prefix old new h.1) refl

-- the index of a copy
pub indexed_alike : (declarations : List Declaration) (old new : Latest) → IsIndexed declarations old → ((prefix : List ℕ) → found prefix new ≡ found prefix old) → IsIndexed declarations new
indexed_alike declarations old new is same = record { finds = λ prefix. same prefix ∙ is.finds prefix; linked = is.linked }
