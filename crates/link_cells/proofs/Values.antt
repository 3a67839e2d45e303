-- The value of a word after one more set.
use Rattle.std.proofs.Common.{ap, sym, ◌∙◌, ◌≡◌, ◌≢◌, ℕ, ◌==◌, Bool, true, false, List, [], ◌∷◌, ◌++◌, refl, subst, arith}
use Rattle.std.proofs.lemmas.Bool.Decides.{nat_tests}
use Rattle.link_cells.specs.declared.entry.Entry.{Entry}
use Rattle.link_cells.specs.Log.{put, value_at, IsOnce, IsUnset, IsTheSet}

pub value_of_unset : (at : ℕ) (log : List Entry) → IsUnset at log → value_at at log ≡ 0
value_of_unset at [] none = refl
value_of_unset at (e ∷ es) none = let apart = none.0 in let rest = value_of_unset at es none.1 in grind (arith, nat_tests)

-- a word whose value is 0 has no set
pub unset_of : (at : ℕ) (log : List Entry) → IsOnce log → value_at at log ≡ 0 → IsUnset at log
unset_of at [] once none = tt
unset_of at (e ∷ es) once none =
    let some_value = once.0 in
    let rest : value_at at es ≡ 0 = grind (arith, nat_tests, value_of_unset e.at es once.1) in
    ((λ same. grind (arith, nat_tests)), unset_of at es once.2 rest)

pub value_at-push_other : (i at value : ℕ) (log : List Entry) → i ≢ at → value_at i (log ++ put at value ∷ []) ≡ value_at i log
value_at-push_other i at value [] apart = grind (arith, nat_tests)
value_at-push_other i at value (e ∷ es) apart = let rest = value_at-push_other i at value es apart in grind (arith, nat_tests)

pub value_at-push_same : (at value : ℕ) (log : List Entry) → IsUnset at log → value_at at (log ++ put at value ∷ []) ≡ value
value_at-push_same at value [] none = grind (arith, nat_tests)
value_at-push_same at value (e ∷ es) none = let apart = none.0 in let rest = value_at-push_same at value es none.1 in grind (arith, nat_tests)

unset-push : (i at value : ℕ) (log : List Entry) → at ≢ i → IsUnset i log → IsUnset i (log ++ put at value ∷ [])
unset-push i at value [] apart none = (apart, tt)
unset-push i at value (e ∷ es) apart none = (none.0, unset-push i at value es apart none.1)

pub once-push : (at value : ℕ) (log : List Entry) → IsOnce log → IsUnset at log → value ≢ 0 → IsOnce (log ++ put at value ∷ [])
once-push at value [] once none given = (given, tt, tt)
once-push at value (e ∷ es) once none given =
    (once.0, unset-push e.at at value es (λ same. none.0 (sym same)) once.1, once-push at value es once.2 none.1 given)

-- a value other than 0 is that of the one set
the_set_at : (at : ℕ) (e : Entry) (es : List Entry) → IsOnce (e ∷ es) → value_at at (e ∷ es) ≢ 0 → (value_at at es ≢ 0 → IsTheSet at (value_at at es) es)
    → (b : Bool) → (e.at == at) ≡ b → IsTheSet at (value_at at (e ∷ es)) (e ∷ es)
the_set_at at e es once given rest true is =
    let same : e.at ≡ at = grind (arith, nat_tests) in
    let value : value_at at (e ∷ es) ≡ e.value = grind (arith, nat_tests) in
    ([], es, ap (λ (p : Entry). p ∷ es) (ap (λ a. put a e.value) same ∙ ap (λ v. put at v) (sym value)), tt, subst (λ a. IsUnset a es) same once.1)
the_set_at at e es once given rest false is =
    let apart : e.at ≢ at = λ same. grind (arith, nat_tests) in
    let later : value_at at (e ∷ es) ≡ value_at at es = grind (arith, nat_tests) in
    let t = rest (λ none. given (later ∙ none)) in
    (e ∷ t.0, t.1, ap (λ l. e ∷ l) (t.2 ∙ ap (λ v. t.0 ++ put at v ∷ t.1) (sym later)), (apart, t.3), t.4)

pub the_set : (at : ℕ) (log : List Entry) → IsOnce log → value_at at log ≢ 0 → IsTheSet at (value_at at log) log
the_set at [] once given = absurd (given refl)
the_set at (e ∷ es) once given = the_set_at at e es once given (the_set at es once.2) (e.at == at) refl
