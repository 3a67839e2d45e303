-- The bindings of a scope, by the entry that numbers it.
use Rattle.std.proofs.Common.{◌≡◌, ℕ, zero, suc, ◌+◌, ◌-◌, ◌<◌, ◌≤◌, nat_lt, ◌==◌, if◌then◌else◌, List, [], ◌∷◌, ◌++◌, Some, None, true, false, sym}
use Rattle.std.proofs.Common.{◌∙◌, ap, subst, reverse, length, refl, get_or, arith}
use Rattle.std.proofs.lemmas.Grind.{common_steps}
use Rattle.std.proofs.lemmas.List.{reverse-append, reverse-reverse, length-reverse, get_or_append_left}
use Rattle.std.proofs.lemmas.Option.{slice_get_within, get_or_from_slice_get}
use Rattle.std.specs.List.{slice_get}
use Rattle.std.specs.Str.{bytes_eq}
use Rattle.xml_names.specs.Bindings.{uri_in}
use Rattle.std.proofs.Math.Seq.{get_or-append_seam}
use Rattle.xml_names.specs.declared.scopes.Binding.{Binding}
use Rattle.sheet_scopes.specs.Scopes.{binding_of, in_force_among, in_force}
use Rattle.sheet_scopes.specs.declared.scope.ScopeEntry.{ScopeEntry}

-- a scope that no entry numbers has no bindings
pub beyond : (all : List ScopeEntry) (at : ℕ) → length all < at → in_force_among all at ≡ []
beyond [] at h = refl
beyond (it ∷ all) at h = grind (arith, common_steps, beyond all at)

pub unscoped : (all : List ScopeEntry) → in_force_among all 0 ≡ []
unscoped [] = refl
unscoped (it ∷ all) = grind (arith, common_steps, unscoped all)

-- one more entry leaves the scopes before it
pub earlier : (it : ScopeEntry) (all : List ScopeEntry) (at : ℕ) → at ≤ length all → in_force_among (it ∷ all) at ≡ in_force_among all at
earlier it all at h = grind (arith, common_steps)

pub latest : (it : ScopeEntry) (all : List ScopeEntry) → in_force_among (it ∷ all) (length all + 1) ≡ binding_of it ∷ in_force_among all it.outer
latest it all = grind (arith, common_steps)

abbrev pub around : ScopeEntry → ℕ → ℕ
around it at = if nat_lt it.outer at then it.outer else 0

-- what an entry has around it is what stood before it
around_latest : (it : ScopeEntry) (all : List ScopeEntry) → in_force_among (it ∷ all) (around it (length all + 1)) ≡ in_force_among all it.outer
around_latest it all = grind (arith, common_steps, earlier it all it.outer, unscoped (it ∷ all), beyond all it.outer)

around_earlier : (it other : ScopeEntry) (all : List ScopeEntry) (k : ℕ) → k < length all → in_force_among (it ∷ all) (around other (k + 1)) ≡ in_force_among all (around other (k + 1))
around_earlier it other all k h = grind (arith, common_steps, earlier it all (around other (k + 1)))

reverse_more : (it : ScopeEntry) (all : List ScopeEntry) → reverse (it ∷ all) ≡ reverse all ++ it ∷ []
reverse_more it all = reverse-append (it ∷ []) all

latest_placed : (it : ScopeEntry) (all : List ScopeEntry) (d : ScopeEntry) → get_or (reverse (it ∷ all)) (length all) d ≡ it
latest_placed it all d = rw (reverse_more it all, ← length-reverse all) (get_or-append_seam (reverse all) it [] d)

earlier_placed : (it : ScopeEntry) (all : List ScopeEntry) (k : ℕ) (d : ScopeEntry) → k < length all → get_or (reverse (it ∷ all)) k d ≡ get_or (reverse all) k d
earlier_placed it all k d h = rw (reverse_more it all) (get_or_append_left (reverse all) (it ∷ []) d k (rw (length-reverse all) h))

-- the scope of an entry has its binding, and those of the scope around it
pub nested : (all : List ScopeEntry) (k : ℕ) (d : ScopeEntry) → k < length all
    → in_force_among all (k + 1) ≡ binding_of (get_or (reverse all) k d) ∷ in_force_among all (around (get_or (reverse all) k d) (k + 1))
nested [] k d h = absurd (omega (arith, h))
nested (it ∷ all) k d h =
    grind (
      arith,
      common_steps,
      nested all k d,
      latest it all,
      around_latest it all,
      latest_placed it all d,
      earlier_placed it all k d,
      earlier it all (k + 1),
      around_earlier it
          (get_or (reverse all) k d) all k,
    )

past : (entries : List ScopeEntry) (k : ℕ) → slice_get entries k ≡ None → length entries ≤ k
past [] k is = omega arith
past (it ∷ entries) zero is = absurd (cc)
past (it ∷ entries) (suc k) is = omega (arith, past entries k is)

numbered : (entries : List ScopeEntry) (k : ℕ) → (if suc k == 0 then None else slice_get entries (suc k - 1)) ≡ slice_get entries k
numbered entries k = grind (arith, common_steps)

-- the scope that an entry numbers, and one that none numbers
pub scope_is : (entries : List ScopeEntry) (at : ℕ) (it : ScopeEntry) → (if at == 0 then None else slice_get entries (at - 1)) ≡ Some it
    → in_force entries at ≡ binding_of it ∷ in_force entries (around it at)
scope_is entries zero it is = absurd (cc)
scope_is entries (suc k) it is =
    let found = sym (numbered entries k) ∙ is in
    let within : k < length (reverse entries) = omega (arith, length-reverse entries, slice_get_within entries k it found) in
    let placed : get_or (reverse (reverse entries)) k it ≡ it = ap (λ all. get_or all k it) (reverse-reverse entries) ∙ get_or_from_slice_get entries k it it found in
    let next : k + 1 ≡ suc k = omega arith in
    let inner : in_force entries (k + 1) ≡ binding_of it ∷ in_force entries (around it (k + 1)) =
    nested (reverse entries) k it within ∙ ap (λ e. binding_of e ∷ in_force entries (around e (k + 1))) placed in
    subst (λ at. in_force entries at ≡ binding_of it ∷ in_force entries (around it at)) next inner

pub scope_is_none : (entries : List ScopeEntry) (at : ℕ) → (if at == 0 then None else slice_get entries (at - 1)) ≡ None → in_force entries at ≡ []
scope_is_none entries zero is = unscoped (reverse entries)
scope_is_none entries (suc k) is = beyond (reverse entries) (suc k) (omega (arith, length-reverse entries, past entries k (sym (numbered entries k) ∙ is)))

-- the innermost binding has the prefix, or leaves it to those around it
pub binds : (prefix : List ℕ) (it : ScopeEntry) (outer : List Binding) → bytes_eq it.prefix prefix ≡ true → uri_in prefix (binding_of it ∷ outer) ≡ Some it.uri
binds prefix it outer h = ap (λ same. if same then Some it.uri else uri_in prefix outer) h

pub passes : (prefix : List ℕ) (it : ScopeEntry) (outer : List Binding) → bytes_eq it.prefix prefix ≡ false → uri_in prefix (binding_of it ∷ outer) ≡ uri_in prefix outer
passes prefix it outer h = ap (λ same. if same then Some it.uri else uri_in prefix outer) h
