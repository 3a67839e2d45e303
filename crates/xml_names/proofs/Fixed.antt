-- The two prefixes that are never bound anew.
use Rattle.std.proofs.Common.{◌≡◌, ℕ, ◌<◌, ◌≤◌, List, [], ◌∷◌, ◌++◌, false, Some, None, sym, ◌∙◌, ap, subst, refl, arith, length, reverse, take, drop, codes}
use Rattle.std.proofs.lemmas.Grind.{common_steps}
use Rattle.std.proofs.lemmas.List.{reverse-append, take-append-drop, length-take-le, length-reverse}
use Rattle.xml_names.specs.Bindings.{xml_binding, is_fixed, uri_in, unless_empty, resolved}
use Rattle.xml_names.specs.Kept.{AreStarts, KeepsFixed, bindings_of, scopes_of}
use Rattle.xml_names.specs.declared.scopes.Binding.{Binding}
use Rattle.xml_names.proofs.Places.{seen}
use Rattle.xml_names.specs.declared.index.Declaration.{Declaration}

-- what binds `xml` at first is what binds it for good
pub xml_kept : (back : List Declaration) → KeepsFixed back → uri_in xml_binding.prefix (bindings_of back) ≡ Some xml_binding.uri
xml_kept [] h = absurd h
xml_kept (it ∷ []) h = rw h refl
xml_kept (it ∷ earlier ∷ before) h = grind (arith, common_steps, h.0, xml_kept (earlier ∷ before) h.1)

pub xmlns_kept : (back : List Declaration) → KeepsFixed back → uri_in (codes "xmlns") (bindings_of back) ≡ None
xmlns_kept [] h = absurd h
xmlns_kept (it ∷ []) h = rw h refl
xmlns_kept (it ∷ earlier ∷ before) h = grind (arith, common_steps, h.0, xmlns_kept (earlier ∷ before) h.1)

-- one more binding
pub fixed_more : (it : Declaration) (back : List Declaration) → is_fixed it.binding.prefix ≡ false → KeepsFixed back → KeepsFixed (it ∷ back)
fixed_more it [] h is = absurd is
fixed_more it (earlier ∷ before) h is = (h, is)

-- the latest bindings taken off
fixed_behind : (front back : List Declaration) → 0 < length back → KeepsFixed (front ++ back) → KeepsFixed back
fixed_behind [] back some is = is
fixed_behind (it ∷ []) [] some is = let no : ⊥ = omega (arith, some) in absurd no
fixed_behind (it ∷ []) (earlier ∷ before) some is = is.1
fixed_behind (it ∷ next ∷ front) back some is = fixed_behind (next ∷ front) back some is.1

pub fixed_before : (count : ℕ) (declarations : List Declaration) → 0 < count → count ≤ length declarations → KeepsFixed (reverse declarations)
    → KeepsFixed (reverse (take count declarations))
fixed_before count declarations some within is =
    let parts : reverse declarations ≡ reverse (drop count declarations) ++ reverse (take count declarations) =
    ap reverse (sym (take-append-drop count declarations)) ∙ reverse-append (take count declarations) (drop count declarations) in
    fixed_behind (reverse (drop count declarations)) (reverse (take count declarations))
    (rw (length-reverse (take count declarations), length-take-le count declarations within) some) (subst KeepsFixed parts is)

-- a scope begins behind the binding of `xml`
pub starts_some : (starts : List ℕ) (count : ℕ) → AreStarts starts count → 0 < count
starts_some [] count is = is
starts_some (start ∷ starts) count is = omega (arith, is.0, starts_some starts start is.1)

pub xml_resolved : (scopes : List (List Binding)) (starts : List ℕ) (declarations : List Declaration) → KeepsFixed (reverse declarations) → scopes_of starts (bindings_of declarations) ≡ scopes
    → resolved scopes (codes "xml") ≡ Some xml_binding.uri
xml_resolved scopes starts declarations fixed is =
    subst (λ all. resolved all (codes "xml") ≡ Some xml_binding.uri) is (ap unless_empty (seen (codes "xml") starts declarations ∙ xml_kept (reverse declarations) fixed))

pub xmlns_resolved : (scopes : List (List Binding)) (starts : List ℕ) (declarations : List Declaration) → KeepsFixed (reverse declarations) → scopes_of starts (bindings_of declarations) ≡ scopes
    → resolved scopes (codes "xmlns") ≡ None
xmlns_resolved scopes starts declarations fixed is =
    subst (λ all. resolved all (codes "xmlns") ≡ None) is (ap unless_empty (seen (codes "xmlns") starts declarations ∙ xmlns_kept (reverse declarations) fixed))
