-- The scopes that are seen, after each change of what is kept.
use Rattle.std.proofs.Common.{◌≡◌, ℕ, ◌≤◌, ◌+◌, List, [], ◌∷◌, ◌++◌, sym, ◌∙◌, ap, subst, reverse, length, refl, take, drop, arith}
use Rattle.std.proofs.lemmas.List.{append-nil, length-append, length-map, map-append, take-map, reverse-append, take-append-drop, take-append-le, drop-append-le}
use Rattle.xml_names.specs.Bindings.{all_bindings, bound_in}
use Rattle.xml_names.specs.Kept.{scopes_of, AreStarts, bindings_of}
use Rattle.xml_names.specs.declared.scopes.Binding.{Binding}
use Rattle.xml_names.specs.declared.index.Declaration.{Declaration}

-- all bindings are in the scopes, the latest first
pub all_of_scopes : (starts : List ℕ) (bindings : List Binding) → all_bindings (scopes_of starts bindings) ≡ reverse bindings
all_of_scopes [] bindings = append-nil (reverse bindings)
all_of_scopes (start ∷ starts) bindings = rw (all_of_scopes starts (take start bindings), ← reverse-append (take start bindings) (drop start bindings), take-append-drop start bindings) refl

-- there is one more scope than there are starts
pub scopes_count : (starts : List ℕ) (bindings : List Binding) → length (scopes_of starts bindings) ≡ length starts + 1
scopes_count [] bindings = refl
scopes_count (start ∷ starts) bindings = grind (arith, scopes_count starts (take start bindings))

-- one more binding goes to the innermost scope
pub scopes_bound : (starts : List ℕ) (bindings : List Binding) (it : Binding) → AreStarts starts (length bindings)
    → scopes_of starts (bindings ++ it ∷ []) ≡ bound_in (scopes_of starts bindings) it
scopes_bound [] bindings it is = rw (reverse-append bindings (it ∷ [])) refl
scopes_bound (start ∷ starts) bindings it is =
    rw (drop-append-le start bindings (it ∷ []) is.0, take-append-le start bindings (it ∷ []) is.0, reverse-append (drop start bindings) (it ∷ [])) refl

pub starts_more : (starts : List ℕ) (count more : ℕ) → count ≤ more → AreStarts starts count → AreStarts starts more
starts_more [] count more h is = omega (arith, is, h)
starts_more (start ∷ starts) count more h is = (omega (arith, is.0, h), is.1)

pub seen_bound : (starts : List ℕ) (declarations : List Declaration) (it : Declaration) → AreStarts starts (length declarations)
    → scopes_of starts (bindings_of (declarations ++ it ∷ [])) ≡ bound_in (scopes_of starts (bindings_of declarations)) it.binding
seen_bound starts declarations it is =
    let within : AreStarts starts (length (bindings_of declarations)) = subst (AreStarts starts) (sym (length-map declarations (λ d. d.binding))) is in
    ap (scopes_of starts) (map-append (λ d. d.binding) declarations (it ∷ [])) ∙ scopes_bound starts (bindings_of declarations) it.binding within

-- without its innermost scope
pub seen_left : (starts : List ℕ) (start : ℕ) (declarations : List Declaration)
    → scopes_of (reverse (starts ++ start ∷ [])) (bindings_of declarations) ≡ reverse (drop start (bindings_of declarations)) ∷ scopes_of (reverse starts) (bindings_of (take start declarations))
seen_left starts start declarations = rw (reverse-append starts (start ∷ []), ← take-map (λ d. d.binding) start declarations) refl

pub starts_bound : (starts : List ℕ) (declarations : List Declaration) (it : Declaration) → AreStarts starts (length declarations) → AreStarts starts (length (declarations ++ it ∷ []))
starts_bound starts declarations it is =
    starts_more starts (length declarations) (length (declarations ++ it ∷ [])) (rw (length-append declarations (it ∷ [])) (omega arith)) is
