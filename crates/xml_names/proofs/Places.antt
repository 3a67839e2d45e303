-- The place of a prefix's latest binding, and the URI there.
use Rattle.std.proofs.Common.{◌≡◌, ℕ, ◌<◌, List, [], ◌∷◌, ◌++◌, Some, None, sym, ◌∙◌, ap, subst, reverse, length, refl, get_or, arith}
use Rattle.std.proofs.lemmas.Grind.{common_steps}
use Rattle.std.proofs.lemmas.List.{map-append, reverse-append, reverse-reverse, length-reverse, get_or_append_left}
use Rattle.std.proofs.Math.Seq.{get_or-append_seam}
use Rattle.xml_names.specs.Bindings.{uri_in, all_bindings}
use Rattle.xml_names.specs.Kept.{place_of, bindings_of, scopes_of}
use Rattle.xml_names.proofs.Views.{all_of_scopes}
use Rattle.xml_names.specs.declared.scopes.Binding.{Binding}
use Rattle.xml_names.specs.declared.index.Declaration.{Declaration}

pub unplaced : (prefix : List ℕ) (back : List Declaration) → place_of prefix back ≡ None → uri_in prefix (bindings_of back) ≡ None
unplaced prefix [] is = refl
unplaced prefix (it ∷ back) is = grind (arith, common_steps, unplaced prefix back)

pub place_within : (prefix : List ℕ) (back : List Declaration) (k : ℕ) → place_of prefix back ≡ Some k → k < length back
place_within prefix [] k is = absurd (cc)
place_within prefix (it ∷ back) k is = grind (arith, common_steps, place_within prefix back k)

reverse_more : (it : Declaration) (back : List Declaration) → reverse (it ∷ back) ≡ reverse back ++ it ∷ []
reverse_more it back = reverse-append (it ∷ []) back

latest_placed : (it : Declaration) (back : List Declaration) (d : Declaration) → get_or (reverse (it ∷ back)) (length back) d ≡ it
latest_placed it back d = rw (reverse_more it back, ← length-reverse back) (get_or-append_seam (reverse back) it [] d)

earlier_placed : (it : Declaration) (back : List Declaration) (k : ℕ) (d : Declaration) → k < length back → get_or (reverse (it ∷ back)) k d ≡ get_or (reverse back) k d
earlier_placed it back k d h = rw (reverse_more it back) (get_or_append_left (reverse back) (it ∷ []) d k (rw (length-reverse back) h))

pub uri_placed : (prefix : List ℕ) (back : List Declaration) (k : ℕ) (d : Declaration) → place_of prefix back ≡ Some k
    → uri_in prefix (bindings_of back) ≡ Some (get_or (reverse back) k d).binding.uri
uri_placed prefix [] k d is = absurd (cc)
uri_placed prefix (it ∷ back) k d is = grind (arith, common_steps, uri_placed prefix back k d, place_within prefix back k, latest_placed it back d, earlier_placed it back k d)

bindings_reversed : (declarations : List Declaration) → reverse (bindings_of declarations) ≡ bindings_of (reverse declarations)
bindings_reversed [] = refl
bindings_reversed (it ∷ declarations) =
    reverse-append (it.binding ∷ []) (bindings_of declarations) ∙ ap (λ b. b ++ it.binding ∷ []) (bindings_reversed declarations)
    ∙ sym (ap bindings_of (reverse_more it declarations) ∙ map-append (λ d. d.binding) (reverse declarations) (it ∷ []))

pub seen : (prefix : List ℕ) (starts : List ℕ) (declarations : List Declaration)
    → uri_in prefix (all_bindings (scopes_of starts (bindings_of declarations))) ≡ uri_in prefix (bindings_of (reverse declarations))
seen prefix starts declarations = ap (uri_in prefix) (all_of_scopes starts (bindings_of declarations) ∙ bindings_reversed declarations)

-- a prefix that isn't found is bound in no scope
pub seen_unbound : (prefix : List ℕ) (starts : List ℕ) (declarations : List Declaration) → place_of prefix (reverse declarations) ≡ None
    → uri_in prefix (all_bindings (scopes_of starts (bindings_of declarations))) ≡ None
seen_unbound prefix starts declarations is = seen prefix starts declarations ∙ unplaced prefix (reverse declarations) is

-- one that is found has its URI there
pub seen_uri : (prefix : List ℕ) (starts : List ℕ) (declarations : List Declaration) (k : ℕ) (d : Declaration) → place_of prefix (reverse declarations) ≡ Some k
    → uri_in prefix (all_bindings (scopes_of starts (bindings_of declarations))) ≡ Some (get_or declarations k d).binding.uri
seen_uri prefix starts declarations k d is =
    seen prefix starts declarations
    ∙ subst (λ all. uri_in prefix (bindings_of (reverse declarations)) ≡ Some (get_or all k d).binding.uri) (reverse-reverse declarations) (uri_placed prefix (reverse declarations) k d is)

-- a binding in the front counts
pub uri_in_front : (prefix : List ℕ) (front back : List Binding) (uri : List ℕ) → uri_in prefix front ≡ Some uri → uri_in prefix (front ++ back) ≡ Some uri
uri_in_front prefix [] back uri is = absurd (cc)
uri_in_front prefix (it ∷ front) back uri is = grind (arith, common_steps, uri_in_front prefix front back uri)

-- without one, the rest counts
pub uri_in_back : (prefix : List ℕ) (front back : List Binding) → uri_in prefix front ≡ None → uri_in prefix (front ++ back) ≡ uri_in prefix back
uri_in_back prefix [] back is = refl
uri_in_back prefix (it ∷ front) back is = grind (arith, common_steps, uri_in_back prefix front back)
