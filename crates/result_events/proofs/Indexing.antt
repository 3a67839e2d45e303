-- Where attributes stand, and what the index finds after a change.
use Rattle.std.proofs.Common.{◌≡◌, ℕ, ◌&&◌, List, [], Bool, true, false, cond, Option, refl, sym, ap, ◌∙◌, ⊎_elim}
use Rattle.std.specs.Str.{bytes_eq}
use Rattle.std.specs.Ordering.{is_eq, nat_cmp, ordering_then}
use Rattle.std.specs.Cmp.Lexicographic.{slice_cmp}
use Rattle.std.specs.BTreeMap.{BTreeMap, UpdatesBy, get_by}
use Rattle.std.specs.Map.{lookup, KeepsOthers, IsKeyTest, AreApart}
use Rattle.std.specs.declared.cmp.Ordering.{Ordering}
use Rattle.std.specs.declared.cmp.Ordering.TheVariants.{Less, Equal, Greater}
use Rattle.std.proofs.lemmas.Bool.{cases_Bool, cond-true, cond-false, and_parts, and_from, false_from_ne_true}
use Rattle.std.proofs.lemmas.Map.Text.{is_eq-slice_cmp}
use Rattle.std.proofs.lemmas.Slice.Eq.{bytes_eq-Decides}
use Rattle.result_events.specs.declared.event.Name.{Name}
use Rattle.result_events.specs.declared.index.ExpandedName.{ExpandedName}
use Rattle.result_events.specs.Tidy.{same_expanded}
use Rattle.result_events.specs.Places.{name_cmp, found}

abbrev pub Index : Type 0
Index = BTreeMap ExpandedName ℕ

is_eq-then : (a b : Ordering) → is_eq (ordering_then a b) ≡ is_eq a && is_eq b
is_eq-then Less b = refl
is_eq-then Equal b = refl
is_eq-then Greater b = refl

-- a key that ties with a name has its parts
parts_of : (name : Name) (key : ExpandedName) → is_eq (name_cmp name key) ≡ true → (name.local ≡ key.local.items) × (name.uri ≡ key.uri.items)
parts_of name key is =
    let tests = and_parts (is_eq (slice_cmp nat_cmp name.local key.local.items)) (is_eq (slice_cmp nat_cmp name.uri key.uri.items))
    (sym (is_eq-then (slice_cmp nat_cmp name.local key.local.items) (slice_cmp nat_cmp name.uri key.uri.items)) ∙ is) in (
      (bytes_eq-Decides name.local key.local.items).0 (sym (is_eq-slice_cmp name.local key.local.items) ∙ tests.0),
      (bytes_eq-Decides name.uri key.uri.items).0 (sym (is_eq-slice_cmp name.uri key.uri.items) ∙ tests.1),
    )

abbrev pub key_cmp : ExpandedName → ExpandedName → Ordering
key_cmp a b = ordering_then (slice_cmp nat_cmp a.local.items b.local.items) (slice_cmp nat_cmp a.uri.items b.uri.items)

key_test : (name : Name) (x y : ExpandedName) → is_eq (name_cmp name x) ≡ true → is_eq (name_cmp name y) ≡ is_eq (key_cmp x y)
key_test name x y is =
    let parts = parts_of name x is in
    ap (λ (l : List ℕ). is_eq (ordering_then (slice_cmp nat_cmp l y.local.items) (slice_cmp nat_cmp name.uri y.uri.items))) parts.0
    ∙ ap (λ (u : List ℕ). is_eq (ordering_then (slice_cmp nat_cmp x.local.items y.local.items) (slice_cmp nat_cmp u y.uri.items))) parts.1

abbrev pub name_of : ExpandedName → Name
name_of key = record { prefix = []; uri = key.uri.items; local = key.local.items }

-- a key of one name is none of another
apart : (key : ExpandedName) (other : Name) → same_expanded (name_of key) other ≡ false → (q : ExpandedName) → is_eq (key_cmp key q) ≡ true → is_eq (name_cmp other q) ≡ false
apart key other isnt q is = false_from_ne_true (is_eq (name_cmp other q)) (λ also.
    let these = parts_of (name_of key) q is in
    let those = parts_of other q also in
    let same : same_expanded (name_of key) other ≡ true =
    and_from (bytes_eq key.local.items other.local) (bytes_eq key.uri.items other.uri)
    ((bytes_eq-Decides key.local.items other.local).1 (these.0 ∙ sym those.0)) ((bytes_eq-Decides key.uri.items other.uri).1 (these.1 ∙ sym those.1)) in
    cc)

others : (eq : ExpandedName → ExpandedName → Bool) (test : ExpandedName → Bool) (old new : List (ExpandedName × ℕ)) → KeepsOthers eq test old new
    → (other : ExpandedName → Bool) → IsKeyTest eq other → AreApart test other → lookup other new ≡ lookup other old
unfolding KeepsOthers
others eq test old new h = h

found_same : (key : ExpandedName) (other : Name) (new : Index) → same_expanded (name_of key) other ≡ true → found other new ≡ get_by (key_cmp key) new
found_same key other new is =
    let parts = and_parts (bytes_eq key.local.items other.local) (bytes_eq key.uri.items other.uri) is in
    let local = (bytes_eq-Decides key.local.items other.local).0 parts.0 in
    let uri = (bytes_eq-Decides key.uri.items other.uri).0 parts.1 in
    sym (ap (λ (l : List ℕ). get_by (λ (q : ExpandedName). ordering_then (slice_cmp nat_cmp l q.local.items) (slice_cmp nat_cmp key.uri.items q.uri.items)) new) local
    ∙ ap (λ (u : List ℕ). get_by (λ (q : ExpandedName). ordering_then (slice_cmp nat_cmp other.local q.local.items) (slice_cmp nat_cmp u q.uri.items)) new) uri)

-- a change at a key leaves what is found at other names
found_by : (key : ExpandedName) (old new : Index) (w : Option ℕ) → UpdatesBy key_cmp (key_cmp key) old new w
    → (other : Name) → found other new ≡ cond (same_expanded (name_of key) other) w (found other old)
found_by key old new w h other =
    ⊎_elim
    (λ y. found_same key other new y ∙ h.1 ∙ sym (cond-true (same_expanded (name_of key) other) w (found other old) y))
    (λ n. others _ _ _ _ h.3 (λ q. is_eq (name_cmp other q)) (key_test other) (apart key other n) ∙ sym (cond-false (same_expanded (name_of key) other) w (found other old) n))
    (cases_Bool (same_expanded (name_of key) other))

pub found_after : (name : Name) (key : ExpandedName) → key.local.items ≡ name.local → key.uri.items ≡ name.uri → (old new : Index) (w : Option ℕ) → UpdatesBy key_cmp (key_cmp key) old new w
    → (other : Name) → found other new ≡ cond (same_expanded name other) w (found other old)
found_after name key local uri old new w h other =
    found_by key old new w h other
    ∙ ap (λ (l : List ℕ). cond (bytes_eq l other.local && bytes_eq key.uri.items other.uri) w (found other old)) local
    ∙ ap (λ (u : List ℕ). cond (bytes_eq name.local other.local && bytes_eq u other.uri) w (found other old)) uri
