-- Expanded names that come again.
use Rattle.std.proofs.Common.{◌≡◌, ◌<◌, ◌+◌, ◌==◌, ◌&&◌, ◌||◌, not, Bool, true, false, ℕ, List, [], ◌∷◌, ◌++◌, Some, refl, sym, ap, ap₂, ◌∙◌, subst}
use Rattle.std.proofs.Common.{arith, ⊎_elim, take, drop, length, get_or, append_assoc}
use Rattle.std.specs.Prelude.{slice_get}
use Rattle.std.specs.List.{list_any}
use Rattle.std.specs.Str.{bytes_eq}
use Rattle.std.specs.BTreeSet.{insert_key}
use Rattle.std.specs.Cmp.Lexicographic.{slice_cmp, bytes_decides}
use Rattle.std.specs.Ordering.{nat_cmp, is_eq, ordering_then, match_ordering}
use Rattle.std.specs.declared.cmp.Ordering.{Ordering}
use Rattle.std.specs.declared.cmp.Ordering.TheVariants.{Less, Equal, Greater}
use Rattle.std.proofs.Math.Bool.{true≢false}
use Rattle.std.proofs.lemmas.Bool.{cases_Bool, and_parts, eqb-true}
use Rattle.std.proofs.lemmas.Grind.{common_steps}
use Rattle.std.proofs.lemmas.List.{take_more, take-append-drop}
use Rattle.std.proofs.lemmas.List.Folds.{list_any-append}
use Rattle.std.proofs.lemmas.Map.Text.{is_eq-slice_cmp}
use Rattle.doc_model.specs.declared.row.Row.{Row}
use Rattle.shared_texts.specs.Numbers.{NoRepeats}
use Rattle.pyx_events.specs.Counted.{same_expanded}
use Rattle.pyx_events.specs.Expanded.{has_name}
use Rattle.pyx_events.specs.Flaw.{repeats}
use Rattle.pyx_events.specs.declared.expanded_names.ExpandedName.{ExpandedName}
use Rattle.pyx_events.specs.declared.expanded_names.ExpandedNames.{ExpandedNames}
use Rattle.pyx_events.proofs.Numbered.{told_by_numbers}

-- two keys are equal in their order exactly where their numbers and local names are
pub tells : (m n : ℕ) (a b : List ℕ) → is_eq (ordering_then (nat_cmp m n) (slice_cmp nat_cmp a b)) ≡ (m == n && bytes_eq a b)
tells m n a b = grind (arith, common_steps, is_eq-slice_cmp a b)

once : (a b c : Bool) → a ≡ b → (a || c) ≡ (b || (a || c))
once true true c e = refl
once true false c e = refl
once false true c e = absurd (true≢false (sym e))
once false false c e = refl

swapped : (a b c : Bool) → (a || (b || c)) ≡ (b || (a || c))
swapped true true c = refl
swapped true false c = refl
swapped false true c = refl
swapped false false c = refl

-- what is among the keys once one more was inserted
module _ {K : Type 0} (cmp : K → K → Ordering) (test : K → Bool) (k : K) (alike : (x : K) → is_eq (cmp k x) ≡ true → test x ≡ test k) where
  at_first : (x : K) (xs : List K) (rest : list_any test (insert_key cmp xs k) ≡ (test k || list_any test xs)) (o : Ordering) → cmp k x ≡ o
      → list_any test (match_ordering o (k ∷ x ∷ xs) (x ∷ xs) (x ∷ insert_key cmp xs k)) ≡ (test k || (test x || list_any test xs))
  at_first x xs rest Less e = refl
  at_first x xs rest Equal e = once (test x) (test k) (list_any test xs) (alike x (ap is_eq e))
  at_first x xs rest Greater e = ap (λ b. test x || b) rest ∙ swapped (test x) (test k) (list_any test xs)

  pub any_inserted : (keys : List K) → list_any test (insert_key cmp keys k) ≡ (test k || list_any test keys)
  any_inserted [] = refl
  any_inserted (x ∷ xs) = at_first x xs (any_inserted xs) (cmp k x) refl

-- names are ordered by the numbers of their URIs, and then by their bytes
abbrev pub key_cmp : ExpandedName → ExpandedName → Ordering
key_cmp a b = ordering_then (nat_cmp a.uri b.uri) (slice_cmp nat_cmp a.local.items b.local.items)

abbrev pub is_name : ℕ → List ℕ → ExpandedName → Bool
is_name uri local name = uri == name.uri && bytes_eq local name.local.items

pub contained : (keys : List ExpandedName) (key : ExpandedName) → list_any (λ x. is_eq (key_cmp key x)) keys ≡ list_any (is_name key.uri key.local.items) keys
contained [] key = refl
contained (x ∷ xs) key = ap₂ (λ (a b : Bool). a || b) (tells key.uri x.uri key.local.items x.local.items) (contained xs key)

alike_keys : (key x : ExpandedName) (uri : ℕ) (local : List ℕ) → is_eq (key_cmp key x) ≡ true → is_name uri local x ≡ is_name uri local key
alike_keys key x uri local e =
    let p = and_parts _ _ (sym (tells key.uri x.uri key.local.items x.local.items) ∙ e) in
    ap₂ (λ (u : ℕ) (l : List ℕ). uri == u && bytes_eq local l) (sym (eqb-true _ _ p.0)) (sym ((bytes_decides key.local.items x.local.items).0 p.1))

pub put : (keys : List ExpandedName) (key : ExpandedName) (uri : ℕ) (local : List ℕ)
    → list_any (is_name uri local) (insert_key key_cmp keys key) ≡ (is_name uri local key || list_any (is_name uri local) keys)
put keys key uri local = any_inserted key_cmp (is_name uri local) key (λ x e. alike_keys key x uri local e) keys

flipped : (a b : List ℕ) → bytes_eq a b ≡ bytes_eq b a
flipped a b = grind (arith, common_steps, bytes_decides a b, bytes_decides b a)

alike_rows : (a b : Row) → same_expanded a b ≡ same_expanded b a
alike_rows a b = rw (flipped a.local b.local, flipped a.uri b.uri) refl

or_true : (a : Bool) → (a || true) ≡ true
or_true true = refl
or_true false = refl

or_left : (a b : Bool) → a ≡ true → (a || b) ≡ true
or_left a b e = rw e refl

-- a row whose name stands before it is a repeat
pub comes_again : (front : List Row) (x : Row) (back : List Row) → list_any (same_expanded x) front ≡ true → repeats (front ++ x ∷ back) ≡ true
comes_again [] x back e = absurd (true≢false (sym e))
comes_again (y ∷ front) x back e =
    ⊎_elim
    (λ same.
    let here : list_any (same_expanded y) (front ++ x ∷ back) ≡ true =
    list_any-append (same_expanded y) front (x ∷ back)
    ∙ ap (λ b. list_any (same_expanded y) front || (b || list_any (same_expanded y) back)) (alike_rows y x ∙ same)
    ∙ or_true (list_any (same_expanded y) front) in
    or_left _ _ here)
    (λ other.
    let later : list_any (same_expanded x) front ≡ true = sym (ap (λ b. b || list_any (same_expanded x) front) other) ∙ e in
    ap (λ b. list_any (same_expanded y) (front ++ x ∷ back) || b) (comes_again front x back later) ∙ or_true _)
    (cases_Bool (same_expanded x y))

mixed : (a s b r : Bool) → ((a || (s || false)) || (b || r)) ≡ ((s || b) || (a || r))
mixed true true b r = refl
mixed true false true r = refl
mixed true false false r = refl
mixed false true b r = refl
mixed false false b r = refl

-- with one more row there is a repeat where its name stands before it, or where there was one
pub one_more : (front : List Row) (x : Row) → repeats (front ++ x ∷ []) ≡ (list_any (same_expanded x) front || repeats front)
one_more [] x = refl
one_more (y ∷ front) x =
    ap (λ b. b || repeats (front ++ x ∷ [])) (list_any-append (same_expanded y) front (x ∷ []))
    ∙ ap (λ b. (list_any (same_expanded y) front || (b || false)) || repeats (front ++ x ∷ [])) (alike_rows y x)
    ∙ ap (λ b. (list_any (same_expanded y) front || (same_expanded x y || false)) || b) (one_more front x)
    ∙ mixed (list_any (same_expanded y) front) (same_expanded x y) (list_any (same_expanded x) front) (repeats front)

together : (u l f : Bool) → ((u && l) || f) ≡ (f || ((l && u) || false))
together true true true = refl
together true true false = refl
together true false true = refl
together true false false = refl
together false true true = refl
together false true false = refl
together false false true = refl
together false false false = refl

-- the set has the names of these rows, by the numbers of their URIs, and no other
abbrev pub HasNames : List (List ℕ) → ExpandedNames → List Row → Type 0
HasNames uris names rows = (row : Row) (n : ℕ) → slice_get uris n ≡ Some row.uri → has_name names n row.local ≡ list_any (same_expanded row) rows

pub has_more : (uris : List (List ℕ)) (front : List Row) (x : Row) (m : ℕ) (old new : ExpandedNames) → NoRepeats uris → slice_get uris m ≡ Some x.uri → HasNames uris old front
    → ((other : ℕ) (name : List ℕ) → has_name new other name ≡ ((other == m && bytes_eq name x.local) || has_name old other name))
    → HasNames uris new (front ++ x ∷ [])
has_more uris front x m old new tell here known added row n p =
    added n row.local
    ∙ ap (λ b. (b && bytes_eq row.local x.local) || has_name old n row.local) (told_by_numbers uris n m row.uri x.uri tell p here)
    ∙ ap (λ b. (bytes_eq row.uri x.uri && bytes_eq row.local x.local) || b) (known row n p)
    ∙ together (bytes_eq row.uri x.uri) (bytes_eq row.local x.local) (list_any (same_expanded row) front)
    ∙ sym (list_any-append (same_expanded row) front (x ∷ []))

take_next : (rows : List Row) (i : ℕ) (x : Row) → i < length rows → x ≡ get_or rows i x → take (i + 1) rows ≡ take i rows ++ x ∷ []
take_next rows i x within is = take_more rows i x within ∙ ap (λ (y : Row). take i rows ++ y ∷ []) (sym is)

split_item : (rows : List Row) (i : ℕ) (x : Row) → i < length rows → x ≡ get_or rows i x → rows ≡ take i rows ++ x ∷ drop (i + 1) rows
split_item rows i x within is =
    sym (take-append-drop (i + 1) rows)
    ∙ ap (λ (front : List Row). front ++ drop (i + 1) rows) (take_next rows i x within is)
    ∙ append_assoc (take i rows) (x ∷ []) (drop (i + 1) rows)

-- the row at a place has the name of one before it
pub again_at : (rows : List Row) (i : ℕ) (x : Row) → i < length rows → x ≡ get_or rows i x → list_any (same_expanded x) (take i rows) ≡ true → true ≡ repeats rows
again_at rows i x within is e =
    sym (ap repeats (split_item rows i x within is) ∙ comes_again (take i rows) x (drop (i + 1) rows) e)

-- the row at a place has the name of none before it
pub apart_at : (rows : List Row) (i : ℕ) (x : Row) → i < length rows → x ≡ get_or rows i x → repeats (take i rows) ≡ false → list_any (same_expanded x) (take i rows) ≡ false
    → repeats (take (i + 1) rows) ≡ false
apart_at rows i x within is none new =
    ap repeats (take_next rows i x within is) ∙ one_more (take i rows) x ∙ ap₂ (λ (a b : Bool). a || b) new none

pub has_next : (uris : List (List ℕ)) (rows : List Row) (i : ℕ) (x : Row) (names : ExpandedNames) → i < length rows → x ≡ get_or rows i x
    → HasNames uris names (take i rows ++ x ∷ []) → HasNames uris names (take (i + 1) rows)
has_next uris rows i x names within is has = subst (λ (front : List Row). HasNames uris names front) (sym (take_next rows i x within is)) has

pub denied : (a b : Bool) → a ≡ not b → b ≡ not a
denied a true e = ap not (sym e)
denied a false e = ap not (sym e)
