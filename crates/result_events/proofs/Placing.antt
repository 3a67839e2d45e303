-- Attributes that are put in place have expanded names that differ.
use Rattle.std.proofs.Common.{◌≡◌, ℕ, suc, ◌+◌, ◌<◌, ◌≤◌, ◌&&◌, ◌||◌, List, [], ◌∷◌, ◌++◌, Bool, true, false, not, if◌then◌else◌, length, slice_set}
use Rattle.std.proofs.Common.{nat_lt, position, Some, None, refl, sym, ap, ◌∙◌, subst, arith}
use Rattle.std.specs.List.{position_or_len}
use Rattle.std.specs.Str.{bytes_eq}
use Rattle.std.proofs.lemmas.Bool.{and_parts, or_parts, ltb-true, ltb-false, not-true, false_from_ne_true, and_from}
use Rattle.std.proofs.lemmas.Slice.Eq.{bytes_eq-Decides}
use Rattle.result_events.specs.declared.event.Name.{Name}
use Rattle.result_events.specs.declared.event.Attribute.{Attribute}
use Rattle.result_events.specs.declared.event.ResultEvent.{ResultEvent}
use Rattle.result_events.specs.declared.event.ResultEvent.TheVariants.{Start, Attr, Text, Instruction, Comment, End}
use Rattle.result_events.specs.Tidy.{same_expanded, placed, has_name, are_distinct, attributes_from}

abbrev is_named_as : Attribute → Attribute → Bool
is_named_as new other = same_expanded other.name new.name

at_by : (new old : Attribute) (later : List Attribute) (is : Bool) → same_expanded old.name new.name ≡ is
    → (position_or_len (is_named_as new) later < length later → slice_set later (position_or_len (is_named_as new) later) new ≡ placed new later)
    → position_or_len (is_named_as new) (old ∷ later) < length (old ∷ later)
    → slice_set (old ∷ later) (position_or_len (is_named_as new) (old ∷ later)) new ≡ placed new (old ∷ later)
at_by new old later true is next below = rw is refl
at_by new old later false is next below =
    let below : 1 + position_or_len (is_named_as new) later < length (old ∷ later) = rw is at below in
    let one : 1 + position_or_len (is_named_as new) later ≡ suc (position_or_len (is_named_as new) later) = omega arith in
    rw (is, one) (ap (λ (all : List Attribute). old ∷ all) (next (omega arith)))

placed_at : (new : Attribute) (attributes : List Attribute) → position_or_len (is_named_as new) attributes < length attributes
    → slice_set attributes (position_or_len (is_named_as new) attributes) new ≡ placed new attributes
placed_at new [] below = absurd (omega arith)
placed_at new (old ∷ later) below = at_by new old later (same_expanded old.name new.name) refl (placed_at new later) below

end_by : (new old : Attribute) (later : List Attribute) (is : Bool) → same_expanded old.name new.name ≡ is
    → (length later ≤ position_or_len (is_named_as new) later → later ++ new ∷ [] ≡ placed new later)
    → length (old ∷ later) ≤ position_or_len (is_named_as new) (old ∷ later) → old ∷ (later ++ new ∷ []) ≡ placed new (old ∷ later)
end_by new old later true is next above = let above : length (old ∷ later) ≤ 0 = rw is at above in absurd (omega arith)
end_by new old later false is next above =
    let above : length (old ∷ later) ≤ 1 + position_or_len (is_named_as new) later = rw is at above in
    rw is (ap (λ (all : List Attribute). old ∷ all) (next (omega arith)))

placed_last : (new : Attribute) (attributes : List Attribute) → length attributes ≤ position_or_len (is_named_as new) attributes → attributes ++ new ∷ [] ≡ placed new attributes
placed_last new [] above = refl
placed_last new (old ∷ later) above = end_by new old later (same_expanded old.name new.name) refl (placed_last new later) above

some_by : (new : Attribute) (attributes : List Attribute) (at : ℕ) (is : Bool) → nat_lt (position_or_len (is_named_as new) attributes) (length attributes) ≡ is
    → (if is then Some (position_or_len (is_named_as new) attributes) else None) ≡ Some at → slice_set attributes at new ≡ placed new attributes
some_by new attributes at true is found =
    let same : position_or_len (is_named_as new) attributes ≡ at = cc in
    subst (λ (place : ℕ). slice_set attributes place new ≡ placed new attributes) same (placed_at new attributes (ltb-true _ _ is))
some_by new attributes at false is found = absurd (cc)

-- where the attribute is put
pub placed-Some : (new : Attribute) (attributes : List Attribute) (at : ℕ) → position (λ other. same_expanded other.name new.name) attributes ≡ Some at
    → slice_set attributes at new ≡ placed new attributes
placed-Some new attributes at found = some_by new attributes at (nat_lt (position_or_len (is_named_as new) attributes) (length attributes)) refl found

none_by : (new : Attribute) (attributes : List Attribute) (is : Bool) → nat_lt (position_or_len (is_named_as new) attributes) (length attributes) ≡ is
    → (if is then Some (position_or_len (is_named_as new) attributes) else None) ≡ None → attributes ++ new ∷ [] ≡ placed new attributes
none_by new attributes true is found = absurd (cc)
none_by new attributes false is found = placed_last new attributes (ltb-false _ _ is)

pub placed-None : (new : Attribute) (attributes : List Attribute) → position (λ other. same_expanded other.name new.name) attributes ≡ None → attributes ++ new ∷ [] ≡ placed new attributes
placed-None new attributes found = none_by new attributes (nat_lt (position_or_len (is_named_as new) attributes) (length attributes)) refl found

-- names that are the same have the same parts
record Same (a b : Name) : Type 0 where
  local : a.local ≡ b.local
  uri : a.uri ≡ b.uri

same_parts : (a b : Name) → same_expanded a b ≡ true → Same a b
same_parts a b is =
    let parts = and_parts (bytes_eq a.local b.local) (bytes_eq a.uri b.uri) is in
    record { local = (bytes_eq-Decides a.local b.local).0 parts.0; uri = (bytes_eq-Decides a.uri b.uri).0 parts.1 }

same_from : (a b : Name) → Same a b → same_expanded a b ≡ true
same_from a b same = and_from _ _ ((bytes_eq-Decides a.local b.local).1 same.local) ((bytes_eq-Decides a.uri b.uri).1 same.uri)

pub same_back : (a b : Name) → same_expanded a b ≡ false → same_expanded b a ≡ false
same_back a b isnt = false_from_ne_true (same_expanded b a) (λ is.
    let same = same_parts b a is in
    let there : same_expanded a b ≡ true = same_from a b (record { local = sym same.local; uri = sym same.uri }) in cc)

-- an equal name stands for the other
pub same_for : (a b other : Name) → same_expanded a b ≡ true → same_expanded a other ≡ same_expanded b other
same_for a b other is =
    let same = same_parts a b is in
    ap (λ (local : List ℕ). bytes_eq local other.local && bytes_eq a.uri other.uri) same.local ∙ ap (λ (uri : List ℕ). bytes_eq b.local other.local && bytes_eq uri other.uri) same.uri

pub same_for_right : (a b other : Name) → same_expanded a b ≡ true → same_expanded other a ≡ same_expanded other b
same_for_right a b other is =
    let same = same_parts a b is in
    ap (λ (local : List ℕ). bytes_eq other.local local && bytes_eq other.uri a.uri) same.local ∙ ap (λ (uri : List ℕ). bytes_eq other.local b.local && bytes_eq other.uri uri) same.uri

swap_or : (a b c : Bool) → a || (b || c) ≡ b || (a || c)
swap_or true true c = refl
swap_or true false c = refl
swap_or false true c = refl
swap_or false false c = refl

twice_or : (a c : Bool) → a || c ≡ a || (a || c)
twice_or true c = refl
twice_or false c = refl

has_by : (name : Name) (new old : Attribute) (later : List Attribute) (is : Bool) → same_expanded old.name new.name ≡ is
    → has_name name (placed new later) ≡ same_expanded new.name name || has_name name later
    → has_name name (placed new (old ∷ later)) ≡ same_expanded new.name name || has_name name (old ∷ later)
has_by name new old later true is next =
    let same = same_for old.name new.name name is in
    rw (is, same) (twice_or (same_expanded new.name name) (has_name name later))
has_by name new old later false is next = rw (is, next) (swap_or (same_expanded old.name name) (same_expanded new.name name) (has_name name later))

has_name-placed : (name : Name) (new : Attribute) (attributes : List Attribute) → has_name name (placed new attributes) ≡ same_expanded new.name name || has_name name attributes
has_name-placed name new [] = refl
has_name-placed name new (old ∷ later) = has_by name new old later (same_expanded old.name new.name) refl (has_name-placed name new later)

has_for : (a b : Name) (attributes : List Attribute) → same_expanded a b ≡ true → has_name a attributes ≡ has_name b attributes
has_for a b [] is = refl
has_for a b (other ∷ later) is = let first = same_for_right a b other.name is in let rest = has_for a b later is in rw (first, rest) refl

distinct_by : (new old : Attribute) (later : List Attribute) (is : Bool) → same_expanded old.name new.name ≡ is → are_distinct (placed new later) ≡ true
    → are_distinct (old ∷ later) ≡ true → are_distinct (placed new (old ∷ later)) ≡ true
distinct_by new old later true is next distinct = let same = has_for old.name new.name later is in rw is (rw same at distinct)
distinct_by new old later false is next distinct =
    let back = same_back old.name new.name is in
    let parts = and_parts (not (has_name old.name later)) (are_distinct later) distinct in
    let has : has_name old.name (placed new later) ≡ has_name old.name later = rw (has_name-placed old.name new later, back) refl in
    rw (is, has, next) (and_from _ _ parts.0 refl)

pub are_distinct-placed : (new : Attribute) (attributes : List Attribute) → are_distinct attributes ≡ true → are_distinct (placed new attributes) ≡ true
are_distinct-placed new [] distinct = refl
are_distinct-placed new (old ∷ later) distinct =
    let parts = and_parts (not (has_name old.name later)) (are_distinct later) distinct in
    distinct_by new old later (same_expanded old.name new.name) refl (are_distinct-placed new later parts.1) distinct

-- an element's attributes have expanded names that differ
pub attributes_distinct : (before : List Attribute) (events : List ResultEvent) → are_distinct before ≡ true → are_distinct (attributes_from before events) ≡ true
attributes_distinct before [] distinct = distinct
attributes_distinct before (Attr name value ∷ events) distinct =
    attributes_distinct (placed (record { name = name; value = value }) before) events (are_distinct-placed (record { name = name; value = value }) before distinct)
attributes_distinct before (Start name ∷ events) distinct = distinct
attributes_distinct before (Text text ∷ events) distinct = distinct
attributes_distinct before (Instruction target value ∷ events) distinct = distinct
attributes_distinct before (Comment text ∷ events) distinct = distinct
attributes_distinct before (End ∷ events) distinct = distinct

misses : (name : Name) (before : List Attribute) (new : Attribute) (attributes : List Attribute) → has_name name (before ++ new ∷ attributes) ≡ false → same_expanded new.name name ≡ false
misses name [] new attributes none = (or_parts (same_expanded new.name name) (has_name name attributes) none).0
misses name (other ∷ before) new attributes none = misses name before new attributes (or_parts (same_expanded other.name name) (has_name name (before ++ new ∷ attributes)) none).1

placed_by : (new old : Attribute) (later : List Attribute) → same_expanded old.name new.name ≡ false → placed new later ≡ later ++ new ∷ [] → placed new (old ∷ later) ≡ old ∷ (later ++ new ∷ [])
placed_by new old later is next = rw (is, next) refl

-- an attribute whose name is new stands last
pub placed_new : (new : Attribute) (before attributes : List Attribute) → are_distinct (before ++ new ∷ attributes) ≡ true → placed new before ≡ before ++ new ∷ []
placed_new new [] attributes distinct = refl
placed_new new (old ∷ before) attributes distinct =
    let parts = and_parts (not (has_name old.name (before ++ new ∷ attributes))) (are_distinct (before ++ new ∷ attributes)) distinct in
    placed_by new old before (same_back new.name old.name (misses old.name before new attributes (not-true _ parts.0))) (placed_new new before attributes parts.1)
