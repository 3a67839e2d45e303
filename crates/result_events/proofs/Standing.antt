-- Where the attributes of an element stand, after one more was placed.
use Rattle.std.proofs.Common.{◌≡◌, ℕ, suc, ◌+◌, ◌<◌, List, [], ◌∷◌, ◌++◌, Bool, true, false, cond, Option, Some, None, length, nat_lt, position, refl, sym, ap, ◌∙◌, arith}
use Rattle.std.specs.List.{position_or_len}
use Rattle.std.proofs.lemmas.Bool.Decides.{nat_tests}
use Rattle.result_events.specs.declared.event.Name.{Name}
use Rattle.result_events.specs.declared.event.Attribute.{Attribute}
use Rattle.result_events.specs.Tidy.{same_expanded, placed}
use Rattle.result_events.specs.Places.{place_from}
use Rattle.result_events.proofs.Placing.{same_for, same_for_right}

abbrev is_named : Name → Attribute → Bool
is_named name other = same_expanded other.name name

none_before : (n : ℕ) (b : ℕ) → Some n ≡ cond (nat_lt 0 (suc b)) (Some (n + 0)) None
none_before n b = grind (arith, nat_tests)

step_cond : (n a b : ℕ) → cond (nat_lt a b) (Some (n + 1 + a)) None ≡ cond (nat_lt (1 + a) (suc b)) (Some (n + (1 + a))) None
step_cond n a b = grind (arith, nat_tests)

shifted_by : (name : Name) (n : ℕ) (x : Attribute) (later : List Attribute) (is : Bool) → same_expanded x.name name ≡ is
    → place_from name (n + 1) later ≡ cond (nat_lt (position_or_len (is_named name) later) (length later)) (Some (n + 1 + position_or_len (is_named name) later)) None
    → place_from name n (x ∷ later) ≡ cond (nat_lt (position_or_len (is_named name) (x ∷ later)) (length (x ∷ later))) (Some (n + position_or_len (is_named name) (x ∷ later))) None
shifted_by name n x later true is next = rw is (none_before n (length later))
shifted_by name n x later false is next = rw (is, next) (step_cond n (position_or_len (is_named name) later) (length later))

shifted : (name : Name) (n : ℕ) (xs : List Attribute) → place_from name n xs ≡ cond (nat_lt (position_or_len (is_named name) xs) (length xs)) (Some (n + position_or_len (is_named name) xs)) None
shifted name n [] = refl
shifted name n (x ∷ later) = shifted_by name n x later (same_expanded x.name name) refl (shifted name (n + 1) later)

-- searching from the front finds it
pub place_from-position : (name : Name) (xs : List Attribute) → position (λ other. same_expanded other.name name) xs ≡ place_from name 0 xs
place_from-position name xs = sym (shifted name 0 xs ∙ ap (λ (at : ℕ). cond (nat_lt (position_or_len (is_named name) xs) (length xs)) (Some at) None) (omega arith))

within_by : (name : Name) (n : ℕ) (x : Attribute) (later : List Attribute) (at : ℕ) (is : Bool) → same_expanded x.name name ≡ is
    → (place_from name (n + 1) later ≡ Some at → at < n + 1 + length later) → place_from name n (x ∷ later) ≡ Some at → at < n + length (x ∷ later)
within_by name n x later at true is next finds =
    let finds : Some n ≡ Some at = rw is at finds in
    let same : n ≡ at = cc in omega arith
within_by name n x later at false is next finds =
    let finds : place_from name (n + 1) later ≡ Some at = rw is at finds in
    omega (arith, next finds)

-- it stands among them
pub within : (name : Name) (n : ℕ) (xs : List Attribute) (at : ℕ) → place_from name n xs ≡ Some at → at < n + length xs
within name n [] at finds = absurd (cc)
within name n (x ∷ later) at finds = within_by name n x later at (same_expanded x.name name) refl (within name (n + 1) later at) finds

placed_by : (name : Name) (n m k : ℕ) (new x : Attribute) (later : List Attribute) (is : Bool) → same_expanded x.name new.name ≡ is
    → (place_from new.name (m + 1) later ≡ Some k → place_from name (n + 1) (placed new later) ≡ place_from name (n + 1) later)
    → place_from new.name m (x ∷ later) ≡ Some k → place_from name n (placed new (x ∷ later)) ≡ place_from name n (x ∷ later)
placed_by name n m k new x later true is next finds =
    let same = same_for x.name new.name name is in rw (is, same) refl
placed_by name n m k new x later false is next finds =
    let finds : place_from new.name (m + 1) later ≡ Some k = rw is at finds in
    let rest = next finds in rw (is, rest) refl

-- one that is placed over another stands where that stood, and the others where they were
pub place_from-placed : (name : Name) (n m k : ℕ) (new : Attribute) (xs : List Attribute) → place_from new.name m xs ≡ Some k → place_from name n (placed new xs) ≡ place_from name n xs
place_from-placed name n m k new [] finds = absurd (cc)
place_from-placed name n m k new (x ∷ later) finds = placed_by name n m k new x later (same_expanded x.name new.name) refl (place_from-placed name (n + 1) (m + 1) k new later) finds

last_choice : (t s : Bool) (n b : ℕ) (rest : Option ℕ) → (s ≡ true → t ≡ false) → cond t (Some n) (cond s (Some (n + 1 + b)) rest) ≡ cond s (Some (n + suc b)) (cond t (Some n) rest)
last_choice true true n b rest apart = absurd (cc (apart refl))
last_choice true false n b rest apart = refl
last_choice false true n b rest apart = ap (λ (at : ℕ). Some at) (omega arith)
last_choice false false n b rest apart = refl

append_by : (name : Name) (n m : ℕ) (new x : Attribute) (later : List Attribute) (is : Bool) → same_expanded x.name new.name ≡ is
    → (place_from new.name (m + 1) later ≡ None → place_from name (n + 1) (later ++ new ∷ []) ≡ cond (same_expanded new.name name) (Some (n + 1 + length later)) (place_from name (n + 1) later))
    → place_from new.name m (x ∷ later) ≡ None → place_from name n (x ∷ (later ++ new ∷ [])) ≡ cond (same_expanded new.name name) (Some (n + length (x ∷ later))) (place_from name n (x ∷ later))
append_by name n m new x later true is next none = let none : Some m ≡ None = rw is at none in absurd (cc)
append_by name n m new x later false is next none =
    let none : place_from new.name (m + 1) later ≡ None = rw is at none in
    let rest = next none in
    let apart : same_expanded new.name name ≡ true → same_expanded x.name name ≡ false = λ same. sym (same_for_right new.name name x.name same) ∙ is in
    rw rest (last_choice (same_expanded x.name name) (same_expanded new.name name) n (length later) (place_from name (n + 1) later) apart)

-- one whose name is new stands last
pub place_from-append : (name : Name) (n m : ℕ) (new : Attribute) (xs : List Attribute) → place_from new.name m xs ≡ None
    → place_from name n (xs ++ new ∷ []) ≡ cond (same_expanded new.name name) (Some (n + length xs)) (place_from name n xs)
place_from-append name n m new [] none = ap (λ (at : ℕ). cond (same_expanded new.name name) (Some at) None) (omega arith)
place_from-append name n m new (x ∷ later) none = append_by name n m new x later (same_expanded x.name new.name) refl (place_from-append name (n + 1) (m + 1) new later) none
