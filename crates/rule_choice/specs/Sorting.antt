-- The ascending list of some items.
use Rattle.std.specs.Prelude.{List, [], ◌∷◌, if◌then◌else◌}
use Rattle.std.specs.Ordering.{is_lt}
use Rattle.std.specs.declared.cmp.Ordering.{Ordering}

-- an item among others that ascend, before those that are not less
abbrev pub placed : {A : Type 0} → (A → A → Ordering) → A → List A → List A
placed cmp x [] = x ∷ []
placed cmp x (y ∷ ys) = if is_lt (cmp y x) then y ∷ placed cmp x ys else x ∷ y ∷ ys

-- the items, the least first; equal ones keep their order
abbrev pub sorted_by : {A : Type 0} → (A → A → Ordering) → List A → List A
sorted_by cmp [] = []
sorted_by cmp (x ∷ xs) = placed cmp x (sorted_by cmp xs)
