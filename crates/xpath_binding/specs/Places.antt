-- The last of the items that hold.
use Rattle.std.specs.Prelude.{ℕ, ◌+◌, List, [], ◌∷◌, Bool, if◌then◌else◌, Option, Some, None}

abbrev pub or_here : Option ℕ → Bool → ℕ → Option ℕ
or_here (Some later) here at = Some later
or_here None here at = if here then Some at else None

-- the last place of those that hold, where the first item stands at a place
abbrev pub last_from : {A : Type 0} → (A → Bool) → ℕ → List A → Option ℕ
last_from holds at [] = None
last_from holds at (x ∷ xs) = or_here (last_from holds (at + 1) xs) (holds x) at

-- the last place of those that hold
abbrev pub last_place : {A : Type 0} → (A → Bool) → List A → Option ℕ
last_place holds xs = last_from holds 0 xs
