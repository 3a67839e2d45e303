-- What a call of a shelf, a drawer, a sink or a listener leaves of what it tells.
use Rattle.std.specs.Prelude.{◌≡◌, ℕ, List, [], ◌∷◌, ◌++◌, ⊤, Option, Some, None, Result, MatchResult, if◌then◌else◌}
use Rattle.std.specs.Str.{bytes_eq}

-- a told list stays as it was
abbrev pub Stays : {T : Type 0} → Option (List T) → Option (List T) → Type 0
Stays None new = ⊤
Stays (Some xs) None = ⊥
Stays (Some xs) (Some ys) = ys ≡ xs

-- a told list grows at its end by these
abbrev pub Grows : {T : Type 0} → Option (List T) → Option (List T) → List T → Type 0
Grows None new more = ⊤
Grows (Some xs) None more = ⊥
Grows (Some xs) (Some ys) more = ys ≡ xs ++ more

-- a told list grows by one entry at Ok, and stays at Err
abbrev pub AddsAtOk : {T U E : Type 0} → Option (List T) → Option (List T) → Result U E → T → Type 0
AddsAtOk old new result entry = MatchResult result (λ _. Grows old new (entry ∷ [])) (λ _. Stays old new)

-- a told list of bytes grows by all of `bytes` at Ok, and by a front of them at Err
abbrev pub WritesAll : {U E : Type 0} → Option (List ℕ) → Option (List ℕ) → Result U E → List ℕ → Type 0
WritesAll old new result bytes = MatchResult result (λ _. Grows old new bytes)
    (λ _. (front : List ℕ) × (rest : List ℕ) × (bytes ≡ front ++ rest) × Grows old new front)

-- the bytes of the first pair of this name
abbrev pub first_named : List ℕ → List (List ℕ × List ℕ) → Option (List ℕ)
first_named name [] = None
first_named name (pair ∷ pairs) = if bytes_eq name pair.0 then Some pair.1 else first_named name pairs
