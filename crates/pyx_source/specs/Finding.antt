-- Where the next line ends in what is held.
use Rattle.std.specs.Prelude.{◌≡◌, ℕ, ◌+◌, ◌<◌, ◌≤◌, List, [], ◌∷◌, ◌++◌, ⊤, length, slice_index, take, drop, Option, Some, None, Result, Err}
use Rattle.std.specs.Io.KnownBytes.{IsAtEnd}
use Rattle.pyx_lines.specs.declared.line.Line.{Line as PyxLine}
use Rattle.pyx_lines.specs.Lines.{cut_lines, judged_from, Refusal}
use Rattle.pyx_source.specs.Feeds.{HoldsNoFeed}
use Rattle.pyx_source.specs.declared.seeking.Found.{Found}
use Rattle.pyx_source.specs.declared.seeking.Found.TheVariants.{Line, Last, End}

-- the bytes of the line are held, and its line feed, the first, if it has one
abbrev pub IsHeld : Found → List ℕ → Type 0
IsHeld (Line at) held = (at < length held) × (slice_index held at ≡ 10) × HoldsNoFeed (take at held)
IsHeld (Last at) held = at ≡ length held
IsHeld End held = held ≡ []

-- a line that is neither too long nor one too many
abbrev pub IsAllowed : Found → ℕ → Type 0
IsAllowed (Line at) line = (at ≤ 1048576) × (line < 4294967295)
IsAllowed (Last at) line = (at ≤ 1048576) × (line < 4294967295)
IsAllowed End line = ⊤

-- the first line is the first `at` bytes held, and the lines after it are those after one more byte
abbrev pub CutsAt : List ℕ → Option (List ℕ) → ℕ → List ℕ → Option (List ℕ) → Type 0
CutsAt held None at held' left' = ⊤
CutsAt held (Some left) at held' None = ⊥
CutsAt held (Some left) at held' (Some left') = cut_lines (held ++ left) ≡ take at held' ∷ cut_lines (drop (at + 1) held' ++ left')

-- nothing was held or left, and nothing is
abbrev pub IsOver : List ℕ → Option (List ℕ) → List ℕ → Option (List ℕ) → Type 0
IsOver held None held' left' = ⊤
IsOver held (Some left) held' None = ⊥
IsOver held (Some left) held' (Some left') = (held ++ left ≡ []) × (held' ++ left' ≡ [])

abbrev pub Cuts : List ℕ → Option (List ℕ) → Found → List ℕ → Option (List ℕ) → Type 0
Cuts held left (Line at) held' left' = CutsAt held left at held' left'
Cuts held left (Last at) held' left' = CutsAt held left at held' left'
Cuts held left End held' left' = IsOver held left held' left'

-- the source is at its end, unless the line has a line feed
abbrev pub MeetsEnd : Found → Option (List ℕ) → Type 0
MeetsEnd (Line at) left = ⊤
MeetsEnd (Last at) left = IsAtEnd left
MeetsEnd End left = IsAtEnd left

-- the line after so many is refused so
abbrev pub Refuses : ℕ → List ℕ → Option (List ℕ) → Refusal → Type 0
Refuses line held None refusal = ⊤
Refuses line held (Some left) refusal = (later : List (Result PyxLine Refusal)) × (judged_from (line + 1) (cut_lines (held ++ left)) ≡ Err refusal ∷ later)
