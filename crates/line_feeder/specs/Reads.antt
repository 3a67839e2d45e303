-- For how many feeds bytes were read of a source.
use Rattle.std.specs.Prelude.{◌≡◌, ◌⊎◌, ℕ, ◌<◌, ◌≤◌, ◌==◌, List, ◌++◌, Bool, ⊤, count_by, length, Option, Some, None}

abbrev pub is_feed : ℕ → Bool
is_feed b = b == 10

-- the last read took at most 65,536 bytes, and before it fewer line feeds had been read than there were feeds
pub record LastAsked (bytes left : List ℕ) (feeds : ℕ) : Type 0 where
  pub before : List ℕ
  pub last : List ℕ
  pub all : bytes ≡ before ++ (last ++ left)
  pub most : length last ≤ 65536
  pub needed : count_by is_feed before < feeds

-- of these bytes, of which those are left, no more was read than so many feeds asked for: nothing, or the last read was asked for
abbrev pub IsAsked : List ℕ → List ℕ → ℕ → Type 0
IsAsked bytes left feeds = (left ≡ bytes) ⊎ LastAsked bytes left feeds

-- the same where the source told its bytes at first and tells what is left
abbrev pub HasReadFor : Option (List ℕ) → Option (List ℕ) → ℕ → Type 0
HasReadFor None left feeds = ⊤
HasReadFor (Some bytes) None feeds = ⊥
HasReadFor (Some bytes) (Some left) feeds = IsAsked bytes left feeds
