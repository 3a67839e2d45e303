-- How bytes go from a source to a reader.
use Rattle.std.specs.Prelude.{◌≡◌, ◌⊎◌, ◌≤◌, ◌<◌, ℕ, List, ◌++◌, ⊤, length, Option, Some, None}
use Rattle.std.specs.Io.KnownBytes.{Consumes}
use Rattle.pyx_source.specs.Feeds.{HoldsNoFeed}

-- bytes went from the source to the end of what is held, and none is lost
pub record Moves (held : List ℕ) (left : Option (List ℕ)) (held' : List ℕ) (left' : Option (List ℕ)) : Type 0 where
  pub bytes : List ℕ
  pub added : held' ≡ held ++ bytes
  pub taken : Consumes left left' bytes

-- one read took at most 65,536 bytes from the source
pub record TakesPiece (left left' : Option (List ℕ)) : Type 0 where
  pub bytes : List ℕ
  pub most : length bytes ≤ 65536
  pub taken : Consumes left left' bytes

-- the last of the reads that took these bytes from the source: it took at most 65,536 bytes, and before it what was held had no line feed, was no longer than a line may be, and was empty if no further line may come
pub record LastRead (line : ℕ) (held : List ℕ) (left : List ℕ) (left' : List ℕ) : Type 0 where
  pub before : List ℕ
  pub last : List ℕ
  pub all : left ≡ before ++ (last ++ left')
  pub most : length last ≤ 65536
  pub needed : HoldsNoFeed (held ++ before)
  pub short : length (held ++ before) ≤ 1048576
  pub few : 0 < length (held ++ before) → line < 4294967295

-- nothing was read, or each read found no line feed in what was held
abbrev pub ReadsOnlyForALine : ℕ → List ℕ → Option (List ℕ) → Option (List ℕ) → Type 0
ReadsOnlyForALine line held None left' = ⊤
ReadsOnlyForALine line held (Some left) None = ⊥
ReadsOnlyForALine line held (Some left) (Some left') = (left' ≡ left) ⊎ LastRead line held left left'
