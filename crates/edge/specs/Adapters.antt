-- The real objects of the outside, as values: what stands behind them, and how often it failed.
use Rattle.std.specs.Prelude.{◌≡◌, ℕ, ◌+◌, ◌-◌, ◌^◌, min, Result, MatchResult}

-- what is read, written or opened, and how often that failed
pub record Adapter (T : Type 0) : Type 0 where
  pub inner : T
  pub faults : ℕ

-- a count stays at Ok, and at Err is one more, at most the greatest u64
abbrev pub CountsErrors : {T E : Type 0} → ℕ → ℕ → Result T E → Type 0
CountsErrors before now result = MatchResult result (λ _. now ≡ before) (λ _. now ≡ min (before + 1) (2 ^ 64 - 1))
