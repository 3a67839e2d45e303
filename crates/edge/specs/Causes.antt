-- When a call may answer that it failed: only where the object's count of faults rose in that call.
use Rattle.std.specs.Prelude.{ℕ, ◌+◌, ◌-◌, ◌^◌, ◌≤◌, min, Result, OnErr, IsErrOf}
use Rattle.edge.specs.declared.failure.ShelfError.{ShelfError}
use Rattle.edge.specs.declared.failure.ShelfError.TheVariants.{Failed}

-- a count of faults rose from `before` to `now`, or stands at the greatest u64
abbrev pub Rose : ℕ → ℕ → Type 0
Rose before now = min (before + 1) (2 ^ 64 - 1) ≤ now

-- the count never falls, and an error comes only where it rose
pub record HasCause {T E : Type 0} (before now : ℕ) (result : Result T E) : Type 0 where
  pub later : before ≤ now
  pub failed : OnErr result (Rose before now)

-- a shelf's count never falls, and `Failed` comes only where it rose
pub record HasShelfCause {T : Type 0} (before now : ℕ) (result : Result T ShelfError) : Type 0 where
  pub later : before ≤ now
  pub failed : IsErrOf result Failed → Rose before now
