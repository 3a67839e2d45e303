use Rattle.std.proofs.Common.{◌≡◌, ◌++◌, drop}
use Rattle.engine_core.proofs.copies.copy_given.Given as goal

abbrev pub invariant-loop-handed : goal.invariant-loop-handed
invariant-loop-handed l = l.copy ++ drop l.handed-index l.fn.given ≡ l.fn.given
