use Rattle.std.proofs.Common.{◌≡◌, ℕ, ◌<◌, false}
use Rattle.global_order.specs.Marks.{is_stuck_global}
use Rattle.global_order.proofs.marks.first_stuck.Given as goal

abbrev pub invariant-loop-at : goal.invariant-loop-at
invariant-loop-at l = (u : ℕ) → u < l.at → is_stuck_global l.nodes l.marks u ≡ false
