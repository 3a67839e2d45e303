use Rattle.std.proofs.Common.{◌≡◌, ◌++◌, map, length}
use Rattle.std.specs.Vec.Iter.{into_iter_items, into_iter_len}
use Rattle.sessions.specs.Running.{AreBehind, builtin_outcome}
use Rattle.sessions.proofs.follower.finish_followers.Given as goal

abbrev pub invariant-loop-follower : goal.invariant-loop-follower
invariant-loop-follower l = (l.yielded ++ into_iter_items l.follower-iterator ≡ into_iter_items l.initial.follower-iterator)
    × AreBehind l.table.cells.steps (into_iter_items l.follower-iterator)
    × (l.outcomes ≡ map (λ _. builtin_outcome l.table.cells.steps) l.yielded)
    × (into_iter_len l.follower-iterator ≡ length (into_iter_items l.follower-iterator))
