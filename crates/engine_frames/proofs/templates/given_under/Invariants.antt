use Rattle.std.proofs.Common.{◌≡◌, ◌≤◌, length, drop, None}
use Rattle.engine_meaning.specs.Places.{given_as}
use Rattle.frame_meaning.specs.Uses.{givens}
use Rattle.engine_frames.proofs.templates.given_under.Given as goal

-- none of those behind has the name
abbrev pub invariant-loop-at : goal.invariant-loop-at
invariant-loop-at l = (l.at ≤ length l.given) × (given_as l.name (givens (drop l.at l.given)) ≡ None)

abbrev pub decreases-loop-at : goal.decreases-loop-at
decreases-loop-at l = l.at
