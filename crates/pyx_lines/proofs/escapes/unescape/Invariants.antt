use Rattle.std.proofs.Common.{◌≡◌, ◌++◌, length}
use Rattle.pyx_lines.specs.Escapes.{unescape}
use Rattle.pyx_lines.proofs.escapes.unescape.Given as goal

abbrev pub invariant-loop-at : goal.invariant-loop-at
invariant-loop-at l = l.value.items ++ unescape l.rest ≡ unescape l.bytes

abbrev pub decreases-loop-at : goal.decreases-loop-at
decreases-loop-at l = length l.rest
