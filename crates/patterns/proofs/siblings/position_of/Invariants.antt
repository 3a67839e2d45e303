use Rattle.std.proofs.Common.{◌≡◌, ◌+◌, drop}
use Rattle.xpath_meaning.specs.Match.{position_in}
use Rattle.patterns.proofs.siblings.position_of.Given as goal

abbrev pub invariant-loop-i : goal.invariant-loop-i
invariant-loop-i l = position_in (l.i + 1) l.n (drop l.i l.nodes) ≡ position_in 1 l.n l.nodes
