use Rattle.std.proofs.Common.{◌≡◌, false, take}
use Rattle.pyx_events.specs.Flaw.{repeats}
use Rattle.pyx_events.proofs.Expanded.{HasNames}
use Rattle.pyx_events.proofs.elements.many_repeat.Given as goal

-- the rows before this one have no name twice, and the set has their names
abbrev pub invariant-loop-i : goal.invariant-loop-i
invariant-loop-i l = (repeats (take l.i l.rows) ≡ false) × HasNames l.scopes.uris l.names (take l.i l.rows)
