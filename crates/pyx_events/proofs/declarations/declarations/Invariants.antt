use Rattle.std.proofs.Common.{◌≡◌, take}
use Rattle.pyx_events.specs.Nodes.{declarations}
use Rattle.pyx_events.proofs.declarations.declarations.Given as goal

abbrev pub invariant-loop-it : goal.invariant-loop-it
invariant-loop-it l = l.made ≡ declarations (take l.it-index l.lines)
