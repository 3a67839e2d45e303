use Rattle.std.proofs.Common.{◌≡◌, drop}
use Rattle.pyx_events.specs.Flaw.{repeats}
use Rattle.pyx_events.proofs.elements.few_repeat.Given as goal

abbrev pub invariant-loop-i : goal.invariant-loop-i
invariant-loop-i l = repeats l.rows ≡ repeats (drop l.i l.rows)
