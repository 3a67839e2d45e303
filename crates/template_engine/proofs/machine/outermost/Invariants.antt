use Rattle.std.proofs.Common.{◌≡◌, length}
use Rattle.frames.specs.Apart.{base}
use Rattle.template_engine.specs.Turns.{or_outer}
use Rattle.template_engine.proofs.machine.outermost.Given as goal

abbrev pub invariant-loop-frame : goal.invariant-loop-frame
invariant-loop-frame l = or_outer (base l.frames) l.buffer ≡ or_outer (base l.fn.frames) l.fn.output

abbrev pub decreases-loop-frame : goal.decreases-loop-frame
decreases-loop-frame l = length l.frames
