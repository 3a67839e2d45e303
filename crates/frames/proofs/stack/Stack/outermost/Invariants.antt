use Rattle.std.proofs.Common.{◌≡◌, reverse, take, None}
use Rattle.frames.specs.Apart.{base}
use Rattle.frames.proofs.stack.Stack.outermost.Given as goal

-- no body of a frame that was looked at is run apart
abbrev pub invariant-loop-frame : goal.invariant-loop-frame
invariant-loop-frame l = base (reverse (take l.frame-index l.frame-items)) ≡ None
