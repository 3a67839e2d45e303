-- What is done at the items of selects.
use Rattle.std.specs.Prelude.{ℕ, false}
use Rattle.frames.specs.declared.frame.Frame.{Frame}
use Rattle.frames.specs.declared.frame.Frame.TheVariants as f
use Rattle.frames.specs.declared.parts.Work.{Work}
use Rattle.frames.specs.declared.parts.Work.TheVariants as work

-- the frame that the work at an item begins with, where these many locals stand
abbrev pub first_frame : Work → ℕ → Frame
first_frame (work.ByMode mode given) locals = f.Choose mode given
first_frame (work.ByBody body) locals = f.Body body false locals
