use Rattle.std.proofs.Common.{◌≡◌, ◌++◌, [], drop}
use Rattle.pyx_output.specs.Bytes.{lines_from, bytes_of_lines}
use Rattle.pyx_output.specs.Heading.{Writing, Stands, rest}
use Rattle.pyx_output.proofs.bytes.lines.Given as goal

abbrev pub invariant-loop-event : goal.invariant-loop-event
invariant-loop-event l = (state : Writing) × Stands state l.nest l.heading × (l.out.items ++ rest state (drop l.event-index l.fn.events) ≡ bytes_of_lines (lines_from [] l.fn.events))
