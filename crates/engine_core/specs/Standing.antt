-- Where a machine stands: what was made, what is left, and what falls with each move.
use Rattle.std.specs.Prelude.{ℕ, ◌+◌, ◌*◌, List}
use Rattle.engine_core.specs.Weight.{weight}
use Rattle.engine_core.specs.declared.state.Core.{Core}
use Rattle.engine_meaning.specs.Places.{World, place}
use Rattle.engine_meaning.specs.Runs.{State, Ran}
use Rattle.frame_meaning.specs.Apart.{surface}
use Rattle.frame_meaning.specs.Rest.{rest}
use Rattle.frame_meaning.specs.Stand.{Stand, stand}
use Rattle.frames.specs.Apart.{base}
use Rattle.frames.specs.declared.frame.Frame.{Frame}

abbrev pub stand_of : {S : Type 0} → Core S → Stand
stand_of m = stand m.globals (place m.context m.locals)

abbrev pub state_in : {S : Type 0} → Core S → State
state_in m = record { budget = m.budget; events = m.output; messages = m.messages }

-- what is left of the machine with these frames
abbrev pub left_with : {S : Type 0} → List Frame → Core S → World → Ran (Unit {0})
left_with frames m w = rest m.sheet.now w frames (stand_of m) (state_in m)

abbrev pub left_of : {S : Type 0} → Core S → World → Ran (Unit {0})
left_of m w = left_with m.frames m w

-- the budget that is left, the result events and the messages
abbrev pub made : {S : Type 0} → Core S → State
made m = surface (base m.frames) (state_in m)

-- a unit of the budget counts for more than any frame that an instruction leaves
abbrev pub measure : {S : Type 0} → Core S → ℕ
measure m = m.budget * 1180591620717411303424 + weight m.frames
