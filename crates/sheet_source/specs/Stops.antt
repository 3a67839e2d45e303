-- Why the bytes of a stylesheet give no elements.
use Rattle.std.specs.Prelude.{ℕ}
use Rattle.doc_model.specs.declared.flaw.FlawKind.{FlawKind}
use Rattle.doc_model.specs.declared.flaw.FlawKind.TheVariants as kind
use Rattle.pyx_lines.specs.declared.line_error.LineError.TheVariants.{NotUtf8, UnknownLine, NoSpace, BadName, Memory as NoMemory}
use Rattle.pyx_source.specs.declared.read_error.ReadError.{ReadError}
use Rattle.pyx_source.specs.declared.read_error.ReadError.TheVariants as error
use Rattle.pyx_events.specs.declared.event_error.EventError.{EventError}
use Rattle.pyx_events.specs.declared.event_error.EventError.TheVariants as events
use Rattle.sheet_source.specs.declared.error.SourceStop.{SourceStop}
use Rattle.sheet_source.specs.declared.error.SourceStop.TheVariants.{Flawed, Memory}

-- the answer to a refusal of the checker
abbrev pub stop_for : EventError → SourceStop
stop_for (events.Refused flaw completed) = Flawed flaw
stop_for events.Memory = Memory

abbrev pub flawed : ℕ → FlawKind → SourceStop
flawed line kind = Flawed (record { line = line; kind = kind })

-- the answer to an error of the reader at this line
abbrev pub stop_at : ReadError → ℕ → SourceStop
stop_at error.Failed line = Memory
stop_at error.LongLine line = flawed line kind.LongLine
stop_at error.TooManyLines line = flawed line kind.TooManyLines
stop_at (error.Line NotUtf8) line = flawed line kind.NotUtf8
stop_at (error.Line UnknownLine) line = flawed line kind.UnknownLine
stop_at (error.Line NoSpace) line = flawed line kind.NoSpace
stop_at (error.Line BadName) line = flawed line kind.BadName
stop_at (error.Line NoMemory) line = Memory
stop_at error.Memory line = Memory
