-- What the objects over memory are, as values, and what a call makes of the calls that they count.
use Rattle.std.specs.Prelude.{ℕ, ◌+◌, ◌-◌, ◌^◌, min, List, Contains, length}
use Rattle.edge.specs.Hearing.{Hearing}

-- how many calls an object had, the numbers of the calls that fail, and how often it has failed
pub record Calls : Type 0 where
  pub had : ℕ
  pub failing : List ℕ
  pub faults : ℕ

-- before the first call
abbrev pub fresh : List ℕ → Calls
fresh failing = record { had = 0; failing = failing; faults = 0 }

-- a call's number is one more than the calls had before it, at most the greatest u64
abbrev pub number_of : Calls → ℕ
number_of calls = min (calls.had + 1) (2 ^ 64 - 1)

-- the next call fails by its number
abbrev pub FailsNext : Calls → Type 0
FailsNext calls = Contains calls.failing (number_of calls)

-- after a call that did not fail
abbrev pub counted : Calls → Calls
counted calls = record { had = number_of calls; failing = calls.failing; faults = calls.faults }

-- after a call that failed
abbrev pub faulted : Calls → Calls
faulted calls = record { had = number_of calls; failing = calls.failing; faults = min (calls.faults + 1) (2 ^ 64 - 1) }

-- a source: the bytes that are left, and the most that it gives at a call
pub record SourceState : Type 0 where
  pub left : List ℕ
  pub piece : ℕ
  pub calls : Calls

-- a shelf: its pairs of name and bytes, the first that was added first
pub record ShelfState : Type 0 where
  pub pairs : List (List ℕ × List ℕ)
  pub calls : Calls

-- a drawer: its puts, each a name and bytes, and how many more bytes it has room for
pub record DrawerState : Type 0 where
  pub puts : List (List ℕ × List ℕ)
  pub room : ℕ
  pub calls : Calls

-- a sink: the bytes written, and how many more it has room for
pub record SinkState : Type 0 where
  pub written : List ℕ
  pub room : ℕ
  pub calls : Calls

-- what a put counts against the room: 16 beside the bytes of its name and its own
abbrev pub put_size : List ℕ → List ℕ → ℕ
put_size name bytes = 16 + length name + length bytes

-- a listener: the messages heard, each the number of a sheet and a line, and how many more bytes it has room for
pub record ListenerState : Type 0 where
  pub heard : List (ℕ × List ℕ)
  pub room : ℕ
  pub calls : Calls

-- what it tells of its calls
abbrev pub hearing_of : ListenerState → Hearing
hearing_of listener = record { had = listener.calls.had; failing = listener.calls.failing; room = listener.room }
