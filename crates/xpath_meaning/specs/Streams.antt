-- Nodes that are found one by one, and what comes after those that were found.
use Rattle.std.specs.Prelude.{◌≡◌, ℕ, List, [], ◌∷◌, ◌++◌, Option, Some, None}
use Rattle.doc_model.specs.Answers as answer
use Rattle.fault_kinds.specs.declared.fault.FaultKind.{FaultKind}
use Rattle.xpath_meaning.specs.Outcome.{Outcome}

-- there are no more; or a fault; or this row must be shut first
pub data Ending : Type 0 where
  Whole : Ending
  Fault : FaultKind → Ending
  Cut : ℕ → Ending

pub record Stream : Type 0 where
  pub items : List ℕ
  pub ending : Ending

-- these items, and no more
abbrev pub all_of : List ℕ → Stream
all_of items = record { items = items; ending = Whole }

-- no items, and this ending
abbrev pub ends : Ending → Stream
ends ending = record { items = []; ending = ending }

abbrev pub behind : List ℕ → Ending → Stream → Stream
behind items Whole next = record { items = items ++ next.items; ending = next.ending }
behind items (Fault fault) next = record { items = items; ending = Fault fault }
behind items (Cut m) next = record { items = items; ending = Cut m }

-- a stream, and where it is whole another one behind it
abbrev pub then_stream : Stream → Stream → Stream
then_stream s next = behind s.items s.ending next

-- goes on with a value that is known
abbrev pub stream_of : {A : Type 0} → Outcome A → (A → Stream) → Stream
stream_of (answer.Known x) rest = rest x
stream_of (answer.Fault fault) rest = ends (Fault fault)
stream_of (answer.Open m) rest = ends (Cut m)

abbrev pub first_in : List ℕ → Ending → Outcome (Option ℕ)
first_in (n ∷ ns) ending = answer.Known (Some n)
first_in [] Whole = answer.Known None
first_in [] (Fault fault) = answer.Fault fault
first_in [] (Cut m) = answer.Open m

-- the first item, or that there is none
abbrev pub first_item : Stream → Outcome (Option ℕ)
first_item s = first_in s.items s.ending

-- a later stream goes on where the earlier one is cut, and is the same where that is not
abbrev pub GoesOnFrom : List ℕ → Ending → Stream → Type 0
GoesOnFrom items Whole later = later ≡ record { items = items; ending = Whole }
GoesOnFrom items (Fault fault) later = later ≡ record { items = items; ending = Fault fault }
GoesOnFrom items (Cut m) later = (more : List ℕ) × (later.items ≡ items ++ more)

abbrev pub GoesOn : Stream → Stream → Type 0
GoesOn s later = GoesOnFrom s.items s.ending later
