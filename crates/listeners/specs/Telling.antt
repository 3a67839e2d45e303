-- Who hears which messages, and who is dropped.
use Rattle.std.specs.Prelude.{◌≡◌, ◌<◌, ◌≤◌, ◌+◌, ℕ, List, [], ◌∷◌, ⊤, Option, Some, IfSome, Result, length, map, take, slice_get}
use Rattle.edge.specs.Outside.{Grows, AddsAtOk}
use Rattle.edge.specs.Causes.{Rose, HasCause}
use Rattle.edge.specs.Hearing.{Hearing, FailsToHear, HearsAsTold, after_hearing}
use Rattle.listeners.specs.declared.message.Message.{Message}
use Rattle.listeners.specs.declared.message.Dropped.{Dropped}

-- what a listener tells of itself: the messages heard, its calls, and how often it failed
pub record Told : Type 0 where
  pub heard : Option (List (ℕ × List ℕ))
  pub hearing : Option Hearing
  pub faults : ℕ

-- a message as a listener tells it
abbrev pub heard_as : Message → ℕ × List ℕ
heard_as message = (message.sheet, message.line)

-- one call with this message
pub record Hears {T E : Type 0} (message : Message) (before after : Told) (result : Result T E) : Type 0 where
  pub heard : AddsAtOk before.heard after.heard result (heard_as message)
  pub calls : HearsAsTold before.hearing after.hearing result message.line
  pub cause : HasCause before.faults after.faults result

-- no call with these messages fails, as the listener tells its calls
abbrev pub HearsEach : Hearing → List Message → Type 0
HearsEach hearing [] = ⊤
HearsEach hearing (message ∷ later) = ¬ (FailsToHear hearing message.line) × HearsEach (after_hearing hearing message.line) later

-- what it tells of its calls after them
abbrev pub after_each : Hearing → List Message → Hearing
after_each hearing [] = hearing
after_each hearing (message ∷ later) = after_each (after_hearing hearing message.line) later

-- the call after so many of these messages is the first that fails, as the listener tells its calls
abbrev pub FailsFirstAfter : Hearing → List Message → ℕ → Type 0
FailsFirstAfter hearing messages count = HearsEach hearing (take count messages)
    × (message : Message) × (slice_get messages count ≡ Some message) × FailsToHear (after_each hearing (take count messages)) message.line

-- a listener heard all these messages
pub record HeardAll (messages : List Message) (before after : Told) : Type 0 where
  pub heard : Grows before.heard after.heard (map heard_as messages)
  pub calls : IfSome before.hearing (λ hearing. HearsEach hearing messages × (after.hearing ≡ Some (after_each hearing messages)))
  pub faults : before.faults ≤ after.faults

-- a listener heard so many of these messages and failed at the next, after which it told this
pub record FailedAfter (messages : List Message) (count : ℕ) (before after : Told) : Type 0 where
  pub within : count < length messages
  pub heard : Grows before.heard after.heard (map heard_as (take count messages))
  pub calls : IfSome before.hearing (λ hearing. FailsFirstAfter hearing messages count)
  pub cause : Rose before.faults after.faults

-- the listeners in order, the first of them at this place; those that are left, and those that were dropped
pub data Tells (messages : List Message) : ℕ → List Told → List Told → List Dropped → Type 0 where
  none : {at : ℕ} → Tells messages at [] [] []
  kept : {at : ℕ} {before after : Told} {listeners left : List Told} {dropped : List Dropped} → HeardAll messages before after
      → Tells messages (at + 1) listeners left dropped → Tells messages at (before ∷ listeners) (after ∷ left) dropped
  failed : {at count : ℕ} {before after : Told} {listeners left : List Told} {dropped : List Dropped} → FailedAfter messages count before after
      → Tells messages (at + 1) listeners left dropped → Tells messages at (before ∷ listeners) left (record { index = at; heard = count } ∷ dropped)
