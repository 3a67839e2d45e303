-- Where a session stands among the feeds of its source, what the last feed finds, and what feeds leave.
use Rattle.std.specs.Prelude.{◌≡◌, ◌≢◌, ℕ, ◌+◌, ◌<◌, ◌≤◌, List, Option, None, Some, IfSome, length, ⊤}
use Rattle.std.specs.Io.KnownBytes.{IsAtEnd}
use Rattle.doc_model.specs.declared.flaw.Flaw.{Flaw}
use Rattle.doc_model.specs.declared.limits.Limits.{Limits}
use Rattle.doc_model.specs.declared.step.Step.{Step}
use Rattle.edge.specs.Causes.{Rose}
use Rattle.pyx_lines.specs.declared.line.Line.{Line}
use Rattle.pyx_events.specs.Flaw.{flaw_of}
use Rattle.pyx_events.specs.Steps.{steps_of}
use Rattle.line_feeder.specs.declared.fed.Fed.{Fed}
use Rattle.line_feeder.specs.declared.fed.Fed.TheVariants as fed
use Rattle.line_feeder.specs.Feeding.{WasReadSo, for_good}
use Rattle.line_feeder.specs.Feeds.{feeds_of}
use Rattle.line_feeder.specs.Reads.{HasReadFor}
use Rattle.sessions.specs.declared.session.Session.{Session}
use Rattle.sessions.specs.Standing.{HasBeenFed, Holds, answer_of, limits_of, lines_given, counts_of, steps_of_session}

-- so many lines were fed, and the source goes on
pub record IsAt (session : Session) (limits : Limits) (told left : Option (List ℕ)) (count : ℕ) : Type 0 where
  pub limited : limits_of session ≡ limits
  pub lines : List Line
  pub fed : HasBeenFed session told left lines
  pub counted : length lines ≡ count

-- the feed after so many lines found the source's end or its first flaw
pub record FindsLast (limits : Limits) (bytes : List ℕ) (count : ℕ) (flaw : Option Flaw) : Type 0 where
  pub first : flaw_of limits bytes ≡ flaw
  pub feed : feeds_of limits bytes ≡ count + 1

-- what the feed after so many lines found: the end, the first flaw, or a failed read; where memory was wanted nothing is said
abbrev pub Finds : Limits → Option (List ℕ) → Option (List ℕ) → ℕ → List Step → Fed → Type 0
Finds limits told left count steps fed.Line = ⊥
Finds limits told left count steps fed.Ended = IsAtEnd left × IfSome told (λ bytes. FindsLast limits bytes count None × (steps ≡ steps_of limits bytes))
Finds limits told left count steps (fed.Flawed flaw) = IfSome told (λ bytes. FindsLast limits bytes count (Some flaw))
Finds limits told left count steps fed.Failed = (lines : List Line) × WasReadSo limits told left lines
Finds limits told left count steps fed.Memory = ⊤

-- after fewer than so many further lines
abbrev pub FindsWithin : Limits → Option (List ℕ) → Option (List ℕ) → ℕ → ℕ → List Step → Fed → Type 0
FindsWithin limits told left count most steps fed.Line = ⊥
FindsWithin limits told left count most steps fed.Ended = (more : ℕ) × (more < most) × Finds limits told left (count + more) steps fed.Ended
FindsWithin limits told left count most steps (fed.Flawed flaw) = (more : ℕ) × (more < most) × Finds limits told left (count + more) steps (fed.Flawed flaw)
FindsWithin limits told left count most steps fed.Failed = (more : ℕ) × (more < most) × Finds limits told left (count + more) steps fed.Failed
FindsWithin limits told left count most steps fed.Memory = ⊤

-- of a source that tells its bytes nothing was read but what its feeds up to the last asked for
abbrev pub IsReadInTime : Limits → Option (List ℕ) → Option (List ℕ) → Type 0
IsReadInTime limits None left = ⊤
IsReadInTime limits (Some bytes) left = HasReadFor (Some bytes) left (feeds_of limits bytes)

-- what is left where so many lines were asked for: Line says that all of them were fed, and any other answer that it was given within them
pub record Leaves (old new : Session) (left left' : Option (List ℕ)) (faults faults' : ℕ) (most : ℕ) (answer : Fed) : Type 0 where
  pub going : answer ≡ fed.Line → (limits : Limits) (told : Option (List ℕ)) (count : ℕ) → IsAt old limits told left count → IsAt new limits told left' (count + most)
  pub found : answer ≢ fed.Line → (limits : Limits) (told : Option (List ℕ)) (count : ℕ) → IsAt old limits told left count → FindsWithin limits told left' count most (steps_of_session new) answer
  pub asked : (limits : Limits) (told : Option (List ℕ)) (count : ℕ) → IsAt old limits told left count → IsReadInTime limits told left'
  pub kept : answer ≢ fed.Memory → answer_of new ≡ for_good answer
  pub given : answer ≡ fed.Line → (lines_given new ≡ lines_given old + most) × (0 < most → lines_given new ≤ 4294967295)
  pub rose : answer ≡ fed.Failed → Rose faults faults'
  pub later : faults ≤ faults'
  pub holds : Holds new
  pub readers : length (counts_of new) ≡ length (counts_of old)

-- by this answer the turns are told: nothing stopped them but the source's end or its first flaw
abbrev pub TellsAll : Fed → Type 0
TellsAll fed.Line = ⊤
TellsAll fed.Ended = ⊤
TellsAll (fed.Flawed flaw) = ⊤
TellsAll fed.Failed = ⊥
TellsAll fed.Memory = ⊥
