-- What a top call answers and leaves, whatever its status is.
use Rattle.std.specs.Prelude.{◌≡◌, ◌⊎◌, ℕ, List, ◌++◌, Option, Some, None, IfSome, count_by, ⊤}
use Rattle.std.specs.Io.KnownBytes.{IsAtEnd}
use Rattle.edge.specs.Causes.{Rose}
use Rattle.doc_model.specs.declared.flaw.Flaw.{Flaw}
use Rattle.doc_model.specs.declared.limits.Limits.{Limits}
use Rattle.cmd_words.specs.declared.planned.Plan.{Plan}
use Rattle.cmd_words.specs.Words.{plan_of}
use Rattle.pyx_events.specs.Flaw.{flaw_of}
use Rattle.pyx_events.specs.Steps.{steps_to}
use Rattle.line_feeder.specs.Feeding.{HoldsNoEnd}
use Rattle.line_feeder.specs.Reads.{is_feed}
use Rattle.sessions.specs.declared.outcome.Outcome.{Outcome}
use Rattle.turn_play.specs.Playing.{IsReadInTime}
use Rattle.delivery.specs.Answer.{Answer, made_answer, flawed_answer}
use Rattle.delivery.specs.Delivery.{Outputs, IsDelivered}
use Rattle.driver.specs.Judged.{judged, usage_answer, read_failed_answer, memory_answer}

-- the outside of a call at one time: what the source has left and the shelf holds, where they tell it, how often each has failed, and what the drawer, the console and the listeners have
pub record Outside : Type 0 where
  pub left : Option (List ℕ)
  pub pairs : Option (List (List ℕ × List ℕ))
  pub source : ℕ
  pub shelf : ℕ
  pub out : Outputs

-- an answer that a plan may have, whatever the source is: where it tells what was made, the source was read to its end
abbrev pub IsOfPlan : Plan → Option (List ℕ) → Answer → Type 0
IsOfPlan plan left answer =
    (IsAtEnd left × ((outcomes : List Outcome) × ((progress : List ℕ) × (answer ≡ made_answer plan.pairs outcomes progress))))
    ⊎ ((progress : List ℕ) × ((flaw : Flaw) × (answer ≡ flawed_answer progress flaw)))

-- a plan has this answer, and where the source told its bytes, they have it too
pub record IsJudged (limits : Limits) (plan : Plan) (told left : Option (List ℕ)) (answer : Answer) : Type 0 where
  pub planned : IsOfPlan plan left answer
  pub exact : IfSome told (λ bytes. answer ≡ judged limits plan bytes (flaw_of limits bytes))

-- of the bytes that a source had, so many were read, and the steps of the lines that end in them hold no End
pub record ReadsWithoutFlaw (limits : Limits) (bytes left : List ℕ) : Type 0 where
  pub read : List ℕ
  pub all : bytes ≡ read ++ left
  pub flawless : HoldsNoEnd (steps_to limits bytes (count_by is_feed read))

-- the same where the source tells its bytes
abbrev pub StopsWithoutFlaw : Limits → Option (List ℕ) → Option (List ℕ) → Type 0
StopsWithoutFlaw limits None left = ⊤
StopsWithoutFlaw limits (Some bytes) None = ⊥
StopsWithoutFlaw limits (Some bytes) (Some left) = ReadsWithoutFlaw limits bytes left

-- the source failed, and no whole line that was read has a flaw
pub record ReadFails (limits : Limits) (before after : Outside) (answer : Answer) : Type 0 where
  pub rose : Rose before.source after.source
  pub stops : StopsWithoutFlaw limits before.left after.left
  pub told : answer ≡ read_failed_answer

-- a plan's answer that was due: the source's own, or a read failed, or there was no memory
abbrev pub IsDueOf : Limits → Plan → Outside → Outside → Answer → Type 0
IsDueOf limits plan before after answer = IsJudged limits plan before.left after.left answer ⊎ ReadFails limits before after answer ⊎ (answer ≡ memory_answer)

-- an answer that was due: the usage line where the words are no plan, and else one of the plan's
abbrev pub IsDue : Limits → List (List ℕ) → Outside → Outside → Answer → Type 0
IsDue limits words before after answer =
    ((plan_of words ≡ None) × (answer ≡ usage_answer))
    ⊎ ((plan : Plan) × ((plan_of words ≡ Some plan) × IsDueOf limits plan before after answer))

-- a call with these words ended with this status: some answer was due, and the call delivered it, or failed to; of the source nothing was read but what the feeds up to the last asked for
pub record Answers (limits : Limits) (words : List (List ℕ)) (code : ℕ) (before after : Outside) : Type 0 where
  pub due : Answer
  pub cause : IsDue limits words before after due
  pub delivered : IsDelivered due code before.out after.out
  pub asked : IsReadInTime limits before.left after.left
