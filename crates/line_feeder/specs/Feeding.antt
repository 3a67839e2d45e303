-- What a feed answers, and what it leaves.
use Rattle.std.specs.Prelude.{◌≡◌, ℕ, ◌+◌, List, [], ◌∷◌, ◌++◌, Bool, true, false, not, IsTrue, count_by, length, Option, Some, None, IfSome, ⊤}
use Rattle.std.specs.Io.KnownBytes.{IsAtEnd}
use Rattle.std.specs.List.{list_any}
use Rattle.doc_model.specs.declared.flaw.Flaw.{Flaw}
use Rattle.doc_model.specs.declared.limits.Limits.{Limits}
use Rattle.doc_model.specs.declared.step.Step.{Step}
use Rattle.doc_model.specs.declared.step.Step.TheVariants.{Node, Shut, End}
use Rattle.doc_model.specs.declared.step.Verdict.TheVariants as verdict
use Rattle.pyx_lines.specs.declared.line.Line.{Line}
use Rattle.pyx_events.specs.Flaw.{flaw_of, end_flaw}
use Rattle.pyx_events.specs.Steps.{steps_of, steps_to}
use Rattle.line_feeder.specs.Feeds.{feeds_of}
use Rattle.line_feeder.specs.Reads.{is_feed}
use Rattle.line_feeder.specs.declared.fed.Fed.{Fed}
use Rattle.line_feeder.specs.declared.fed.Fed.TheVariants.{Line as Fed_Line, Ended, Flawed, Failed, Memory}

-- each answer but Line is given for good
abbrev pub for_good : Fed → Option Fed
for_good Fed_Line = None
for_good Ended = Some Ended
for_good (Flawed flaw) = Some (Flawed flaw)
for_good Failed = Some Failed
for_good Memory = Some Memory

-- a source of these bytes has this first flaw or none, this feed after so many lines finds that, and these are all its steps
pub record IsWhole (limits : Limits) (bytes : List ℕ) (lines : List Line) (flaw : Option Flaw) (steps : List Step) : Type 0 where
  pub first : flaw_of limits bytes ≡ flaw
  pub all : steps_of limits bytes ≡ steps
  pub found : feeds_of limits bytes ≡ length lines + 1

-- Ended: the source was read to its end, and the table is whole
pub record FindsEnd (limits : Limits) (told left : Option (List ℕ)) (lines : List Line) (old new : List Step) : Type 0 where
  pub end : IsAtEnd left
  pub flawless : end_flaw limits false lines ≡ None
  pub steps : new ≡ old ++ End verdict.Good ∷ []
  pub whole : IfSome told (λ bytes. IsWhole limits bytes lines None new)

-- Flawed: the flaw is the source's first, and the table ends with it
pub record FindsFlaw (limits : Limits) (told : Option (List ℕ)) (lines : List Line) (flaw : Flaw) (old new : List Step) : Type 0 where
  pub steps : new ≡ old ++ End (verdict.Bad flaw) ∷ []
  pub whole : IfSome told (λ bytes. IsWhole limits bytes lines (Some flaw) new)

abbrev pub is_end : Step → Bool
is_end (Node row attributes) = false
is_end Shut = false
is_end (End verdict) = true

abbrev pub HoldsNoEnd : List Step → Type 0
HoldsNoEnd steps = IsTrue (not (list_any is_end steps))

-- these bytes were read from the source: each line that ends in them was fed, and the steps of those lines hold no End
pub record WasRead (limits : Limits) (bytes left : List ℕ) (lines : List Line) : Type 0 where
  pub read : List ℕ
  pub all : bytes ≡ read ++ left
  pub fed : count_by is_feed read ≡ length lines
  pub flawless : HoldsNoEnd (steps_to limits bytes (count_by is_feed read))

-- the same where the source told its bytes at first and tells what is left
abbrev pub WasReadSo : Limits → Option (List ℕ) → Option (List ℕ) → List Line → Type 0
WasReadSo limits None left lines = ⊤
WasReadSo limits (Some bytes) None lines = ⊥
WasReadSo limits (Some bytes) (Some left) lines = WasRead limits bytes left lines

-- Failed: a read failed, and no whole line that was read has a flaw
pub record Fails (limits : Limits) (told left : Option (List ℕ)) (lines : List Line) (old new : List Step) : Type 0 where
  pub steps : new ≡ old ++ End verdict.Failed ∷ []
  pub read : WasReadSo limits told left lines

-- Memory: some of the steps that were due, and a starved end
pub record Starves (limits : Limits) (told : Option (List ℕ)) (old new : List Step) : Type 0 where
  pub made : List Step
  pub steps : new ≡ (old ++ made) ++ End verdict.Starved ∷ []
  pub due : IfSome told (λ bytes. (rest : List Step) × ((old ++ made) ++ rest ≡ steps_of limits bytes))
