-- What one line, the source's end or a refusal of the reader is answered by, where a builder stands for the lines before.
use Rattle.std.specs.Prelude.{◌≡◌, ℕ, List, [], ◌∷◌, ◌++◌, false, Option, Some, None, ⊤}
use Rattle.doc_model.specs.declared.flaw.Flaw.{Flaw}
use Rattle.doc_model.specs.declared.flaw.FlawKind.{FlawKind}
use Rattle.doc_model.specs.declared.flaw.FlawKind.TheVariants as kind
use Rattle.doc_model.specs.declared.limits.Limits.{Limits}
use Rattle.doc_model.specs.declared.step.Step.{Step}
use Rattle.doc_model.specs.declared.step.Step.TheVariants.{End}
use Rattle.doc_model.specs.declared.step.Verdict.{Verdict}
use Rattle.doc_model.specs.declared.step.Verdict.TheVariants as verdict
use Rattle.pyx_lines.specs.declared.line.Line.{Line}
use Rattle.pyx_lines.specs.declared.line_error.LineError.TheVariants.{NotUtf8, UnknownLine, NoSpace, BadName, Memory as NoMemory}
use Rattle.pyx_source.specs.declared.read_error.ReadError.{ReadError}
use Rattle.pyx_source.specs.declared.read_error.ReadError.TheVariants as error
use Rattle.pyx_events.specs.Flaw.{line_flaw, end_flaw}
use Rattle.dtm_builder.specs.declared.build_error.BuildError.{BuildError}
use Rattle.dtm_builder.specs.declared.build_error.BuildError.TheVariants.{Refused, Memory as Starved}
use Rattle.dtm_builder.specs.Lines.{line_steps}
use Rattle.line_feeder.specs.declared.fed.Fed.{Fed}
use Rattle.line_feeder.specs.declared.fed.Fed.TheVariants.{Line as Fed_Line, Ended, Flawed, Failed, Memory}
use Rattle.line_feeder.specs.Feeding.{FindsEnd, FindsFlaw, Fails, Starves}

-- the flaw is this one, and the table ends with it
abbrev pub EndsBadly : Option Flaw → Flaw → List Step → List Step → Type 0
EndsBadly judged flaw old new = (judged ≡ Some flaw) × (new ≡ old ++ End (verdict.Bad flaw) ∷ [])

-- some of the steps that were due, and a starved end
abbrev pub EndsStarved : List Step → List Step → List Step → Type 0
EndsStarved due old new = (made left : List Step) × (made ++ left ≡ due) × (new ≡ old ++ made ++ End verdict.Starved ∷ [])

-- what a line after these is answered by, where the builder goes on if it is Line
abbrev pub LineIs : Limits → List Line → Line → List Step → List Step → Fed → Type 0
LineIs limits lines line old new Fed_Line = ⊤
LineIs limits lines line old new Ended = ⊥
LineIs limits lines line old new (Flawed flaw) = EndsBadly (line_flaw limits false lines line) flaw old new
LineIs limits lines line old new Failed = ⊥
LineIs limits lines line old new Memory = EndsStarved (line_steps limits lines line) old new

-- what the source's end after these lines is answered by
abbrev pub EndIs : Limits → List Line → List Step → List Step → Fed → Type 0
EndIs limits lines old new Fed_Line = ⊥
EndIs limits lines old new Ended = (end_flaw limits false lines ≡ None) × (new ≡ old ++ End verdict.Good ∷ [])
EndIs limits lines old new (Flawed flaw) = EndsBadly (end_flaw limits false lines) flaw old new
EndIs limits lines old new Failed = ⊥
EndIs limits lines old new Memory = EndsStarved [] old new

-- the answer to a builder's refusal
abbrev pub answer_for : BuildError → Fed
answer_for (Refused flaw) = Flawed flaw
answer_for Starved = Memory

-- the line of this number has a flaw of this kind
abbrev pub flawed : ℕ → FlawKind → Fed
flawed line kind = Flawed (record { line = line; kind = kind })

-- the answer to an error of the reader at this line
abbrev pub answer_to : ReadError → ℕ → Fed
answer_to error.Failed line = Failed
answer_to error.LongLine line = flawed line kind.LongLine
answer_to error.TooManyLines line = flawed line kind.TooManyLines
answer_to (error.Line NotUtf8) line = flawed line kind.NotUtf8
answer_to (error.Line UnknownLine) line = flawed line kind.UnknownLine
answer_to (error.Line NoSpace) line = flawed line kind.NoSpace
answer_to (error.Line BadName) line = flawed line kind.BadName
answer_to (error.Line NoMemory) line = Memory
answer_to error.Memory line = Memory

-- what the table ends with where a feed gives this answer
abbrev pub verdict_for : Fed → Verdict
verdict_for Fed_Line = verdict.Good
verdict_for Ended = verdict.Good
verdict_for (Flawed flaw) = verdict.Bad flaw
verdict_for Failed = verdict.Failed
verdict_for Memory = verdict.Starved

-- what a feed answers after these lines, and what it leaves beside the line that it took
abbrev pub FeedIs : Limits → Option (List ℕ) → Option (List ℕ) → List Line → List Step → List Step → Fed → Type 0
FeedIs limits told left lines old new Fed_Line = ⊤
FeedIs limits told left lines old new Ended = FindsEnd limits told left lines old new
FeedIs limits told left lines old new (Flawed flaw) = FindsFlaw limits told lines flaw old new
FeedIs limits told left lines old new Failed = Fails limits told left lines old new
FeedIs limits told left lines old new Memory = Starves limits told old new
