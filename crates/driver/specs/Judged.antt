-- What the words and the bytes of a source call for.
use Rattle.std.specs.Prelude.{ℕ, List, [], ◌∷◌, ◌++◌, Option, Some, None, codes, length}
use Rattle.doc_model.specs.declared.flaw.Flaw.{Flaw}
use Rattle.doc_model.specs.declared.limits.Limits.{Limits}
use Rattle.cmd_words.specs.declared.planned.Plan.{Plan}
use Rattle.cmd_words.specs.Turns.{turns_of}
use Rattle.cmd_words.specs.Words.{plan_of, usage_line}
use Rattle.pyx_events.specs.Flaw.{flaw_of}
use Rattle.pyx_events.specs.Steps.{steps_of}
use Rattle.line_feeder.specs.Feeds.{feeds_of}
use Rattle.sessions.specs.Running.{made_of, outcomes_of}
use Rattle.turn_play.specs.Progress.{made_after, progress_text}
use Rattle.turn_play.specs.Turns.{Run, passes, runs, last_runs}
use Rattle.delivery.specs.Answer.{Answer, text_answer, made_answer, flawed_answer}

-- the limits of a table where the words name none
abbrev pub default_limits : Limits
default_limits = record { rows = 1000000; text = 33554432; names = 65536 }

-- the turns before the source's end or its first flaw is found
abbrev pub early_runs : Limits → Plan → List ℕ → List Run
early_runs limits plan bytes = runs (made_after limits bytes) (feeds_of limits bytes) 0 (passes (feeds_of limits bytes) (turns_of plan))

-- all turns, where the source has no flaw
abbrev pub all_runs : Limits → Plan → List ℕ → List Run
all_runs limits plan bytes = early_runs limits plan bytes ++ last_runs (length plan.pairs) (λ reader. made_of reader (steps_of limits bytes))

abbrev pub usage_answer : Answer
usage_answer = text_answer 2 usage_line

abbrev pub read_failed_answer : Answer
read_failed_answer = text_answer 5 (codes "read failed" ++ 10 ∷ [])

abbrev pub memory_answer : Answer
memory_answer = text_answer 7 (codes "out of memory" ++ 10 ∷ [])

-- the answer of a plan for a source of these bytes, whose first flaw is this: after a flaw no reader has a last turn
abbrev pub judged : Limits → Plan → List ℕ → Option Flaw → Answer
judged limits plan bytes None = made_answer plan.pairs (outcomes_of (length plan.pairs) (steps_of limits bytes)) (progress_text (all_runs limits plan bytes))
judged limits plan bytes (Some flaw) = flawed_answer (progress_text (early_runs limits plan bytes)) flaw

abbrev pub planned : Limits → Option Plan → List ℕ → Answer
planned limits None bytes = usage_answer
planned limits (Some plan) bytes = judged limits plan bytes (flaw_of limits bytes)

-- the answer for these words and a source of these bytes
abbrev pub answer_of : Limits → List (List ℕ) → List ℕ → Answer
answer_of limits words bytes = planned limits (plan_of words) bytes
