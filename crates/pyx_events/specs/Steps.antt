-- The steps of a source: each line's nodes and ends where the line has no flaw, and last an end with the verdict.
use Rattle.std.specs.Prelude.{ℕ, ◌+◌, List, [], ◌∷◌, ◌++◌, false, length, map, take, Option, Some, None, Result, Ok, Err}
use Rattle.doc_model.specs.declared.limits.Limits.{Limits}
use Rattle.doc_model.specs.declared.flaw.Flaw.{Flaw}
use Rattle.doc_model.specs.declared.step.Step.{Step}
use Rattle.doc_model.specs.declared.step.Step.TheVariants as step
use Rattle.doc_model.specs.declared.step.Verdict.TheVariants.{Good, Bad}
use Rattle.pyx_lines.specs.declared.line.Line.{Line}
use Rattle.pyx_lines.specs.Lines.{Refusal, judged_lines}
use Rattle.pyx_events.specs.declared.event.Event.{Event}
use Rattle.pyx_events.specs.declared.event.Event.TheVariants.{Node, Shut}
use Rattle.pyx_events.specs.Nodes.{line_events}
use Rattle.pyx_events.specs.Flaw.{line_flaw, end_flaw, kind_of}

-- the step that an event gives
abbrev pub step_of : Event → Step
step_of (Node row attributes declarations uris line) = step.Node row attributes
step_of Shut = step.Shut

abbrev pub steps_of_events : List Event → List Step
steps_of_events events = map step_of events

-- an end with this flaw and nothing after it, or else these steps
abbrev pub bad_or : Option Flaw → List Step → List Step
bad_or None steps = steps
bad_or (Some flaw) steps = step.End (Bad flaw) ∷ []

-- the steps that lines give from here on, without what the input's end gives
abbrev pub steps_through : Limits → List Line → List (Result Line Refusal) → List Step
steps_through limits before [] = []
steps_through limits before (Err refusal ∷ lines) = step.End (Bad (record { line = length before + 1; kind = kind_of refusal })) ∷ []
steps_through limits before (Ok line ∷ lines) =
    bad_or (line_flaw limits false before line) (steps_of_events (line_events before line) ++ steps_through limits (line ∷ before) lines)

-- the steps that lines and the input's end give from here on: without a flaw a good end stands last
abbrev pub steps_from : Limits → List Line → List (Result Line Refusal) → List Step
steps_from limits before [] = bad_or (end_flaw limits false before) (step.End Good ∷ [])
steps_from limits before (Err refusal ∷ lines) = step.End (Bad (record { line = length before + 1; kind = kind_of refusal })) ∷ []
steps_from limits before (Ok line ∷ lines) =
    bad_or (line_flaw limits false before line) (steps_of_events (line_events before line) ++ steps_from limits (line ∷ before) lines)

-- the steps of a source of these bytes
abbrev pub steps_of : Limits → List ℕ → List Step
steps_of limits bytes = steps_from limits [] (judged_lines bytes)

-- the steps of its first k lines
abbrev pub steps_to : Limits → List ℕ → ℕ → List Step
steps_to limits bytes k = steps_through limits [] (take k (judged_lines bytes))
