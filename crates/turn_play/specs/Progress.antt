-- The progress that the readers of a source make, and the lines that tell it.
use Rattle.std.specs.Prelude.{ℕ, List, [], ◌∷◌, ◌++◌, codes}
use Rattle.std.specs.List.{flat_map}
use Rattle.std.specs.Fmt.{decimal}
use Rattle.doc_model.specs.declared.limits.Limits.{Limits}
use Rattle.pyx_events.specs.Steps.{steps_to}
use Rattle.sessions.specs.Running.{made_of}
use Rattle.turn_play.specs.Turns.{Run}

-- the result events that a reader makes of the first lines of a source
abbrev pub made_after : Limits → List ℕ → ℕ → ℕ → ℕ
made_after limits bytes reader fed = made_of reader (steps_to limits bytes fed)

-- the console line of a turn: `rI M`
abbrev pub progress_line : Run → List ℕ
progress_line run = codes "r" ++ decimal run.reader ++ codes " " ++ decimal run.made ++ 10 ∷ []

abbrev pub progress_text : List Run → List ℕ
progress_text told = flat_map progress_line told
