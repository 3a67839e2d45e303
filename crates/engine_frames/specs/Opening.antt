-- What is left where a template is opened.
use Rattle.std.specs.Prelude.{ℕ, suc, ◌-◌, List, Option}
use Rattle.doc_model.specs.declared.row.Kind.{Kind}
use Rattle.engine_meaning.specs.Execution.{Called, InMode, built_in_of, most_nested, templates}
use Rattle.engine_meaning.specs.Places.{World, Given}
use Rattle.engine_meaning.specs.Runs.{Ran, State, after, pure}
use Rattle.frame_meaning.specs.Apart.{under}
use Rattle.frame_meaning.specs.Opened.{opened}
use Rattle.frame_meaning.specs.Rest.{rest}
use Rattle.frame_meaning.specs.Stand.{Stand, setting_at}
use Rattle.frames.specs.Apart.{base}
use Rattle.frames.specs.Depth.{depth}
use Rattle.frames.specs.declared.frame.Frame.{Frame}
use Rattle.sheet_ast.specs.declared.sheet.Sheet.{Sheet}

-- a template that was chosen is opened, and then come the frames
abbrev pub opening_so : Sheet → World → List Frame → Stand → Called → List Given → Option ℕ → State → Ran (Unit {0})
opening_so sheet w frames h called given template s =
    after (under (base frames) (after (opened (most_nested - depth frames) (setting_at sheet w h) called given h.place.context template s) (λ _. pure h))) (rest sheet w frames)

-- the built-in rule of a node of this kind in a mode, which is open, and then come the frames
abbrev pub built_in_so : Sheet → World → List Frame → Stand → Kind → ℕ → State → Ran (Unit {0})
built_in_so sheet w frames h k mode s =
    after (under (base frames) (after (built_in_of k (InMode mode) (setting_at sheet w h) (templates (most_nested - suc (depth frames)) (setting_at sheet w h)) h.place.context s) (λ _. pure h)))
    (rest sheet w frames)
