-- What is left of a transformation, by the frames of a machine.
use Rattle.std.specs.Prelude.{◌-◌, List, [], ◌∷◌}
use Rattle.engine_meaning.specs.Execution.{most_nested}
use Rattle.engine_meaning.specs.Places.{World}
use Rattle.engine_meaning.specs.Runs.{Run, Done, after}
use Rattle.frame_meaning.specs.Apart.{under}
use Rattle.frames.specs.Apart.{base}
use Rattle.frame_meaning.specs.Stand.{Stand}
use Rattle.frame_meaning.specs.Work.{frame_does}
use Rattle.frames.specs.Depth.{depth}
use Rattle.frames.specs.declared.frame.Frame.{Frame}
use Rattle.sheet_ast.specs.declared.sheet.Sheet.{Sheet}

-- what the top frame does, and then what the frames below it do, from where it leaves off
abbrev pub rest : Sheet → World → List Frame → Stand → Run (Unit {0})
rest sheet w [] h s = Done tt s
rest sheet w (frame ∷ frames) h s = after (under (base frames) (frame_does frame sheet w (most_nested - depth frames) h s)) (rest sheet w frames)
