-- What is left while an instruction that has its unit is done.
use Rattle.std.specs.Prelude.{ℕ, ◌-◌, false, List, ◌∷◌}
use Rattle.std.specs.Borrow.{Bor}
use Rattle.engine_meaning.specs.Execution.{Action, Giving, Binding, Case, Templates, acts, most_nested, templates}
use Rattle.engine_meaning.specs.Places.{World}
use Rattle.engine_meaning.specs.Runs.{Run, after}
use Rattle.frame_meaning.specs.Apart.{under}
use Rattle.frames.specs.Apart.{base}
use Rattle.frame_meaning.specs.Rest.{rest}
use Rattle.frame_meaning.specs.Stand.{Stand, at_place, setting_at}
use Rattle.frames.specs.Depth.{depth}
use Rattle.frames.specs.declared.frame.Frame.{Frame}
use Rattle.frames.specs.declared.frame.Frame.TheVariants as f
use Rattle.sheet_ast.specs.declared.instruction.Instruction.{Instruction}
use Rattle.sheet_ast.specs.declared.instruction.Instruction.TheOpen.{Instruction-F}
use Rattle.sheet_ast.specs.declared.sheet.Sheet.{Sheet}

-- templates above these frames
abbrev pub room : Sheet → World → List Frame → Stand → Templates
room sheet w frames h = templates (most_nested - depth frames) (setting_at sheet w h)

-- the instruction, then the others of its body, behind which so many locals stand, and then the frames
abbrev pub acted : Sheet → World → Instruction-F Action Giving Binding Case → Bor (List Instruction) → ℕ → List Frame → Stand → Run (Unit {0})
acted sheet w y others kept frames h s =
    after (under (base frames) (acts y (setting_at sheet w h) (room sheet w frames h) h.place s)) (λ locals. rest sheet w (f.Body others false kept ∷ frames) (at_place h h.place.context locals))
