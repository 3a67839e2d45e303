-- What is left at the start of a transformation.
use Rattle.std.specs.Prelude.{ℕ, List, [], ◌∷◌, false, Option}
use Rattle.std.specs.Borrow.{Bor}
use Rattle.doc_model.specs.declared.step.Step.{Step}
use Rattle.engine_meaning.specs.Meaning.{at_first, sheet_world, undone}
use Rattle.engine_meaning.specs.Runs.{Ran}
use Rattle.frame_meaning.specs.Rest.{rest}
use Rattle.frame_meaning.specs.Uses.{at_root}
use Rattle.frames.specs.declared.frame.Frame.{Frame}
use Rattle.frames.specs.declared.frame.Frame.TheVariants as f
use Rattle.sheet_ast.specs.declared.sheet.Sheet.{Sheet}

-- the globals in their order, and then the template of the root
abbrev pub first_frames : Bor (List ℕ) → List Frame
first_frames order = f.Globals order false ∷ f.Choose 0 [] ∷ []

abbrev pub left_at_start : Sheet → Bor (List ℕ) → Option (List ℕ) → List Step → ℕ → Ran (Unit {0})
left_at_start sheet order id steps budget = rest sheet (sheet_world sheet id steps) (first_frames order) (at_root (undone sheet)) (at_first budget)
