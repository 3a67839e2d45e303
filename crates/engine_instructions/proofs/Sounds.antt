-- What a machine holds it holds with other frames and events made, where the place stays.
use Rattle.std.proofs.Common.{List, ◌∷◌, length, false}
use Rattle.std.specs.Borrow.{Bor}
use Rattle.std.specs.Prelude.{reverse}
use Rattle.doc_model.specs.declared.step.Step.{Step}
use Rattle.engine_core.proofs.Topping.{body_on_top}
use Rattle.engine_core.specs.Holding.{Holds, Scene, Sound}
use Rattle.engine_core.specs.Standing.{stand_of}
use Rattle.engine_core.specs.declared.state.Core.{Core}
use Rattle.frames.specs.declared.frame.Frame.{Frame}
use Rattle.frames.specs.declared.frame.Frame.TheVariants as f
use Rattle.result_events.specs.declared.event.ResultEvent.{ResultEvent}
use Rattle.sheet_ast.specs.declared.instruction.Instruction.{Instruction}

module _ {S : Type 0} (z : Scene S) (steps : List Step) (m : Core S) {old : List Frame} (s : Sound z steps old m) where
  pub sound_with : (frames now : List Frame) (output : List ResultEvent) → Holds z steps frames (stand_of m) (reverse m.streams) → Sound z steps frames (record m { frames = now; output = output })
  sound_with frames now output k = record { root = s.root; sizes = s.sizes; globals = s.globals; locals = s.locals; context = s.context; holds = k }

  -- a body on top whose locals end with it
  pub sound_around : (frames now : List Frame) (output : List ResultEvent) (body : Bor (List Instruction)) → Holds z steps frames (stand_of m) (reverse m.streams)
      → Sound z steps (f.Body body false (length m.locals) ∷ frames) (record m { frames = now; output = output })
  sound_around frames now output body k = sound_with (f.Body body false (length m.locals) ∷ frames) now output (body_on_top z steps frames (stand_of m) (reverse m.streams) body false k)
