-- A template that is chosen is opened.
use Rattle.std.proofs.Common.{◌≡◌, sym, ap, ◌∙◌, ℕ, List, ◌∷◌, Option, Result}
use Rattle.doc_model.specs.Answers as answer
use Rattle.doc_model.specs.declared.step.Step.{Step}
use Rattle.engine_core.proofs.Asking.{still_known}
use Rattle.engine_core.proofs.Moves.{Hangs, does_same}
use Rattle.engine_core.specs.Holding.{Scene, world_at}
use Rattle.engine_core.specs.Moving.{Does}
use Rattle.engine_core.specs.Standing.{left_with, stand_of, state_in}
use Rattle.engine_core.specs.declared.state.Core.{Core}
use Rattle.engine_frames.specs.Opening.{opening_so}
use Rattle.engine_laws.proofs.Choosing.{choice_stays}
use Rattle.engine_meaning.specs.Execution.{InMode, template_of}
use Rattle.engine_meaning.specs.Places.{World}
use Rattle.frame_meaning.proofs.Opening.{choose_fails, choose_moves, choose_waits}
use Rattle.frame_meaning.specs.Uses.{givens}
use Rattle.frames.specs.declared.frame.Frame.TheVariants as f
use Rattle.frames.specs.declared.parts.Handed.{Handed}
use Rattle.rule_choice.specs.Choice.{choice_of}
use Rattle.xpath_meaning.specs.Outcome.{Outcome}
use Rattle.xpath_meaning.specs.declared.stop.EvalStop.{EvalStop}

module _ {S : Type 0} (m : Core S) (mode : ℕ) (given : List Handed) where
  abbrev pub choice_at : World → Outcome (Option ℕ)
  choice_at u = choice_of u.reading m.sheet.now.rules mode m.context.node

  -- where no rule is chosen yet
  pub choice_hangs : Hangs choice_at (left_with (f.Choose mode given ∷ m.frames) m) (record m { frames = f.Choose mode given ∷ m.frames })
  choice_hangs = record {
    fails = λ u k is. choose_fails m.sheet.now u m.frames (stand_of m) (state_in m) mode given k is;
    waits = λ u n is. choose_waits m.sheet.now u m.frames (stand_of m) (state_in m) mode given n is;
  }

  -- the template of the rule is opened
  pub opens_chosen : {A : Type 0} (z : Scene S) (steps : List Step) (rule template : Option ℕ) (new : Core S) (r : Result A EvalStop) → template ≡ template_of m.sheet.now.rules rule
      → choice_at (world_at z steps) ≡ answer.Known rule
      → Does z steps (λ u. opening_so m.sheet.now u m.frames (stand_of m) (InMode mode) (givens given) template (state_in m)) 1 m new r
      → Does z steps (left_with (f.Choose mode given ∷ m.frames) m) 1 m new r
  opens_chosen z steps rule template new r is known d =
      let opens : (u : World) → choice_at u ≡ answer.Known rule
      → left_with (f.Choose mode given ∷ m.frames) m u ≡ opening_so m.sheet.now u m.frames (stand_of m) (InMode mode) (givens given) template (state_in m)
      = λ u has. choose_moves m.sheet.now u m.frames (stand_of m) (state_in m) mode given rule has
      ∙ ap (λ t. opening_so m.sheet.now u m.frames (stand_of m) (InMode mode) (givens given) t (state_in m)) (sym is) in
      does_same z steps (λ u. opening_so m.sheet.now u m.frames (stand_of m) (InMode mode) (givens given) template (state_in m)) (left_with (f.Choose mode given ∷ m.frames) m) 1 1 m new r
      (λ u x. opens u (still_known (choice_at (world_at z steps)) (choice_at u) rule known (choice_stays _ _ x.reading m.sheet.now.rules mode m.context.node))) (opens (world_at z steps) known) (λ l. l) d
