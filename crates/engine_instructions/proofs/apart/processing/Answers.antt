use Rattle.std.proofs.Common.{refl, arith, ◌∷◌, false}
use Rattle.engine_core.proofs.Asking.{heard, sound_behind, still_known}
use Rattle.engine_core.proofs.Moves.{stops_by}
use Rattle.engine_core.specs.Holding.{scene_of}
use Rattle.engine_core.specs.Standing.{stand_of, state_in}
use Rattle.engine_instructions.proofs.Computing.{processing_hangs}
use Rattle.engine_instructions.proofs.Hanging.{W}
use Rattle.engine_instructions.proofs.Sounds.{sound_around}
use Rattle.engine_laws.proofs.Asking.{target_stays}
use Rattle.engine_meaning.specs.Questions.{target_at}
use Rattle.frame_meaning.proofs.Instructions.{processing_moves}
use Rattle.frames.specs.declared.frame.Frame.TheVariants as f
use Rattle.frames.specs.declared.parts.Purpose.TheVariants as purpose
use Rattle.engine_instructions.proofs.apart.processing.Goals as goal

pub returns-in_err-target-clause-tries : goal.returns-in_err-target-clause-tries
returns-in_err-target-clause-tries g c =
    let m = c.args.core.now in
    stops_by _ _ _ (λ u. target_at (W m c.args.others c.args.kept u) (stand_of m).place c.args.name.now) _ _ m c.in_err-target.field-0.0 _
    (processing_hangs m c.args.others c.args.kept c.args.body c.args.name.now)
    (heard g.S.ItemStream.walks g.S.ItemStream.follows c.computed_target.ensures.kept _ (c.in_err-target.ensures.answers m.sheet.now)) c.from_residual.ensures.1

pub returns-clause-tries : goal.returns-clause-tries
returns-clause-tries g c =
    let m = c.args.core.now in
    let z = scene_of g.S.ItemStream.walks g.S.ItemStream.follows (g.Q.Questions.asked c.args.v.now) (g.Q.Questions.sees c.args.v.now) in
    let later = (g.Q.Questions.sees c.computed_target.new.v).steps in
    let hears = heard g.S.ItemStream.walks g.S.ItemStream.follows c.computed_target.ensures.kept _ (c.in_ok-target.ensures.answers m.sheet.now) in
    let sound = sound_behind g.S.ItemStream.walks g.S.ItemStream.follows c.computed_target.ensures.kept g.met.S.ItemStream.goes_on c.requires.sound in
    rw (c.in_ok-push_apart.ensures) (record {
      sheet = refl;
      left = λ u x. processing_moves m.sheet.now u c.args.others c.args.kept m.frames (stand_of m) (state_in m) c.args.name.now c.args.body c.in_ok-target.target
          (still_known _ _ _ hears (target_stays m.sheet.now m.globals _ u x (stand_of m).place c.args.name.now));
      lighter = omega arith;
      sound = sound_around z later m sound (f.Apart m.output (purpose.Processing c.in_ok-target.target) ∷ f.Body c.args.others false c.args.kept ∷ m.frames) _ _ c.args.body sound.holds;
    })
