use Rattle.std.proofs.Common.{refl, ◌∙◌, ap, ◌∷◌, arith, true, false}
use Rattle.doc_model.specs.Answers as answer
use Rattle.engine_core.proofs.Asking.{heard, sound_behind, still_known}
use Rattle.engine_core.proofs.Moves.{stops_by}
use Rattle.engine_core.specs.Holding.{scene_of, world_at}
use Rattle.engine_core.specs.Standing.{stand_of, state_in}
use Rattle.engine_instructions.proofs.Choosing.{if_hangs}
use Rattle.engine_instructions.proofs.Hanging.{W}
use Rattle.engine_instructions.proofs.Sounds.{sound_around, sound_with}
use Rattle.engine_laws.proofs.Asking.{truth_stays}
use Rattle.engine_meaning.specs.Execution.{does}
use Rattle.engine_meaning.specs.Questions.{truth_at}
use Rattle.frame_meaning.proofs.Instructions.{if_moves, if_passes}
use Rattle.frames.specs.declared.frame.Frame.TheVariants as f
use Rattle.std.specs.Prelude.{map}
use Rattle.engine_instructions.proofs.choices.if_true.Goals as goal

pub returns-in_err-holds-clause-tries : goal.returns-in_err-holds-clause-tries
returns-in_err-holds-clause-tries g c =
    let m = c.args.core.now in
    stops_by _ _ _ (λ u. truth_at (W m c.args.others c.args.kept u) (stand_of m).place c.args.test.now) _ _ m c.in_err-holds.field-0.0 _
    (if_hangs m c.args.others c.args.kept c.args.test.now (map does c.args.body.now))
    (heard g.S.ItemStream.walks g.S.ItemStream.follows c.truth.ensures.kept _ c.in_err-holds.ensures.answers) c.from_residual.ensures.1

pub returns-in_ok-push_body-clause-tries : goal.returns-in_ok-push_body-clause-tries
returns-in_ok-push_body-clause-tries g c =
    let m = c.args.core.now in
    let z = scene_of g.S.ItemStream.walks g.S.ItemStream.follows (g.Q.Questions.asked c.args.v.now) (g.Q.Questions.sees c.args.v.now) in
    let later = (g.Q.Questions.sees c.truth.new.self).steps in
    let hears = heard g.S.ItemStream.walks g.S.ItemStream.follows c.truth.ensures.kept _ c.in_ok-holds.ensures.answers ∙ ap answer.Known c.if-holds.true in
    let sound = sound_behind g.S.ItemStream.walks g.S.ItemStream.follows c.truth.ensures.kept g.met.S.ItemStream.goes_on c.requires.sound in
    rw (c.in_ok-push_body.ensures, c.in_ok-push.ensures.ok) (record {
      sheet = refl;
      left = λ u x. if_moves m.sheet.now u c.args.others c.args.kept m.frames (stand_of m) (state_in m) c.args.test.now c.args.body
          (still_known (truth_at (W m c.args.others c.args.kept (world_at z later)) (stand_of m).place c.args.test.now) _ true hears (truth_stays m.sheet.now m.globals _ u x (stand_of m).place c.args.test.now));
      lighter = omega arith;
      sound = sound_around z later m sound (f.Body c.args.others false c.args.kept ∷ m.frames) _ _ c.args.body sound.holds;
    })

pub returns-else-holds-clause-tries : goal.returns-else-holds-clause-tries
returns-else-holds-clause-tries g c =
    let m = c.args.core.now in
    let z = scene_of g.S.ItemStream.walks g.S.ItemStream.follows (g.Q.Questions.asked c.args.v.now) (g.Q.Questions.sees c.args.v.now) in
    let later = (g.Q.Questions.sees c.truth.new.self).steps in
    let hears = heard g.S.ItemStream.walks g.S.ItemStream.follows c.truth.ensures.kept _ c.in_ok-holds.ensures.answers ∙ ap answer.Known c.if-holds.false in
    let sound = sound_behind g.S.ItemStream.walks g.S.ItemStream.follows c.truth.ensures.kept g.met.S.ItemStream.goes_on c.requires.sound in
    rw c.in_ok-push.ensures.ok (record {
      sheet = refl;
      left = λ u x. if_passes m.sheet.now u c.args.others c.args.kept m.frames (stand_of m) (state_in m) c.args.test.now (map does c.args.body.now)
          (still_known (truth_at (W m c.args.others c.args.kept (world_at z later)) (stand_of m).place c.args.test.now) _ false hears (truth_stays m.sheet.now m.globals _ u x (stand_of m).place c.args.test.now));
      lighter = omega arith;
      sound = sound_with z later m sound (f.Body c.args.others false c.args.kept ∷ m.frames) _ _ sound.holds;
    })
