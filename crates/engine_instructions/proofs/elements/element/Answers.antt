use Rattle.std.proofs.Common.{refl, arith, ◌∷◌, false}
use Rattle.engine_core.proofs.Asking.{heard, sound_behind, still_known}
use Rattle.engine_core.proofs.Moves.{stops_by}
use Rattle.engine_core.specs.Holding.{scene_of}
use Rattle.engine_core.specs.Standing.{stand_of, state_in}
use Rattle.engine_instructions.proofs.Computing.{element_hangs}
use Rattle.engine_instructions.proofs.Hanging.{W}
use Rattle.engine_instructions.proofs.Sounds.{sound_around}
use Rattle.engine_laws.proofs.Asking.{name_stays}
use Rattle.engine_meaning.specs.Questions.{name_at}
use Rattle.frame_meaning.proofs.Instructions.{computed_moves}
use Rattle.frames.specs.declared.frame.Frame.TheVariants as f
use Rattle.engine_instructions.proofs.elements.element.Goals as goal

pub returns-in_err-name-clause-tries : goal.returns-in_err-name-clause-tries
returns-in_err-name-clause-tries g c =
    let m = c.args.core.now in
    stops_by _ _ _ (λ u. name_at (W m c.args.others c.args.kept u) (stand_of m).place false c.args.name.now c.args.namespace.now c.args.scopes) _ _ m c.in_err-name.field-0.0 _
    (element_hangs m c.args.others c.args.kept c.args.body c.args.name.now c.args.namespace.now c.args.scopes)
    (heard g.S.ItemStream.walks g.S.ItemStream.follows c.computed_name.ensures.kept _ c.in_err-name.ensures.answers) c.from_residual.ensures.1

pub returns-clause-tries : goal.returns-clause-tries
returns-clause-tries g c =
    let m = c.args.core.now in
    let z = scene_of g.S.ItemStream.walks g.S.ItemStream.follows (g.Q.Questions.asked c.args.v.now) (g.Q.Questions.sees c.args.v.now) in
    let later = (g.Q.Questions.sees c.computed_name.new.v).steps in
    let hears = heard g.S.ItemStream.walks g.S.ItemStream.follows c.computed_name.ensures.kept _ c.in_ok-name.ensures.answers in
    let sound = sound_behind g.S.ItemStream.walks g.S.ItemStream.follows c.computed_name.ensures.kept g.met.S.ItemStream.goes_on c.requires.sound in
    rw (c.in_ok-push_body.ensures, c.in_ok-push-3.ensures.ok, c.in_ok-push-2.ensures.ok, c.in_ok-push.ensures.ok) (record {
      sheet = refl;
      left = λ u x. computed_moves m.sheet.now u c.args.others c.args.kept m.frames (stand_of m) (state_in m) c.args.name.now c.args.namespace.now c.args.scopes c.args.body c.in_ok-name.name
          (still_known _ _ _ hears (name_stays m.sheet.now m.globals _ u x (stand_of m).place false c.args.name.now c.args.namespace.now c.args.scopes));
      lighter = omega arith;
      sound = sound_around z later m sound (f.Close ∷ f.Body c.args.others false c.args.kept ∷ m.frames) _ _ c.args.body sound.holds;
    })
