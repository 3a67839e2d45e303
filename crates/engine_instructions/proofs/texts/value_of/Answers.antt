use Rattle.std.proofs.Common.{refl, subst, arith}
use Rattle.doc_model.specs.Answers.{Stays}
use Rattle.engine_core.proofs.Asking.{heard, sound_behind}
use Rattle.engine_core.proofs.Moves.{stops_by}
use Rattle.engine_core.specs.Standing.{stand_of, state_in}
use Rattle.engine_instructions.proofs.Hanging.{W, value_hangs}
use Rattle.engine_laws.proofs.Asking.{text_stays}
use Rattle.engine_meaning.specs.Questions.{text_at}
use Rattle.frame_meaning.proofs.Instructions.{value_moves}
use Rattle.engine_instructions.proofs.texts.value_of.Goals as goal

pub returns-in_err-text-clause-tries : goal.returns-in_err-text-clause-tries
returns-in_err-text-clause-tries g c =
    let m = c.args.core.now in
    stops_by _ _ _ (λ u. text_at (W m c.args.others c.args.kept u) (stand_of m).place c.args.select.now) _ _ m c.in_err-text.field-0.0 _ (value_hangs m c.args.others c.args.kept c.args.select.now)
    (heard g.S.ItemStream.walks g.S.ItemStream.follows c.text.ensures.kept _ c.in_err-text.ensures.answers) c.from_residual.ensures.1

pub returns-clause-tries : goal.returns-clause-tries
returns-clause-tries g c =
    let m = c.args.core.now in
    let hears = heard g.S.ItemStream.walks g.S.ItemStream.follows c.text.ensures.kept _ c.in_ok-text.ensures.answers in
    let sound = sound_behind g.S.ItemStream.walks g.S.ItemStream.follows c.text.ensures.kept g.met.S.ItemStream.goes_on c.requires.sound in
    rw (c.in_ok-push-2.ensures.ok, c.in_ok-push.ensures.ok) (record {
      sheet = refl;
      left = λ u x. value_moves m.sheet.now u c.args.others c.args.kept m.frames (stand_of m) (state_in m) c.args.select.now c.in_ok-text.text
          (subst (λ o. Stays o (text_at (W m c.args.others c.args.kept u) (stand_of m).place c.args.select.now)) hears (text_stays m.sheet.now m.globals _ u x (stand_of m).place c.args.select.now));
      lighter = omega arith;
      sound = record { root = sound.root; sizes = sound.sizes; globals = sound.globals; locals = sound.locals; context = sound.context; holds = sound.holds };
    })
