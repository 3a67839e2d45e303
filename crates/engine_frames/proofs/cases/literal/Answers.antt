use Rattle.std.proofs.Common.{◌+◌, ◌∷◌, length, refl, ap, ◌∙◌, sym, subst, arith, Err}
use Rattle.std.proofs.lemmas.List.{nil_from_length}
use Rattle.engine_core.proofs.Asking.{Hears, heard, sound_behind, still_known}
use Rattle.engine_core.proofs.Keeping.{kept_none}
use Rattle.engine_core.specs.Holding.{scene_of}
use Rattle.engine_core.specs.Standing.{stand_of, state_in}
use Rattle.engine_laws.proofs.Asking.{template_stays}
use Rattle.engine_meaning.specs.Questions.{template_text}
use Rattle.frame_meaning.proofs.Frames as move
use Rattle.frame_meaning.specs.Stand.{setting_at}
use Rattle.frames.specs.declared.frame.Frame.TheVariants as f
use Rattle.engine_frames.proofs.Returning.{back_on, sound_body}
use Rattle.engine_frames.proofs.cases.literal.Goals as goal

pub returns-in_err-push-clause-kept : goal.returns-in_err-push-clause-kept
returns-in_err-push-clause-kept g c = kept_none c.requires.stands

pub returns-in_err-push-2-clause-kept : goal.returns-in_err-push-2-clause-kept
returns-in_err-push-2-clause-kept g c = kept_none c.requires.stands

pub returns-in_default-clause-kept : goal.returns-in_default-clause-kept
returns-in_default-clause-kept g c = kept_none c.requires.stands

pub returns-in_default-clause-goes : goal.returns-in_default-clause-goes
returns-in_default-clause-goes g c =
    let m = c.args.core.now in
    let s = c.requires.sound in
    rw (c.in_ok-push-2.ensures.ok, c.in_ok-push.ensures.ok, c.len.ensures) (record {
      sheet = refl;
      left = λ u x. move.literal_ends m.sheet.now u m.frames (stand_of m) (state_in m) c.args.attributes c.args.body (nil_from_length c.args.attributes.now c.in_default.ensures.cases);
      lighter = omega arith;
      sound = sound_body (f.Close ∷ m.frames) c.args.body s s.holds;
    })

pub returns-in-Err-clause-goes : goal.returns-in-Err-clause-goes
returns-in-Err-clause-goes g c =
    let before = (g.Q.Questions.sees c.args.v.now).steps in
    let later = (g.Q.Questions.sees c.template_text.new.v).steps in
    let z = scene_of g.S.ItemStream.walks g.S.ItemStream.follows (g.Q.Questions.asked c.args.v.now) (g.Q.Questions.sees c.args.v.now) in
    let m = c.args.core.now in
    let s = sound_behind g.S.ItemStream.walks g.S.ItemStream.follows c.in-Err.ensures.kept g.met.S.ItemStream.goes_on c.requires.sound in
    let hears = heard g.S.ItemStream.walks g.S.ItemStream.follows c.in-Err.ensures.kept _ (c.in-Err.ensures.answers m.sheet.now) in
    back_on (Unit {0}) z _ _ (λ u. template_text (setting_at m.sheet.now u (stand_of m)) (stand_of m).place c.in-Some.first.now.value) (length c.args.attributes.now + 4) m (f.Literal c.args.attributes c.args.body) _ c.in-Err.stop c.in_ok-push-in-Err.ensures.ok s
    (record {
      fails = λ u k is. move.attribute_fails m.sheet.now u m.frames (stand_of m) (state_in m) c.args.attributes c.in-Some.more c.args.body c.in-Some.first.now k c.in-Some.ensures.cases.0 is;
      waits = λ u n is. move.attribute_waits m.sheet.now u m.frames (stand_of m) (state_in m) c.args.attributes c.in-Some.more c.args.body c.in-Some.first.now n c.in-Some.ensures.cases.0 is;
    }) (subst (λ parts. Hears z before later (λ u. template_text (setting_at m.sheet.now u (stand_of m)) (stand_of m).place parts) (Err c.in-Err.stop)) c.as_slice.ensures hears)

pub returns-clause-goes : goal.returns-clause-goes
returns-clause-goes g c =
    let m = c.args.core.now in
    let s = sound_behind g.S.ItemStream.walks g.S.ItemStream.follows c.in-Ok.ensures.kept g.met.S.ItemStream.goes_on c.requires.sound in
    let hears = heard g.S.ItemStream.walks g.S.ItemStream.follows c.in-Ok.ensures.kept _ (c.in-Ok.ensures.answers m.sheet.now) in
    rw (c.in_ok-push-4.ensures.ok, c.in_ok-push-3.ensures.ok, c.in_ok-name.ensures) (record {
      sheet = refl;
      left = λ u x. move.attribute_moves m.sheet.now u m.frames (stand_of m) (state_in m) c.args.attributes c.in-Some.more c.args.body c.in-Some.first.now c.in-Ok.value c.in-Some.ensures.cases.0
          (ap (λ parts. template_text (setting_at m.sheet.now u (stand_of m)) (stand_of m).place parts) (sym c.as_slice.ensures)
          ∙ still_known _ _ _ hears (template_stays m.sheet.now m.globals _ u x (stand_of m).place c.as_slice.result.now));
      lighter = let shorter = c.in-Some.ensures.cases.1 in omega (arith, shorter);
      sound = record { root = s.root; sizes = s.sizes; globals = s.globals; locals = s.locals; context = s.context; holds = s.holds };
    })
