use Rattle.std.proofs.Common.{◌+◌, ◌∷◌, length, refl, ap, ◌∙◌, arith}
use Rattle.std.proofs.lemmas.List.{nil_from_length}
use Rattle.doc_model.specs.Answers.{Known}
use Rattle.engine_core.proofs.Asking.{heard, sound_behind, still_known}
use Rattle.engine_core.proofs.Keeping.{kept_none}
use Rattle.engine_core.specs.Holding.{scene_of}
use Rattle.engine_core.specs.Standing.{stand_of, state_in}
use Rattle.engine_laws.proofs.Asking.{truth_stays}
use Rattle.engine_meaning.specs.Questions.{truth_at}
use Rattle.frame_meaning.proofs.Frames as move
use Rattle.frame_meaning.specs.Rest.{rest}
use Rattle.frame_meaning.specs.Stand.{setting_at}
use Rattle.frames.specs.declared.frame.Frame.TheVariants as f
use Rattle.sheet_ast.specs.declared.instruction.When.{out-When}
use Rattle.engine_frames.proofs.Returning.{back_on, sound_body}
use Rattle.engine_frames.proofs.cases.whens.Goals as goal

pub returns-in_err-push-clause-kept : goal.returns-in_err-push-clause-kept
returns-in_err-push-clause-kept g c = kept_none c.requires.stands

pub returns-in_ok-push-clause-kept : goal.returns-in_ok-push-clause-kept
returns-in_ok-push-clause-kept g c = kept_none c.requires.stands

pub returns-in_ok-push-clause-goes : goal.returns-in_ok-push-clause-goes
returns-in_ok-push-clause-goes g c =
    let m = c.args.core.now in
    let s = c.requires.sound in
    rw (c.in_ok-push.ensures.ok, c.len.ensures) (record {
      sheet = refl;
      left = λ u x.
          ap (λ o. rest m.sheet.now u (f.Whens c.args.whens o ∷ m.frames) (stand_of m) (state_in m)) c.in-Some-otherwise.is
          ∙ move.otherwise_body m.sheet.now u m.frames (stand_of m) (state_in m) c.args.whens c.in-Some-otherwise.body (nil_from_length c.args.whens.now c.in_default.ensures.cases);
      lighter = omega arith;
      sound = sound_body m.frames c.in-Some-otherwise.body s s.holds;
    })

pub returns-in_default-otherwise-clause-kept : goal.returns-in_default-otherwise-clause-kept
returns-in_default-otherwise-clause-kept g c = kept_none c.requires.stands

pub returns-in_default-otherwise-clause-goes : goal.returns-in_default-otherwise-clause-goes
returns-in_default-otherwise-clause-goes g c =
    let m = c.args.core.now in
    let s = c.requires.sound in
    record {
      sheet = refl;
      left = λ u x.
          ap (λ o. rest m.sheet.now u (f.Whens c.args.whens o ∷ m.frames) (stand_of m) (state_in m)) c.in_default-otherwise.is
          ∙ move.otherwise_nothing m.sheet.now u m.frames (stand_of m) (state_in m) c.args.whens (nil_from_length c.args.whens.now c.in_default.ensures.cases);
      lighter = omega arith;
      sound = record { root = s.root; sizes = s.sizes; globals = s.globals; locals = s.locals; context = s.context; holds = s.holds };
    }

pub returns-in-Err-clause-goes : goal.returns-in-Err-clause-goes
returns-in-Err-clause-goes g c =
    let z = scene_of g.S.ItemStream.walks g.S.ItemStream.follows (g.Q.Questions.asked c.args.v.now) (g.Q.Questions.sees c.args.v.now) in
    let m = c.args.core.now in
    let s = sound_behind g.S.ItemStream.walks g.S.ItemStream.follows c.in-Err.ensures.kept g.met.S.ItemStream.goes_on c.requires.sound in
    let hears = heard g.S.ItemStream.walks g.S.ItemStream.follows c.in-Err.ensures.kept _ c.in-Err.ensures.answers in
    back_on (Unit {0}) z _ _ (λ u. truth_at (setting_at m.sheet.now u (stand_of m)) (stand_of m).place (out-When c.in-Some.first.now).test) (length c.args.whens.now + 3) m
    (f.Whens c.args.whens c.args.otherwise) _ c.in-Err.stop c.in_ok-push-in-Err.ensures.ok s
    (record {
      fails = λ u k is. move.when_fails m.sheet.now u m.frames (stand_of m) (state_in m) c.args.whens c.in-Some.more c.args.otherwise c.in-Some.first.now k c.in-Some.ensures.cases.0 is;
      waits = λ u n is. move.when_waits m.sheet.now u m.frames (stand_of m) (state_in m) c.args.whens c.in-Some.more c.args.otherwise c.in-Some.first.now n c.in-Some.ensures.cases.0 is;
    }) hears

pub returns-in_ok-push-2-clause-goes : goal.returns-in_ok-push-2-clause-goes
returns-in_ok-push-2-clause-goes g c =
    let m = c.args.core.now in
    let s = sound_behind g.S.ItemStream.walks g.S.ItemStream.follows c.in-Ok.ensures.kept g.met.S.ItemStream.goes_on c.requires.sound in
    let hears = heard g.S.ItemStream.walks g.S.ItemStream.follows c.in-Ok.ensures.kept _ c.in-Ok.ensures.answers in
    rw (c.in_ok-push-2.ensures.ok, c.len-then-holds.ensures) (record {
      sheet = refl;
      left = λ u x. move.when_holds m.sheet.now u m.frames (stand_of m) (state_in m) c.args.whens c.in-Some.more c.args.otherwise c.in-Some.first.now c.as_slice.result c.in-Some.ensures.cases.0
          (still_known _ _ _ (hears ∙ ap (λ b. Known b) c.if-holds.true) (truth_stays m.sheet.now m.globals _ u x (stand_of m).place (out-When c.in-Some.first.now).test)) c.as_slice.ensures;
      lighter = omega arith;
      sound = sound_body m.frames c.as_slice.result s s.holds;
    })

pub returns-in_ok-push-3-clause-goes : goal.returns-in_ok-push-3-clause-goes
returns-in_ok-push-3-clause-goes g c =
    let m = c.args.core.now in
    let s = sound_behind g.S.ItemStream.walks g.S.ItemStream.follows c.in-Ok.ensures.kept g.met.S.ItemStream.goes_on c.requires.sound in
    let hears = heard g.S.ItemStream.walks g.S.ItemStream.follows c.in-Ok.ensures.kept _ c.in-Ok.ensures.answers in
    rw c.in_ok-push-3.ensures.ok (record {
      sheet = refl;
      left = λ u x. move.when_passes m.sheet.now u m.frames (stand_of m) (state_in m) c.args.whens c.in-Some.more c.args.otherwise c.in-Some.first.now c.in-Some.ensures.cases.0
          (still_known _ _ _ (hears ∙ ap (λ b. Known b) c.if-holds.false) (truth_stays m.sheet.now m.globals _ u x (stand_of m).place (out-When c.in-Some.first.now).test));
      lighter = let shorter = c.in-Some.ensures.cases.1 in omega (arith, shorter);
      sound = record { root = s.root; sizes = s.sizes; globals = s.globals; locals = s.locals; context = s.context; holds = s.holds };
    })
