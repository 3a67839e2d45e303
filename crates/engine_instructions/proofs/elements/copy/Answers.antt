use Rattle.std.proofs.Common.{refl, arith, sym, ◌∙◌, false, ◌∷◌}
use Rattle.doc_model.specs.Rows.{row_at, rows_of}
use Rattle.engine_core.proofs.Asking.{sound_behind, still_known}
use Rattle.engine_core.specs.Holding.{scene_of}
use Rattle.engine_core.specs.Standing.{stand_of, state_in}
use Rattle.engine_instructions.proofs.Shallows.{alone_moves, around_moves, content_moves, row_known}
use Rattle.engine_instructions.proofs.Sounds.{sound_around, sound_with}
use Rattle.engine_laws.proofs.Asking.{row_stays}
use Rattle.frames.specs.declared.frame.Frame.TheVariants as f
use Rattle.engine_instructions.proofs.elements.copy.Goals as goal

pub returns-in_ok-push_body-in-Content-clause-tries : goal.returns-in_ok-push_body-in-Content-clause-tries
returns-in_ok-push_body-in-Content-clause-tries g c =
    let m = c.args.core.now in
    let asked = g.Q.Questions.asked c.args.v.now in
    let before = g.Q.Questions.sees c.args.v.now in
    let z = scene_of g.S.ItemStream.walks g.S.ItemStream.follows asked before in
    let later = (g.Q.Questions.sees c.shallow.new.self).steps in
    let sound = sound_behind g.S.ItemStream.walks g.S.ItemStream.follows c.shallow.ensures.kept g.met.S.ItemStream.goes_on c.requires.sound in
    let is = row_known asked.lookups before.rules later m.context.node sound.context.node in
    rw (c.in_ok-push_body-in-Content.ensures, c.in_ok-push.ensures.ok) (record {
      sheet = refl;
      left = λ u x. content_moves m.sheet.now u c.args.others c.args.kept m.frames (stand_of m) (state_in m) c.args.body (row_at (rows_of later) m.context.node)
          (still_known _ _ _ is (row_stays m.sheet.now m.globals _ u x (stand_of m).place)) (sym c.in_ok-copy.ensures.value ∙ c.in-Content.is);
      lighter = omega arith;
      sound = sound_around z later m sound (f.Body c.args.others false c.args.kept ∷ m.frames) _ _ c.args.body sound.holds;
    })

pub returns-in_ok-push_body-in-Around-clause-tries : goal.returns-in_ok-push_body-in-Around-clause-tries
returns-in_ok-push_body-in-Around-clause-tries g c =
    let m = c.args.core.now in
    let asked = g.Q.Questions.asked c.args.v.now in
    let before = g.Q.Questions.sees c.args.v.now in
    let z = scene_of g.S.ItemStream.walks g.S.ItemStream.follows asked before in
    let later = (g.Q.Questions.sees c.shallow.new.self).steps in
    let sound = sound_behind g.S.ItemStream.walks g.S.ItemStream.follows c.shallow.ensures.kept g.met.S.ItemStream.goes_on c.requires.sound in
    let is = row_known asked.lookups before.rules later m.context.node sound.context.node in
    rw (c.in_ok-push_body-in-Around.ensures, c.in_ok-push-in-Around-2.ensures.ok, c.in_ok-push-in-Around.ensures.ok, c.in_ok-push.ensures.ok) (record {
      sheet = refl;
      left = λ u x. around_moves m.sheet.now u c.args.others c.args.kept m.frames (stand_of m) (state_in m) c.args.body (row_at (rows_of later) m.context.node) c.in-Around.name
          (still_known _ _ _ is (row_stays m.sheet.now m.globals _ u x (stand_of m).place)) (sym c.in_ok-copy.ensures.value ∙ c.in-Around.is);
      lighter = omega arith;
      sound = sound_around z later m sound (f.Close ∷ f.Body c.args.others false c.args.kept ∷ m.frames) _ _ c.args.body sound.holds;
    })

pub returns-in_ok-append-in-Alone-clause-tries : goal.returns-in_ok-append-in-Alone-clause-tries
returns-in_ok-append-in-Alone-clause-tries g c =
    let m = c.args.core.now in
    let asked = g.Q.Questions.asked c.args.v.now in
    let before = g.Q.Questions.sees c.args.v.now in
    let z = scene_of g.S.ItemStream.walks g.S.ItemStream.follows asked before in
    let later = (g.Q.Questions.sees c.shallow.new.self).steps in
    let sound = sound_behind g.S.ItemStream.walks g.S.ItemStream.follows c.shallow.ensures.kept g.met.S.ItemStream.goes_on c.requires.sound in
    let is = row_known asked.lookups before.rules later m.context.node sound.context.node in
    rw (c.in_ok-append-in-Alone.ensures.ok, c.in_ok-push.ensures.ok) (record {
      sheet = refl;
      left = λ u x. alone_moves m.sheet.now u c.args.others c.args.kept m.frames (stand_of m) (state_in m) c.args.body (row_at (rows_of later) m.context.node) c.in-Alone.events
          (still_known _ _ _ is (row_stays m.sheet.now m.globals _ u x (stand_of m).place)) (sym c.in_ok-copy.ensures.value ∙ c.in-Alone.is);
      lighter = omega arith;
      sound = sound_with z later m sound _ _ _ sound.holds;
    })
