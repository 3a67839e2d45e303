use Rattle.std.proofs.Common.{refl, subst, arith}
use Rattle.doc_model.specs.declared.node_test.Test.TheVariants as test
use Rattle.doc_model.specs.declared.row.Axis.TheVariants as axis
use Rattle.engine_core.proofs.Asking.{heard, sound_behind, still_known}
use Rattle.engine_core.specs.Holding.{scene_of}
use Rattle.engine_core.specs.Standing.{stand_of, state_in}
use Rattle.frame_meaning.proofs.Opening as move
use Rattle.frames.specs.declared.frame.Frame.TheVariants as f
use Rattle.xpath_laws.specs.Sound.{Each, IsThere}
use Rattle.engine_frames.proofs.Returning.{back_on}
use Rattle.engine_frames.proofs.templates.children.Goals as goal

pub returns-in-Err-clause-goes : goal.returns-in-Err-clause-goes
returns-in-Err-clause-goes g c =
    let z = scene_of g.S.ItemStream.walks g.S.ItemStream.follows (g.Q.Questions.asked c.args.v.now) (g.Q.Questions.sees c.args.v.now) in
    let m = c.args.core.now in
    let s = sound_behind g.S.ItemStream.walks g.S.ItemStream.follows c.in-Err.ensures.kept g.met.S.ItemStream.goes_on c.requires.sound in
    let hears = heard g.S.ItemStream.walks g.S.ItemStream.follows c.in-Err.ensures.kept _ c.in-Err.ensures.answers in
    back_on (Unit {0}) z _ _ (λ u. u.reading.axis axis.Child test.Any m.context.node) 12884901890 m (f.Children c.args.mode) _ c.in-Err.stop c.in_ok-push-in-Err.ensures.ok s
    (record {
      fails = λ u k is. move.children_fail m.sheet.now u m.frames (stand_of m) (state_in m) c.args.mode k is;
      waits = λ u n is. move.children_wait m.sheet.now u m.frames (stand_of m) (state_in m) c.args.mode n is;
    }) hears

pub returns-clause-goes : goal.returns-clause-goes
returns-clause-goes g c =
    let m = c.args.core.now in
    let later = (g.Q.Questions.sees c.all_children.new.self).steps in
    let s = sound_behind g.S.ItemStream.walks g.S.ItemStream.follows c.in-Ok.ensures.kept g.met.S.ItemStream.goes_on c.requires.sound in
    let hears = heard g.S.ItemStream.walks g.S.ItemStream.follows c.in-Ok.ensures.kept _ c.in-Ok.ensures.answers in
    rw (c.in_ok-push.ensures.ok, c.new.ensures) (record {
      sheet = refl;
      left = λ u x. move.children_move m.sheet.now u m.frames (stand_of m) (state_in m) c.args.mode c.in-Ok.nodes (still_known _ _ _ hears (x.reading.axis axis.Child test.Any m.context.node));
      lighter = let few = c.in-Ok.ensures.bounded in omega (arith, few);
      sound = record {
        root = s.root;
        sizes = s.sizes;
        globals = s.globals;
        locals = s.locals;
        context = s.context;
        holds = (subst (λ rules. Each (IsThere rules later) c.in-Ok.nodes) c.in-Ok.ensures.kept.moves.rules_stay c.in-Ok.ensures.there, tt, s.context, s.holds);
      };
    })
