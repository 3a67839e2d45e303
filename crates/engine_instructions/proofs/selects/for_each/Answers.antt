use Rattle.std.proofs.Common.{refl, ◌∷◌, ◌-◌, arith, false}
use Rattle.engine_core.proofs.Asking.{sound_behind}
use Rattle.engine_core.specs.Holding.{scene_of}
use Rattle.engine_core.specs.Standing.{stand_of, state_in}
use Rattle.engine_instructions.proofs.Selecting.{for_each_stops, select_holds, select_light}
use Rattle.engine_meaning.specs.Execution.{most_nested}
use Rattle.engine_values.specs.Finding.{select_frame}
use Rattle.frame_meaning.proofs.Instructions.{for_each_moves}
use Rattle.frames.specs.Depth.{depth}
use Rattle.frames.specs.declared.frame.Frame.TheVariants as f
use Rattle.frames.specs.declared.parts.Work.TheVariants as work
use Rattle.engine_instructions.proofs.selects.for_each.Goals as goal

pub returns-in_err-found-clause-tries : goal.returns-in_err-found-clause-tries
returns-in_err-found-clause-tries g c =
    let z = scene_of g.S.ItemStream.walks g.S.ItemStream.follows (g.Q.Questions.asked c.args.v.now) (g.Q.Questions.sees c.args.v.now) in
    for_each_stops z (g.Q.Questions.sees c.args.v.now).steps (g.Q.Questions.sees c.find_nodes.new.v).steps c.args.core.now c.args.others c.args.kept c.args.select c.args.sorts c.args.body _
    c.in_err-found.field-0.0 _ c.in_err-found.ensures.found c.from_residual.ensures.1

pub returns-clause-tries : goal.returns-clause-tries
returns-clause-tries g c =
    let m = c.args.core.now in
    let z = scene_of g.S.ItemStream.walks g.S.ItemStream.follows (g.Q.Questions.asked c.args.v.now) (g.Q.Questions.sees c.args.v.now) in
    let before = (g.Q.Questions.sees c.args.v.now).steps in
    let later = (g.Q.Questions.sees c.find_nodes.new.v).steps in
    let found = c.in_ok-found.ensures.found in
    let s = sound_behind g.S.ItemStream.walks g.S.ItemStream.follows c.find_nodes.ensures.kept g.met.S.ItemStream.goes_on c.requires.sound in
    let light = select_light z before later m c.args.others c.args.kept c.args.select c.args.sorts c.args.body c.in_ok-found.found found.there in
    let frame = select_frame c.in_ok-found.found c.args.select c.args.sorts (work.ByBody c.args.body) m.context in
    rw (c.in_ok-lay.ensures, c.in_ok-push.ensures.ok) (record {
      sheet = refl;
      left = λ u x. for_each_moves m.sheet.now u c.args.others c.args.kept m.frames (stand_of m) (state_in m) c.args.select.now c.args.sorts.now c.args.body frame
          (found.left (work.ByBody c.args.body) (most_nested - depth m.frames) (state_in m) u x);
      lighter = omega (arith, light);
      sound = record {
        root = s.root;
        sizes = s.sizes;
        globals = s.globals;
        locals = s.locals;
        context = s.context;
        holds = select_holds z before later m c.args.others c.args.kept c.args.select c.args.sorts c.args.body (f.Body c.args.others false c.args.kept ∷ m.frames) s.context s.holds c.in_ok-found.found found.there;
      };
    })
