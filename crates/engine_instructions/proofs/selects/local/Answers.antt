use Rattle.std.proofs.Common.{reverse}
use Rattle.engine_core.proofs.Asking.{sound_behind}
use Rattle.engine_core.specs.Holding.{scene_of}
use Rattle.engine_core.specs.Standing.{stand_of}
use Rattle.engine_instructions.proofs.Selecting.{local_given, local_holds, local_stops}
use Rattle.engine_instructions.proofs.selects.local.Goals as goal

pub returns-in_err-found-clause-tries : goal.returns-in_err-found-clause-tries
returns-in_err-found-clause-tries g c =
    let z = scene_of g.S.ItemStream.walks g.S.ItemStream.follows (g.Q.Questions.asked c.args.v.now) (g.Q.Questions.sees c.args.v.now) in
    local_stops z (g.Q.Questions.sees c.args.v.now).steps (g.Q.Questions.sees c.find_value.new.v).steps c.args.core.now c.args.others c.args.kept c.args.variable.now _
    c.in_err-found.field-0.0 _ c.in_err-found.ensures.found c.from_residual.ensures.1

pub returns-clause-tries : goal.returns-clause-tries
returns-clause-tries g c =
    let m = c.args.core.now in
    let z = scene_of g.S.ItemStream.walks g.S.ItemStream.follows (g.Q.Questions.asked c.args.v.now) (g.Q.Questions.sees c.args.v.now) in
    let before = (g.Q.Questions.sees c.args.v.now).steps in
    let later = (g.Q.Questions.sees c.find_value.new.v).steps in
    let found = c.in_ok-found.ensures.found in
    let s = sound_behind g.S.ItemStream.walks g.S.ItemStream.follows c.find_value.ensures.kept g.met.S.ItemStream.goes_on c.requires.sound in
    local_given z before later m c.args.others c.args.kept c.args.variable.now c.in_ok-found.found c.give.new.core c.give.result c.find_value.ensures.kept.moves.seen.lawful found
    ((rw c.in_ok-push.ensures.ok at c.give.ensures) _ _ later
    (record {
      root = s.root;
      sizes = s.sizes;
      globals = s.globals;
      locals = s.locals;
      context = s.context;
      holds = λ value. local_holds z later c.args.others c.args.kept m.frames (stand_of m) (reverse m.streams) s.holds value;
    })
    found.there)
