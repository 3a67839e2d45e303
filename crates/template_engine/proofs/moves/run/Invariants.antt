use Rattle.std.proofs.Common.{◌≡◌}
use Rattle.engine_core.specs.Holding.{Sound, scene_of, world_at}
use Rattle.engine_core.specs.Standing.{left_of, measure}
use Rattle.engine_laws.specs.Growing.{Continues}
use Rattle.engine_meaning.specs.Places.{World}
use Rattle.engine_questions.specs.Asking.{Kept}
use Rattle.template_engine.proofs.moves.run.Given as goal

abbrev pub invariant-loop : goal.invariant-loop
invariant-loop g l =
    let sees = g.Q.Questions.sees in
    let asked = g.Q.Questions.asked in
    let z = scene_of g.S.ItemStream.walks g.S.ItemStream.follows (asked l.fn.v) (sees l.fn.v) in
    record {
      kept : Kept (sees l.fn.v) (sees l.v) (asked l.fn.v) (asked l.v) (g.Q.Questions.fits l.v);
      rules : (asked l.v).rules ≡ l.core.sheet.now.rules;
      sheet : l.core.sheet ≡ l.fn.core.sheet;
      sound : Sound z (sees l.v).steps l.core.frames l.core;
      left : (u : World) → Continues (world_at z (sees l.v).steps) u → left_of l.fn.core u ≡ left_of l.core u;
    }

abbrev pub decreases-loop : goal.decreases-loop
decreases-loop g l = measure l.core
