use Rattle.std.proofs.Common.{refl, arith}
use Rattle.engine_core.specs.Standing.{stand_of, state_in}
use Rattle.frame_meaning.proofs.Frames.{close_moves}
use Rattle.engine_frames.proofs.cases.close.Goals as goal

pub returns : goal.returns
returns g c =
    let m = c.args.core.now in
    rw c.in_ok-push.ensures.ok (λ lookups rules steps s. record {
      sheet = refl;
      left = λ u x. close_moves m.sheet.now u m.frames (stand_of m) (state_in m);
      lighter = omega arith;
      sound = record { root = s.root; sizes = s.sizes; globals = s.globals; locals = s.locals; context = s.context; holds = s.holds };
    })
