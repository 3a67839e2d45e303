use Rattle.std.proofs.Common.{refl, arith, false, ◌∷◌}
use Rattle.engine_core.specs.Holding.{scene}
use Rattle.engine_core.specs.Standing.{stand_of, state_in}
use Rattle.engine_instructions.proofs.Sounds.{sound_around}
use Rattle.frame_meaning.proofs.Instructions.{comment_moves}
use Rattle.frames.specs.declared.frame.Frame.TheVariants as f
use Rattle.frames.specs.declared.parts.Purpose.TheVariants as purpose
use Rattle.engine_instructions.proofs.apart.comment.Goals as goal

pub returns : goal.returns
returns g c = λ lookups rules steps s.
    let m = c.args.core.now in
    rw (c.in_ok-push_apart.ensures) (record {
      sheet = refl;
      left = λ u x. comment_moves m.sheet.now u c.args.others c.args.kept m.frames (stand_of m) (state_in m) c.args.body;
      lighter = omega arith;
      sound = sound_around (scene g.S.ItemStream.walks g.S.ItemStream.follows lookups rules) steps m s
          (f.Apart m.output purpose.Comment ∷ f.Body c.args.others false c.args.kept ∷ m.frames) _ _ c.args.body s.holds;
    })
