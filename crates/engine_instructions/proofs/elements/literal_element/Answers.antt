use Rattle.std.proofs.Common.{refl, arith}
use Rattle.engine_core.specs.Holding.{scene}
use Rattle.engine_core.specs.Standing.{stand_of, state_in}
use Rattle.engine_instructions.proofs.Sounds.{sound_with}
use Rattle.frame_meaning.proofs.Instructions.{element_moves}
use Rattle.engine_instructions.proofs.elements.literal_element.Goals as goal

pub returns : goal.returns
returns g c = λ lookups rules steps s.
    let m = c.args.core.now in
    rw (c.in_ok-push-3.ensures.ok, c.in_ok-push-2.ensures.ok, c.in_ok-push.ensures.ok, c.in_ok-name.ensures) (record {
      sheet = refl;
      left = λ u x. element_moves m.sheet.now u c.args.others c.args.kept m.frames (stand_of m) (state_in m) c.args.name.now c.args.attributes c.args.body;
      lighter = omega (arith, c.well_formed.1.1.1.0);
      sound = sound_with (scene g.S.ItemStream.walks g.S.ItemStream.follows lookups rules) steps m s _ _ _ s.holds;
    })
