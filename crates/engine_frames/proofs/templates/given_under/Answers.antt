use Rattle.std.proofs.Common.{◌≡◌, ◌-◌, suc, sym, subst, arith, drop, None}
use Rattle.engine_meaning.specs.Places.{given_as}
use Rattle.frame_meaning.specs.Uses.{givens}
use Rattle.engine_frames.proofs.Names.{found_there}
use Rattle.engine_frames.proofs.templates.given_under.Goals as goal

pub returns-then-is_same_name : goal.returns-then-is_same_name
returns-then-is_same_name c =
    let test = c.loop-at-test.true in
    let within = c.loop-at.invariant.0 in
    let before : c.loop-at.at ≡ suc (c.loop-at.at - 1) = omega (arith, test) in
    sym (found_there c.args.name.now c.args.given.now (c.loop-at.at - 1) c.index-given-at.result (omega (arith, test, within)) c.index-given-at.is
    (subst (λ at. given_as c.args.name.now (givens (drop at c.args.given.now)) ≡ None) before c.loop-at.invariant.1) (sym c.if-is_same_name.ensures))
