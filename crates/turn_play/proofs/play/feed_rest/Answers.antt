use Rattle.std.proofs.Common.{◌+◌, refl, arith}
use Rattle.line_feeder.specs.declared.fed.Fed.TheVariants as fed
use Rattle.turn_play.proofs.LeaveLemmas.{Asking, leaves_nothing, leaves_join}
use Rattle.turn_play.proofs.play.feed_rest.Goals as goal

pub lines-init : goal.lines-init
lines-init g c =
    let begun = c.fed_lines_are_a_beginning.ensures in
    let law : Asking = record { going = begun.going; later = c.what_was_asked_stays_asked.ensures } in
    (0, leaves_nothing law _ _ _ _ 0 refl c.requires.going refl refl c.requires.holds refl (λ limits told count at. at))

pub lines-preserved : goal.lines-preserved
lines-preserved g c =
    let i = c.lines.invariant in
    (i.0 + 1, leaves_join _ _ _ _ _ _ _ _ _ i.0 1 (i.0 + 1) fed.Line refl i.1 c.in-Line.ensures)

pub lines-smaller : goal.lines-smaller
lines-smaller g c =
    let given = c.in-Line.ensures.given refl in
    let bound = given.1 (omega arith) in
    omega (arith, given.0, bound)

pub returns-in_default-clause-leaves : goal.returns-in_default-clause-leaves
returns-in_default-clause-leaves g c =
    let i = c.lines.invariant in
    (i.0 + 1, leaves_join _ _ _ _ _ _ _ _ _ i.0 1 (i.0 + 1) _ refl i.1 c.feed_one.ensures)
