use Rattle.std.proofs.Common.{◌+◌, refl, sym, arith}
use Rattle.line_feeder.specs.declared.fed.Fed.TheVariants as fed
use Rattle.turn_play.proofs.LeaveLemmas.{Asking, leaves_nothing, leaves_join, leaves_within, leaves_as}
use Rattle.turn_play.proofs.play.feed_up_to.Goals as goal

pub loop-init : goal.loop-init
loop-init g c =
    let begun = c.fed_lines_are_a_beginning.ensures in
    let law : Asking = record { going = begun.going; later = c.what_was_asked_stays_asked.ensures } in
    leaves_nothing law _ _ _ _ 0 refl c.requires.going refl refl c.requires.holds refl (λ limits told count at. at)

pub loop-preserved : goal.loop-preserved
loop-preserved g c =
    leaves_join _ _ _ _ _ _ _ _ _ c.loop.counter 1 _ fed.Line (omega arith) c.loop.invariant c.in-Line.ensures

pub returns-in_default : goal.returns-in_default
returns-in_default g c =
    let all = leaves_join _ _ _ _ _ _ _ _ _ c.loop.counter 1 (c.loop.counter + 1) _ (omega arith) c.loop.invariant c.feed_one.ensures in
    leaves_within _ _ _ _ _ _ _ _ _ c.in_default.not-Line (omega arith) all

pub returns : goal.returns
returns g c = leaves_as _ _ _ _ _ _ c.loop.counter c.args.count fed.Line fed.Line (omega arith) refl c.loop.invariant
