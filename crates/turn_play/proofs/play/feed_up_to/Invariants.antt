use Rattle.line_feeder.specs.declared.fed.Fed.TheVariants as fed
use Rattle.turn_play.specs.Playing.{Leaves}
use Rattle.turn_play.proofs.play.feed_up_to.Given as goal

abbrev pub invariant-loop : goal.invariant-loop
invariant-loop g l = Leaves l.initial.session l.session (g.S.Source.left l.initial.source) (g.S.Source.left l.source) (g.S.Source.faults l.initial.source)
    (g.S.Source.faults l.source) l.counter fed.Line
