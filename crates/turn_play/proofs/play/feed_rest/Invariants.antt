use Rattle.std.proofs.Common.{ℕ, ◌-◌}
use Rattle.line_feeder.specs.declared.fed.Fed.TheVariants as fed
use Rattle.sessions.specs.Standing.{lines_given}
use Rattle.turn_play.specs.Playing.{Leaves}
use Rattle.turn_play.proofs.play.feed_rest.Given as goal

abbrev pub invariant-lines : goal.invariant-lines
invariant-lines g l = (most : ℕ)
    × Leaves l.initial.session l.session (g.S.Source.left l.initial.source) (g.S.Source.left l.source) (g.S.Source.faults l.initial.source) (g.S.Source.faults l.source) most fed.Line

-- each turn but the last feeds a line, which are fewer than 2^32
abbrev pub decreases-lines : goal.decreases-lines
decreases-lines g l = 4294967296 - lines_given l.session
