use Rattle.std.proofs.Common.{subst, sym}
use Rattle.plain_columns.specs.Value.{Table}
use Rattle.line_feeder.specs.Standing.{CanFeed}
use Rattle.value_costs.proofs.copies.document.Goals as goal

pub feed_lines-requires : goal.feed_lines-requires
feed_lines-requires c = subst (λ (it : Table). CanFeed c.in_ok-feeder.feeder it.limits it.cells) (sym c.in-Ok.ensures) c.in_ok-feeder.ensures.fills
