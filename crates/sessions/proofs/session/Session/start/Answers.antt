use Rattle.std.proofs.Common.{[], sym, ap, subst}
use Rattle.plain_columns.specs.Value.{Table}
use Rattle.line_feeder.specs.Standing as feeding
use Rattle.sessions.proofs.session.Session.start.Goals as goal

pub returns-clause-fed : goal.returns-clause-fed
returns-clause-fed c = λ told.
    subst (λ (it : Table). feeding.HasBeenFed c.in_ok-feeder.feeder it.limits it.cells told told []) (sym c.in-Ok.ensures) (c.in_ok-feeder.ensures.fed told)

pub returns-clause-holds : goal.returns-clause-holds
returns-clause-holds c = record {
  fills = subst (λ (it : Table). feeding.CanFeed c.in_ok-feeder.feeder it.limits it.cells) (sym c.in-Ok.ensures) c.in_ok-feeder.ensures.fills;
  runs = rw (ap (λ (it : Table). it.cells.steps) (sym c.in-Ok.ensures)) at c.in-Ok-start_followers.ensures.behind;
}
