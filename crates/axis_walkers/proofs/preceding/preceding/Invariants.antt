use Rattle.axis_walkers.proofs.Walks.{IsBefore}
use Rattle.axis_walkers.proofs.preceding.preceding.Given as goal

abbrev pub invariant-walk : goal.invariant-walk
invariant-walk g l = IsBefore (g.V.NodeView.sees l.fn.view) (g.V.NodeView.sees l.view) l.n l.test l.k l.found.met l.found.rows l.up

abbrev pub decreases-walk : goal.decreases-walk
decreases-walk g l = l.k
