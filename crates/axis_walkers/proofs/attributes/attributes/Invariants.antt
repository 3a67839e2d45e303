use Rattle.axis_walkers.proofs.Walks.{IsAmong}
use Rattle.axis_walkers.proofs.attributes.attributes.Given as goal

abbrev pub invariant-loop-k : goal.invariant-loop-k
invariant-loop-k g l = IsAmong (g.V.NodeView.sees l.fn.view) (g.V.NodeView.sees l.view) l.n l.test l.k l.count l.found.met l.found.rows
