use Rattle.doc_model.specs.declared.row.Axis.TheVariants as axis
use Rattle.axis_walkers.proofs.Loops.{Climbs, left_to}
use Rattle.axis_walkers.proofs.ancestors.ancestors.Given as goal

abbrev pub invariant-walk : goal.invariant-walk
invariant-walk g l = Climbs (g.V.NodeView.sees l.fn.view) (g.V.NodeView.sees l.view) l.n axis.Ancestor l.test l.found.met l.found.rows l.up

abbrev pub decreases-walk : goal.decreases-walk
decreases-walk g l = left_to l.up
