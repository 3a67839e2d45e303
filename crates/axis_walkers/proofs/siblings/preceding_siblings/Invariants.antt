use Rattle.doc_model.specs.declared.row.Axis.TheVariants as axis
use Rattle.axis_walkers.proofs.Loops.{Backs, left_to}
use Rattle.axis_walkers.proofs.siblings.preceding_siblings.Given as goal

abbrev pub invariant-walk : goal.invariant-walk
invariant-walk g l = Backs (g.V.NodeView.sees l.fn.view) (g.V.NodeView.sees l.view) l.n axis.PrecedingSibling l.test l.found.met l.found.rows l.up

abbrev pub decreases-walk : goal.decreases-walk
decreases-walk g l = left_to l.up
