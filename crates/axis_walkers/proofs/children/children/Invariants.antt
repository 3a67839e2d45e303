use Rattle.std.proofs.Common.{◌-◌, ◌^◌, Some}
use Rattle.doc_model.specs.declared.row.Axis.TheVariants as axis
use Rattle.axis_walkers.proofs.Loops.{ComesTo}
use Rattle.axis_walkers.proofs.children.children.Given as goal

abbrev pub invariant-walk : goal.invariant-walk
invariant-walk g l = ComesTo (g.V.NodeView.sees l.fn.view) (g.V.NodeView.sees l.view) l.n axis.Child l.test (Some l.n) l.at l.found.met l.found.rows

abbrev pub decreases-walk : goal.decreases-walk
decreases-walk g l = 2 ^ 32 - l.at
