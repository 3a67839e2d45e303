use Rattle.std.proofs.Common.{◌-◌, ◌^◌, ◌≤◌}
use Rattle.doc_model.specs.declared.row.Axis.TheVariants as axis
use Rattle.doc_model.specs.Relations.{sibling_parent}
use Rattle.doc_model.specs.Rows.{rows_of}
use Rattle.axis_walkers.proofs.Loops.{IsPast}
use Rattle.axis_walkers.proofs.siblings.following_siblings.Given as goal

abbrev pub invariant-walk : goal.invariant-walk
invariant-walk g l = record {
  past : IsPast (g.V.NodeView.sees l.fn.view) (g.V.NodeView.sees l.view) l.n axis.FollowingSibling l.test
      (sibling_parent (rows_of (g.V.NodeView.sees l.fn.view).steps) l.n) l.at l.found.met l.found.rows;
  order : l.n ≤ l.at;
}

abbrev pub decreases-walk : goal.decreases-walk
decreases-walk g l = 2 ^ 32 - l.at
