use Rattle.std.proofs.Common.{◌-◌, ◌^◌}
use Rattle.doc_model.specs.Rows.{rows_of}
use Rattle.doc_model.specs.View.{Moves}
use Rattle.strip_rules.proofs.Passing.{Passes}
use Rattle.strip_rules.proofs.siblings.next_shown.Given as goal

abbrev pub invariant-pass : goal.invariant-pass
invariant-pass g l = record {
  moved : Moves (g.V.NodeView.sees l.fn.view) (g.V.NodeView.sees l.view);
  passes : Passes l.rules (rows_of (g.V.NodeView.sees l.view).steps) l.n l.at;
}

abbrev pub decreases-pass : goal.decreases-pass
decreases-pass g l = 2 ^ 32 - l.at
