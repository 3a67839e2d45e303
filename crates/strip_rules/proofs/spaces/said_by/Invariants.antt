use Rattle.doc_model.specs.Rows.{rows_of}
use Rattle.doc_model.specs.View.{Moves}
use Rattle.strip_rules.proofs.Spacing.{Saying}
use Rattle.strip_rules.proofs.spaces.said_by.Given as goal

abbrev pub invariant-attributes : goal.invariant-attributes
invariant-attributes g l = record {
  moved : Moves (g.V.NodeView.sees l.fn.view) (g.V.NodeView.sees l.view);
  saying : Saying (rows_of (g.V.NodeView.sees l.view).steps) l.n l.i l.count;
}
