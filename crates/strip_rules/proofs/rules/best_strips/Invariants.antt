use Rattle.doc_model.specs.Rows.{rows_of, row_at}
use Rattle.doc_model.specs.View.{Moves}
use Rattle.strip_rules.proofs.Ruling.{Ruled}
use Rattle.strip_rules.proofs.rules.best_strips.Given as goal

abbrev pub invariant-judge : goal.invariant-judge
invariant-judge g l = record {
  moved : Moves (g.V.NodeView.sees l.fn.view) (g.V.NodeView.sees l.view);
  ruled : Ruled l.rules (row_at (rows_of (g.V.NodeView.sees l.view).steps) l.n) l.rule-index l.strip l.best;
}
