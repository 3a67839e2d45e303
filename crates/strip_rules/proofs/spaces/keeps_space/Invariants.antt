use Rattle.doc_model.specs.Rows.{rows_of}
use Rattle.doc_model.specs.View.{Moves}
use Rattle.strip_rules.proofs.Spacing.{Keeping}
use Rattle.strip_rules.proofs.spaces.keeps_space.Given as goal

abbrev pub invariant-up : goal.invariant-up
invariant-up g l = record {
  moved : Moves (g.V.NodeView.sees l.fn.view) (g.V.NodeView.sees l.view);
  keeping : Keeping (rows_of (g.V.NodeView.sees l.view).steps) l.n l.at;
}

abbrev pub decreases-up : goal.decreases-up
decreases-up g l = l.at
