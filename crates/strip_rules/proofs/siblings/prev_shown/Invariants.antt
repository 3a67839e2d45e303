use Rattle.doc_model.specs.Rows.{rows_of}
use Rattle.doc_model.specs.View.{Moves}
use Rattle.strip_rules.proofs.Earlier.{Returns}
use Rattle.strip_rules.proofs.siblings.prev_shown.Given as goal

abbrev pub invariant-back : goal.invariant-back
invariant-back g l = record {
  moved : Moves (g.V.NodeView.sees l.fn.view) (g.V.NodeView.sees l.view);
  returning : Returns l.rules (rows_of (g.V.NodeView.sees l.view).steps) l.n l.at;
}

abbrev pub decreases-back : goal.decreases-back
decreases-back g l = l.at
