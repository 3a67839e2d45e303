use Rattle.doc_model.specs.View.{Moves}
use Rattle.engine_content.proofs.Reaching.{Reached}
use Rattle.engine_content.proofs.copying.copy_below.Given as goal

-- the events so far and those of the rows from row k on are those of all rows
abbrev pub invariant-rows : goal.invariant-rows
invariant-rows g l = record {
  moved : Moves (g.V.NodeView.sees l.fn.view) (g.V.NodeView.sees l.view);
  reached : Reached (g.V.NodeView.sees l.view).rules (g.V.NodeView.sees l.view).steps l.n l.at l.k l.end l.fn.made l.made;
}
