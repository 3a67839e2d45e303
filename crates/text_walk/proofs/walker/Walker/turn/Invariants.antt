use Rattle.doc_model.specs.Rows.{rows_of}
use Rattle.text_walk.specs.Walking.{past_at, IsBehind}
use Rattle.text_walk.proofs.Asked.{HasMoved}
use Rattle.text_walk.proofs.Measure.{left_of}
use Rattle.text_walk.proofs.Reach.{at}
use Rattle.text_walk.proofs.walker.Walker.turn.Given as goal

abbrev pub invariant-loop-view : goal.invariant-loop-view
invariant-loop-view g l = record {
  moved : HasMoved (g.V.NodeView.sees l.fn.view) (g.V.NodeView.sees l.view);
  behind : IsBehind (at l.self-inside.row l.self-inside.down l.self-inside.depth l.self-inside.made) (g.V.NodeView.sees l.view).steps l.into.items;
}

abbrev pub decreases-loop-view : goal.decreases-loop-view
decreases-loop-view g l = left_of (past_at (rows_of (g.V.NodeView.sees l.view).steps) l.self-inside.row l.self-inside.down) l.self-inside.row l.self-inside.down
