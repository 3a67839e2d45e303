use Rattle.doc_model.specs.View.{Moves}
use Rattle.engine_content.proofs.Chains.{Climbed}
use Rattle.engine_content.proofs.climbing.climb.Given as goal

-- the elements below the row that is reached are ended
abbrev pub invariant-climb : goal.invariant-climb
invariant-climb g l = record {
  moved : Moves (g.V.NodeView.sees l.fn.view) (g.V.NodeView.sees l.view);
  climbed : Climbed (g.V.NodeView.sees l.view).steps l.at l.open l.to l.fn.made l.made;
}

abbrev pub decreases-climb : goal.decreases-climb
decreases-climb g l = l.open
