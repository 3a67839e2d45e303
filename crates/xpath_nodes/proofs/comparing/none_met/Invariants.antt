use Rattle.std.proofs.Common.{drop}
use Rattle.doc_model.specs.View.{Moves}
use Rattle.key_sources.specs.Going.{Lookups}
use Rattle.key_sources.proofs.Loops.{Leaves}
use Rattle.xpath_nodes.specs.Held.{AllJoined}
use Rattle.xpath_nodes.specs.Pairs.{none_met}
use Rattle.xpath_nodes.proofs.Meeting.{meeting}
use Rattle.xpath_nodes.proofs.comparing.none_met.Given as goal

abbrev pub invariant-loop-node : goal.invariant-loop-node
invariant-loop-node g l = record {
  moved : Moves (g.V.NodeView.sees l.fn.view) (g.V.NodeView.sees l.view);
  joined : AllJoined (g.V.NodeView.sees l.view).steps l.nodes;
  leaves : (lookups : Lookups) → Leaves lookups (g.V.NodeView.sees l.fn.view) (g.V.NodeView.sees l.view) (λ R. meeting l.op R l.a (drop l.node-index l.nodes) l.atoms)
      (λ R. none_met l.op R l.a l.nodes);
}
