use Rattle.std.proofs.Common.{drop}
use Rattle.doc_model.specs.View.{Moves}
use Rattle.xpath_meaning.specs.Outcome.{each_of}
use Rattle.key_sources.specs.Going.{Lookups}
use Rattle.key_sources.proofs.Loops.{Leaves}
use Rattle.xpath_nodes.specs.Held.{AllJoined}
use Rattle.xpath_nodes.proofs.Turning.{giving}
use Rattle.xpath_nodes.proofs.texts.node_texts.Given as goal

abbrev pub invariant-loop-node : goal.invariant-loop-node
invariant-loop-node g l = record {
  moved : Moves (g.V.NodeView.sees l.fn.view) (g.V.NodeView.sees l.view);
  joined : AllJoined (g.V.NodeView.sees l.view).steps l.nodes;
  leaves : (lookups : Lookups) → Leaves lookups (g.V.NodeView.sees l.fn.view) (g.V.NodeView.sees l.view) (λ R. giving (λ n. R.value n) (drop l.node-index l.nodes) l.texts)
      (λ R. each_of (λ n. R.value n) l.nodes);
}
