use Rattle.std.proofs.Common.{drop, pos}
use Rattle.doc_model.specs.View.{Moves}
use Rattle.whole_num.specs.declared.number.Num.TheVariants.{Whole}
use Rattle.xpath_meaning.specs.Functions.{sum_onto}
use Rattle.key_sources.specs.Going.{Lookups}
use Rattle.key_sources.proofs.Loops.{Leaves}
use Rattle.xpath_nodes.specs.Held.{AllJoined}
use Rattle.xpath_nodes.proofs.sums.sum.Given as goal

abbrev pub invariant-loop-node : goal.invariant-loop-node
invariant-loop-node g l = record {
  moved : Moves (g.V.NodeView.sees l.fn.view) (g.V.NodeView.sees l.view);
  joined : AllJoined (g.V.NodeView.sees l.view).steps l.nodes;
  leaves : (lookups : Lookups) → Leaves lookups (g.V.NodeView.sees l.fn.view) (g.V.NodeView.sees l.view) (λ R. sum_onto R l.total (drop l.node-index l.nodes))
      (λ R. sum_onto R (Whole (pos 0)) l.nodes);
}
