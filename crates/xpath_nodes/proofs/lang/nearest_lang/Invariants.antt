use Rattle.std.proofs.Common.{drop}
use Rattle.doc_model.specs.View.{Moves}
use Rattle.xpath_laws.specs.Sound.{Each, IsThere}
use Rattle.xpath_meaning.specs.Functions.{nearest_lang}
use Rattle.key_sources.specs.Going.{Lookups}
use Rattle.key_sources.proofs.Loops.{Leaves}
use Rattle.xpath_nodes.proofs.lang.nearest_lang.Given as goal

abbrev pub invariant-loop-node : goal.invariant-loop-node
invariant-loop-node g l = record {
  moved : Moves (g.V.NodeView.sees l.fn.view) (g.V.NodeView.sees l.view);
  there : Each (IsThere (g.V.NodeView.sees l.view).rules (g.V.NodeView.sees l.view).steps) l.nodes;
  leaves : (lookups : Lookups) → Leaves lookups (g.V.NodeView.sees l.fn.view) (g.V.NodeView.sees l.view) (λ R. nearest_lang R (drop l.node-index l.nodes)) (λ R. nearest_lang R l.nodes);
}
