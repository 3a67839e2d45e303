use Rattle.std.proofs.Common.{drop}
use Rattle.key_sources.specs.Going.{Went}
use Rattle.key_sources.proofs.Loops.{Leaves}
use Rattle.xpath_nodes.specs.Found.{found}
use Rattle.xpath_nodes.proofs.Finding.{finding}
use Rattle.xpath_nodes.proofs.lookups.found_by_ids.Given as goal

abbrev pub invariant-loop-id : goal.invariant-loop-id
invariant-loop-id g l = record {
  went : Went (g.V.NodeView.sees l.fn.view) (g.V.NodeView.sees l.view) (g.K.KeySource.made l.fn.keys) (g.K.KeySource.made l.keys) (g.K.KeySource.fits l.keys);
  leaves : Leaves (g.K.KeySource.made l.fn.keys).lookups (g.V.NodeView.sees l.fn.view) (g.V.NodeView.sees l.view) (λ R. finding (λ id. R.by_id id) (drop l.id-index l.ids) l.nodes)
      (λ R. found R (λ id. R.by_id id) l.ids);
}
