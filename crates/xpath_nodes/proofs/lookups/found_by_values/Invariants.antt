use Rattle.std.proofs.Common.{drop}
use Rattle.key_sources.specs.Going.{Went}
use Rattle.key_sources.proofs.Loops.{Leaves}
use Rattle.xpath_nodes.specs.Found.{found}
use Rattle.xpath_nodes.proofs.Finding.{finding}
use Rattle.xpath_nodes.proofs.lookups.found_by_values.Given as goal

abbrev pub invariant-loop-value : goal.invariant-loop-value
invariant-loop-value g l = record {
  went : Went (g.V.NodeView.sees l.fn.view) (g.V.NodeView.sees l.view) (g.K.KeySource.made l.fn.keys) (g.K.KeySource.made l.keys) (g.K.KeySource.fits l.keys);
  leaves : Leaves (g.K.KeySource.made l.fn.keys).lookups (g.V.NodeView.sees l.fn.view) (g.V.NodeView.sees l.view)
      (λ R. finding (λ value. R.by_key l.key value) (drop l.value-index l.values) l.nodes) (λ R. found R (λ value. R.by_key l.key value) l.values);
}
