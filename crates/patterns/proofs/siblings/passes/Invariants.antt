use Rattle.std.proofs.Common.{drop, map}
use Rattle.key_sources.specs.Going.{Went}
use Rattle.key_sources.proofs.Loops.{Leaves}
use Rattle.xpath_laws.specs.Sound.{Each, IsThere}
use Rattle.xpath_meaning.specs.Evaluation.{meant}
use Rattle.xpath_meaning.specs.Match as meaning
use Rattle.patterns.proofs.siblings.passes.Given as goal

abbrev pub invariant-loop-i : goal.invariant-loop-i
invariant-loop-i g l = record {
  went : Went (g.V.NodeView.sees l.fn.view) (g.V.NodeView.sees l.view) (g.K.KeySource.made l.fn.keys) (g.K.KeySource.made l.keys) (g.K.KeySource.fits l.keys);
  there : IsThere (g.V.NodeView.sees l.view).rules (g.V.NodeView.sees l.view).steps l.n;
  nodes : Each (IsThere (g.V.NodeView.sees l.view).rules (g.V.NodeView.sees l.view).steps) l.left;
  leaves : Leaves (g.K.KeySource.made l.fn.keys).lookups (g.V.NodeView.sees l.fn.view) (g.V.NodeView.sees l.view) (λ R. meaning.passes R l.known l.n (map meant (drop l.i l.predicates)) l.left)
      (λ R. meaning.passes R l.known l.n (map meant l.predicates) l.fn.nodes);
}
