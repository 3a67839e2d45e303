use Rattle.std.proofs.Common.{◌+◌, drop}
use Rattle.key_sources.specs.Going.{Went}
use Rattle.key_sources.proofs.Loops.{Leaves}
use Rattle.xpath_laws.specs.Sound.{Each, IsThere}
use Rattle.xpath_meaning.specs.Evaluation.{meant}
use Rattle.xpath_meaning.specs.Match as meaning
use Rattle.xpath_meaning.specs.Outcome.{kept_from}
use Rattle.patterns.proofs.Keeping.{keeping}
use Rattle.patterns.proofs.siblings.kept_by.Given as goal

abbrev pub invariant-loop-i : goal.invariant-loop-i
invariant-loop-i g l = record {
  went : Went (g.V.NodeView.sees l.fn.view) (g.V.NodeView.sees l.view) (g.K.KeySource.made l.fn.keys) (g.K.KeySource.made l.keys) (g.K.KeySource.fits l.keys);
  nodes : Each (IsThere (g.V.NodeView.sees l.view).rules (g.V.NodeView.sees l.view).steps) l.nodes;
  kept : Each (IsThere (g.V.NodeView.sees l.view).rules (g.V.NodeView.sees l.view).steps) l.kept;
  leaves : Leaves (g.K.KeySource.made l.fn.keys).lookups (g.V.NodeView.sees l.fn.view) (g.V.NodeView.sees l.view)
      (λ R. keeping (l.i + 1) (meaning.says R l.size (meant l.predicate)) (drop l.i l.nodes) l.kept) (λ R. kept_from 1 (meaning.says R l.size (meant l.predicate)) l.nodes);
}
