use Rattle.std.proofs.Common.{drop}
use Rattle.key_sources.specs.Going.{Went}
use Rattle.key_sources.proofs.Loops.{Leaves}
use Rattle.xpath_laws.specs.Sound.{IsThere}
use Rattle.xpath_meaning.specs.Match.{match_path}
use Rattle.xpath_meaning.specs.Outcome.{some_holds}
use Rattle.patterns.proofs.matching.some_path_matches.Given as goal

abbrev pub invariant-loop-path : goal.invariant-loop-path
invariant-loop-path g l = record {
  went : Went (g.V.NodeView.sees l.fn.view) (g.V.NodeView.sees l.view) (g.K.KeySource.made l.fn.keys) (g.K.KeySource.made l.keys) (g.K.KeySource.fits l.keys);
  there : IsThere (g.V.NodeView.sees l.view).rules (g.V.NodeView.sees l.view).steps l.n;
  leaves : Leaves (g.K.KeySource.made l.fn.keys).lookups (g.V.NodeView.sees l.fn.view) (g.V.NodeView.sees l.view) (λ R. some_holds (λ path. match_path R path l.n) (drop l.path-index l.paths))
      (λ R. some_holds (λ path. match_path R path l.n) l.paths);
}
