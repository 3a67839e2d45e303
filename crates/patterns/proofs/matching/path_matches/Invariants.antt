use Rattle.std.proofs.Common.{◌+◌, ◌*◌, ◌^◌, ◌≤◌, length, Some}
use Rattle.key_sources.specs.Going.{Went}
use Rattle.key_sources.proofs.Loops.{Leaves}
use Rattle.xpath_meaning.specs.Match.{match_path}
use Rattle.patterns.specs.Places.{PlaceIsThere, AllThere, AllWithin, burden}
use Rattle.patterns.specs.Trials.{gone}
use Rattle.patterns.proofs.matching.path_matches.Given as goal

abbrev pub decreases-search : goal.decreases-search
decreases-search g l = burden l.search.tried l.search.forks * 2 ^ 64 + l.at.steps

abbrev pub invariant-search : goal.invariant-search
invariant-search g l = record {
  went : Went (g.V.NodeView.sees l.fn.view) (g.V.NodeView.sees l.view) (g.K.KeySource.made l.fn.keys) (g.K.KeySource.made l.keys) (g.K.KeySource.fits l.keys);
  there : PlaceIsThere (g.V.NodeView.sees l.view) l.at;
  forks : AllThere (g.V.NodeView.sees l.view) l.search.forks;
  within : l.at.steps ≤ length l.path.parts;
  bounded : AllWithin (length l.path.parts) l.search.forks;
  leaves : Leaves (g.K.KeySource.made l.fn.keys).lookups (g.V.NodeView.sees l.fn.view) (g.V.NodeView.sees l.view) (λ R. gone R l.path l.search.tried l.search.forks (Some l.at))
      (λ R. match_path R l.path l.n);
}
