use Rattle.std.proofs.Common.{◌≡◌, drop}
use Rattle.doc_model.specs.Rows.{row_at, rows_of}
use Rattle.key_sources.specs.Going.{Went}
use Rattle.key_sources.proofs.Loops.{Leaves}
use Rattle.rule_choice.specs.Choice.{first_that}
use Rattle.xpath_laws.specs.Sound.{IsThere}
use Rattle.rule_index.specs.Applying.{applies}
use Rattle.rule_index.proofs.choosing.first_that_applies.Given as goal

abbrev pub invariant-loop-place : goal.invariant-loop-place
invariant-loop-place g l = record {
  went : Went (g.V.NodeView.sees l.fn.view) (g.V.NodeView.sees l.view) (g.K.KeySource.made l.fn.keys) (g.K.KeySource.made l.keys) (g.K.KeySource.fits l.keys);
  there : IsThere (g.V.NodeView.sees l.view).rules (g.V.NodeView.sees l.view).steps l.n;
  named : l.local ≡ (row_at (rows_of (g.V.NodeView.sees l.view).steps) l.n).local;
  leaves : Leaves (g.K.KeySource.made l.fn.keys).lookups (g.V.NodeView.sees l.fn.view) (g.V.NodeView.sees l.view) (λ R. first_that (applies R l.rules l.mode l.n) (drop l.place-index l.places))
      (λ R. first_that (applies R l.rules l.mode l.n) l.places);
}
