use Rattle.std.proofs.Common.{◌≡◌, ◌-◌, ◌++◌, filter}
use Rattle.doc_model.specs.declared.row.Kind.TheVariants.{Element}
use Rattle.doc_model.specs.NodeTests.{meets}
use Rattle.doc_model.specs.Relations.{numbers}
use Rattle.doc_model.specs.Rows.{rows_of}
use Rattle.doc_model.specs.View.{Moves}
use Rattle.axis_walkers.specs.Offered.{IsMet, is_plain}
use Rattle.axis_walkers.proofs.selection.Selection.offer_range.Given as goal

abbrev pub invariant-loop-k : goal.invariant-loop-k
invariant-loop-k g l = record {
  moved : Moves (g.V.NodeView.sees l.fn.view) (g.V.NodeView.sees l.view);
  met : IsMet (g.V.NodeView.sees l.view) (meets Element l.test) l.self.met;
  found : l.self.rows ≡ l.fn.self.rows ++ filter (is_plain (g.V.NodeView.sees l.view).rules (rows_of (g.V.NodeView.sees l.view).steps) l.test) (numbers l.from (l.k - l.from));
}
