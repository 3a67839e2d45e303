use Rattle.doc_model.specs.View.{Moves}
use Rattle.string_values.proofs.Reached.{Reached}
use Rattle.string_values.proofs.value.texts_of.Given as goal

abbrev pub invariant-rows : goal.invariant-rows
invariant-rows g l = record {
  moved : Moves (g.V.NodeView.sees l.fn.view) (g.V.NodeView.sees l.view);
  reached : Reached (g.V.NodeView.sees l.view).rules (g.V.NodeView.sees l.view).steps l.n l.k l.end l.fn.into.items l.into.items;
}
