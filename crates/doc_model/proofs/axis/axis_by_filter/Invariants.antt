use Rattle.std.proofs.Common.{◌≡◌, filter}
use Rattle.doc_model.specs.Axes.{is_on}
use Rattle.doc_model.specs.Relations.{numbers}
use Rattle.doc_model.proofs.axis.axis_by_filter.Given as goal

abbrev pub invariant-loop-k : goal.invariant-loop-k
invariant-loop-k l = l.found.items ≡ filter (is_on l.axis l.rows l.n) (numbers 0 l.k)
