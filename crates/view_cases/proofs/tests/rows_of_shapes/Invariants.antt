use Rattle.std.proofs.Common.{◌≡◌, vec_len}
use Rattle.view_cases.proofs.tests.rows_of_shapes.Given as goal

abbrev pub invariant-loop-shape : goal.invariant-loop-shape
invariant-loop-shape l = vec_len l.rows ≡ l.shape-index
