use Rattle.std.proofs.Common.{◌≡◌, ◌+◌, drop}
use Rattle.doc_model.specs.Relations.{deeper, extent_of}
use Rattle.doc_model.proofs.axis.extent.Given as goal

abbrev pub invariant-loop-k : goal.invariant-loop-k
invariant-loop-k l = extent_of l.rows l.n ≡ l.k + deeper l.depth (drop l.k l.rows)
