use Rattle.std.proofs.Common.{◌≡◌, take, None}
use Rattle.doc_model.specs.Relations.{last_above_from}
use Rattle.doc_model.proofs.axis.parent.Given as goal

abbrev pub invariant-loop-k : goal.invariant-loop-k
invariant-loop-k l = l.found ≡ last_above_from l.depth 0 (take l.k l.rows) None
