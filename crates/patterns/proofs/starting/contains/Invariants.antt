use Rattle.std.proofs.Common.{◌≡◌, drop}
use Rattle.doc_model.specs.Document.{is_member}
use Rattle.patterns.proofs.starting.contains.Given as goal

abbrev pub invariant-loop-node : goal.invariant-loop-node
invariant-loop-node l = is_member l.n (drop l.node-index l.nodes) ≡ is_member l.n l.nodes
