use Rattle.std.proofs.Common.{drop}
use Rattle.node_lists.proofs.Ascending.{Decides}
use Rattle.node_lists.proofs.order.ascends.Given as goal

abbrev pub invariant-loop-node : goal.invariant-loop-node
invariant-loop-node l = Decides l.fn.nodes l.least (drop l.node-index l.fn.nodes)
