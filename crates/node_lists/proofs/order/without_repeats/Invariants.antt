use Rattle.std.proofs.Common.{◌≡◌, ◌++◌, drop, None}
use Rattle.node_lists.proofs.Repeats.{unrepeated}
use Rattle.node_lists.proofs.order.without_repeats.Given as goal

abbrev pub invariant-loop-node : goal.invariant-loop-node
invariant-loop-node l = l.ordered ++ unrepeated l.last (drop l.node-index l.fn.nodes) ≡ unrepeated None l.fn.nodes
