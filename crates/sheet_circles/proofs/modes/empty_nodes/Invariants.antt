use Rattle.std.proofs.Common.{◌≡◌, map}
use Rattle.std.specs.List.{range_with_len}
use Rattle.sheet_circles.specs.Modes.{empty_node}
use Rattle.sheet_circles.proofs.modes.empty_nodes.Given as goal

abbrev pub invariant-loop : goal.invariant-loop
invariant-loop l = l.nodes ≡ map empty_node (range_with_len 0 l.counter)
