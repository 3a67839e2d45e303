use Rattle.std.proofs.Common.{◌≡◌, ◌++◌, take, map}
use Rattle.sheet_graph.specs.Graph.{global_node}
use Rattle.sheet_circles.proofs.nodes.add_globals.Given as goal

abbrev pub invariant-loop-global : goal.invariant-loop-global
invariant-loop-global l = l.nodes ≡ l.initial.nodes ++ map (global_node l.sheet) (take l.global-index l.global-items)
