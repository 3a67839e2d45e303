use Rattle.std.proofs.Common.{◌≡◌, take, map}
use Rattle.std.specs.List.{range_with_len}
use Rattle.sheet_graph.specs.Graph.{mode_count}
use Rattle.sheet_circles.specs.Modes.{node_of}
use Rattle.sheet_circles.proofs.modes.mode_nodes.Given as goal

-- each mode names the templates of the rules that were looked at
abbrev pub invariant-loop-rule : goal.invariant-loop-rule
invariant-loop-rule l = l.nodes ≡ map (node_of l.sheet (take l.rule-index l.rule-items)) (range_with_len 0 (mode_count l.sheet))
