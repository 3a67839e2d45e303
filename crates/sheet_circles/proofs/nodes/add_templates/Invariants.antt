use Rattle.std.proofs.Common.{◌≡◌, ◌++◌, take, map}
use Rattle.sheet_graph.specs.Graph.{template_node}
use Rattle.sheet_circles.proofs.nodes.add_templates.Given as goal

abbrev pub invariant-loop-template : goal.invariant-loop-template
invariant-loop-template l = l.nodes ≡ l.initial.nodes ++ map (template_node l.sheet) (take l.template-index l.template-items)
