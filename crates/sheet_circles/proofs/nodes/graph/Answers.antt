use Rattle.sheet_circles.proofs.Graphs.{graph_made}
use Rattle.sheet_circles.proofs.nodes.graph.Goals as goal

pub returns : goal.returns
returns c = graph_made c.args.sheet.now _ _ _ _ _ c.new-nodes.ensures c.in_ok-add_globals.ensures c.in_ok-add_templates.ensures c.in_ok-mode_nodes.ensures c.in_ok-append.ensures.ok
