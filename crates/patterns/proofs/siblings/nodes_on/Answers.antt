use Rattle.std.proofs.Common.{[], None}
use Rattle.xpath_nodes.proofs.Holding.{there_on}
use Rattle.patterns.proofs.Beside.{says_there}
use Rattle.patterns.proofs.siblings.nodes_on.Goals as goal

pub axis_nodes-requires : goal.axis_nodes-requires
axis_nodes-requires g c = c.requires.0

pub returns-clause-nodes : goal.returns-clause-nodes
returns-clause-nodes g c = says_there c.args.axis c.args.test.now c.args.n c.axis_nodes.result (there_on _ _ c.args.n c.axis_nodes.ensures.moves c.requires)
    (c.axis_nodes.ensures.answers (record { keys = []; id = None }))
