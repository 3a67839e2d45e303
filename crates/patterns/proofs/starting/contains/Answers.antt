use Rattle.std.proofs.Common.{◌∙◌, sym}
use Rattle.patterns.proofs.Keeping.{member_here, member_on, member_end}
use Rattle.patterns.proofs.starting.contains.Goals as goal

pub returns-then-n-node : goal.returns-then-n-node
returns-then-n-node c = sym (member_here c.args.n c.args.nodes.now c.loop-node.node-index c.loop-node-test.true c.if-n-node.true) ∙ c.loop-node.invariant

pub loop-node-preserved : goal.loop-node-preserved
loop-node-preserved c = sym (member_on c.args.n c.args.nodes.now c.loop-node.node-index c.loop-node-test.true c.if-n-node.false) ∙ c.loop-node.invariant

pub returns : goal.returns
returns c = sym (member_end c.args.n c.args.nodes.now c.loop-node.node-index c.loop-node-test.false) ∙ c.loop-node.invariant
