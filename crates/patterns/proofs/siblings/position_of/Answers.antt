use Rattle.std.proofs.Common.{◌≡◌, ◌+◌, ◌∙◌, length, sym, ap, arith}
use Rattle.patterns.proofs.Keeping.{place_here, place_on, place_end}
use Rattle.patterns.proofs.siblings.position_of.Goals as goal

pub returns-then-n-node : goal.returns-then-n-node
returns-then-n-node c = sym (place_here c.args.n c.args.nodes.now c.loop-i.i c.loop-i-test.true c.if-n-node.true) ∙ c.loop-i.invariant

pub loop-i-preserved : goal.loop-i-preserved
loop-i-preserved c = sym (place_on c.args.n c.args.nodes.now c.loop-i.i c.loop-i-test.true c.if-n-node.false) ∙ c.loop-i.invariant

pub returns : goal.returns
returns c =
    let same : length c.args.nodes.now ≡ c.loop-i.i = omega arith in
    ap (λ k. k + 1) same ∙ sym (place_end c.args.n c.args.nodes.now c.loop-i.i c.loop-i-test.false) ∙ c.loop-i.invariant
