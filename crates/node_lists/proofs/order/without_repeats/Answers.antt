use Rattle.std.proofs.Common.{◌++◌, ◌≤◌, length, sym, ap, ◌∙◌, append-nil, arith}
use Rattle.std.proofs.lemmas.List.{drop_all}
use Rattle.node_lists.proofs.Repeats.{unrepeated, sorted_once}
use Rattle.node_lists.proofs.order.without_repeats.Goals as goal

pub returns : goal.returns
returns c =
    let all : length c.args.nodes.now ≤ c.loop-node.node-index = omega (arith, c.loop-node-test.false) in
    sorted_once c.args.nodes.now c.loop-node.ordered c.requires
    (sym (append-nil c.loop-node.ordered)
    ∙ ap (λ ns. c.loop-node.ordered ++ unrepeated c.loop-node.last ns) (sym (drop_all c.loop-node.node-index c.args.nodes.now all))
    ∙ c.loop-node.invariant)
