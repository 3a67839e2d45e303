use Rattle.std.proofs.Common.{◌≡◌, ◌+◌, arith, sym, subst}
use Rattle.document_questions.proofs.Following.{follows_on}
use Rattle.document_questions.proofs.Keeping.{unless_memory}
use Rattle.document_questions.specs.Following.{FollowNodes}
use Rattle.xpath_meaning.specs.Readings.{values_of}
use Rattle.document_questions.proofs.items.Items.next.Goals as goal

pub returns-in_err-item-clause-follows : goal.returns-in_err-item-clause-follows
returns-in_err-item-clause-follows g c =
    let t = g.V.NodeView.sees c.next_node.new.view in
    let lookups = (g.K.KeySource.made c.args.keys.now).lookups in
    let values = values_of c.args.env.now in
    let items = c.args.self.now in
    let same : items.taken + 0 ≡ items.taken = omega arith in
    unless_memory c.from_residual.result
    (follows_on (record items { nodes = c.next_node.new.nodes }) lookups values t.rules t.steps
    (subst (λ k. FollowNodes c.next_node.new.nodes items.context k lookups values t.rules t.steps) same c.in_err-item.ensures.follows))

pub returns-clause-follows : goal.returns-clause-follows
returns-clause-follows g c =
    let t = g.V.NodeView.sees c.next_node.new.view in
    let lookups = (g.K.KeySource.made c.args.keys.now).lookups in
    let values = values_of c.args.env.now in
    let items = c.args.self.now in
    follows_on (record items { nodes = c.next_node.new.nodes; taken = c.counted-self.result }) lookups values t.rules t.steps
    (subst (λ k. FollowNodes c.next_node.new.nodes items.context k lookups values t.rules t.steps) (sym c.counted-self.ensures) c.in_ok-item.ensures.follows)
