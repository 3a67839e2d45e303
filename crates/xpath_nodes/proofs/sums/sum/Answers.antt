use Rattle.std.proofs.Common.{◌+◌, ◌∙◌, ap, sym, refl, drop, get_or, Ok, Err}
use Rattle.doc_laws.proofs.Moving.{moves_on, moves_none}
use Rattle.whole_num.specs.Number.{sum_of}
use Rattle.xpath_meaning.specs.Functions.{sum_onto}
use Rattle.xpath_meaning.specs.Outcome.{◌>>=◌, calculated}
use Rattle.key_sources.proofs.Loops.{leaves_start, leaves_same, leaves_on, leaves_stops, leaves_fails, leaves_end}
use Rattle.key_sources.proofs.Saying.{says_exit}
use Rattle.xpath_nodes.proofs.Holding.{each_at, all_on}
use Rattle.xpath_nodes.proofs.Turning.{keeps_number, given_by, sum_turns, sum_ends}
use Rattle.xpath_nodes.proofs.sums.sum.Goals as goal

pub loop-node-init : goal.loop-node-init
loop-node-init g c = record {
  moved = c.told.ensures;
  joined = all_on _ _ _ c.told.ensures.grows c.requires;
  leaves = λ lookups. leaves_start c.told.ensures (λ R. refl);
}

pub node_number-requires : goal.node_number-requires
node_number-requires g c = each_at _ _ _ c.loop-node.invariant.joined c.loop-node-test.true

pub returns-in_err-number-clause-moves : goal.returns-in_err-number-clause-moves
returns-in_err-number-clause-moves g c = moves_on _ _ _ c.loop-node.invariant.moved c.in_err-number.ensures.moves

pub returns-in_err-number-clause-answers : goal.returns-in_err-number-clause-answers
returns-in_err-number-clause-answers g c = λ lookups. says_exit c.from_residual.result c.from_residual.ensures.1
    (leaves_stops (λ R x. calculated (sum_of c.loop-node.total x) >>= λ more. sum_onto R more (drop (c.loop-node.node-index + 1) c.args.nodes.now)) (c.loop-node.invariant.leaves lookups)
    (λ R. sum_turns R c.args.nodes.now c.loop-node.node-index c.loop-node.total c.loop-node-test.true) c.in_err-number.ensures.moves (c.in_err-number.ensures.answers lookups))

pub returns-in_err-total-clause-moves : goal.returns-in_err-total-clause-moves
returns-in_err-total-clause-moves g c = moves_on _ _ _ c.loop-node.invariant.moved c.in_ok-number.ensures.moves

pub returns-in_err-total-clause-answers : goal.returns-in_err-total-clause-answers
returns-in_err-total-clause-answers g c = λ lookups. says_exit c.from_residual-in_err-total.result c.from_residual-in_err-total.ensures.1
    (leaves_fails (calculated (sum_of c.loop-node.total c.in_ok-number.number)) (λ R more. sum_onto R more (drop (c.loop-node.node-index + 1) c.args.nodes.now))
    (leaves_on (λ R x. calculated (sum_of c.loop-node.total x) >>= λ more. sum_onto R more (drop (c.loop-node.node-index + 1) c.args.nodes.now)) (c.loop-node.invariant.leaves lookups)
    (λ R. sum_turns R c.args.nodes.now c.loop-node.node-index c.loop-node.total c.loop-node-test.true)
    (keeps_number (get_or c.args.nodes.now c.loop-node.node-index 0)) c.in_ok-number.ensures.moves (c.in_ok-number.ensures.answers lookups))
    (λ R. refl) (moves_none _ c.in_ok-number.ensures.moves.seen) (given_by c.add.ensures.value (Err c.in_err-total.field-0.0) c.in_err-total.ensures))

pub loop-node-preserved : goal.loop-node-preserved
loop-node-preserved g c = record {
  moved = moves_on _ _ _ c.loop-node.invariant.moved c.in_ok-number.ensures.moves;
  joined = all_on _ _ _ c.in_ok-number.ensures.moves.grows c.loop-node.invariant.joined;
  leaves = λ lookups. leaves_same
      (λ R. ap (λ o. o >>= λ more. sum_onto R more (drop (c.loop-node.node-index + 1) c.args.nodes.now)) (given_by c.add.ensures.value (Ok c.in_ok-total.total) c.in_ok-total.ensures))
      (leaves_on (λ R x. calculated (sum_of c.loop-node.total x) >>= λ more. sum_onto R more (drop (c.loop-node.node-index + 1) c.args.nodes.now)) (c.loop-node.invariant.leaves lookups)
      (λ R. sum_turns R c.args.nodes.now c.loop-node.node-index c.loop-node.total c.loop-node-test.true)
      (keeps_number (get_or c.args.nodes.now c.loop-node.node-index 0)) c.in_ok-number.ensures.moves (c.in_ok-number.ensures.answers lookups));
}

pub returns-clause-moves : goal.returns-clause-moves
returns-clause-moves g c = c.loop-node.invariant.moved

pub returns-clause-answers : goal.returns-clause-answers
returns-clause-answers g c = λ lookups. leaves_end (c.loop-node.invariant.leaves lookups) (moves_none _ c.loop-node.invariant.moved.seen)
    (λ R. sum_ends R c.args.nodes.now c.loop-node.node-index c.loop-node.total c.loop-node-test.false)
