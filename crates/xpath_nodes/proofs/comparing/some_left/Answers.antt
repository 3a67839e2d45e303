use Rattle.std.proofs.Common.{◌+◌, ◌∙◌, ap, sym, refl, drop, get_or, Ok, Err, true, false, cond, subst}
use Rattle.doc_model.specs.Answers.{Known}
use Rattle.doc_laws.proofs.Moving.{moves_on, moves_none}
use Rattle.xpath_meaning.specs.Comparisons.{compare_atoms, some_left}
use Rattle.xpath_meaning.specs.Outcome.{◌>>=◌}
use Rattle.key_sources.specs.Going.{Gives}
use Rattle.key_sources.proofs.Loops.{leaves_start, leaves_same, leaves_on, leaves_stops, leaves_fails, leaves_end}
use Rattle.key_sources.proofs.Saying.{says_exit}
use Rattle.xpath_nodes.proofs.Meeting.{left_turns, left_ends}
use Rattle.xpath_nodes.proofs.Holding.{each_at, all_on}
use Rattle.xpath_nodes.proofs.Pairing.{keeps_atom}
use Rattle.xpath_nodes.proofs.comparing.some_left.Goals as goal

pub loop-node-init : goal.loop-node-init
loop-node-init g c = record {
  moved = c.told.ensures;
  joined = all_on _ _ _ c.told.ensures.grows c.requires;
  leaves = λ lookups. leaves_start c.told.ensures (λ R. refl);
}

pub node_atom-requires : goal.node_atom-requires
node_atom-requires g c = each_at _ _ _ c.loop-node.invariant.joined c.loop-node-test.true

pub returns-in_err-a-clause-moves : goal.returns-in_err-a-clause-moves
returns-in_err-a-clause-moves g c = moves_on _ _ _ c.loop-node.invariant.moved c.in_err-a.ensures.moves

pub returns-in_err-a-clause-answers : goal.returns-in_err-a-clause-answers
returns-in_err-a-clause-answers g c = λ lookups. says_exit c.from_residual.result c.from_residual.ensures.1
    (leaves_stops (λ R a. compare_atoms c.args.op a c.args.b.now >>= λ here. cond here (Known true)
    (some_left c.args.op R (drop (c.loop-node.node-index + 1) c.args.nodes.now) c.args.b.now)) (c.loop-node.invariant.leaves lookups)
    (λ R. left_turns c.args.op R c.args.nodes.now c.loop-node.node-index c.args.b.now c.loop-node-test.true) c.in_err-a.ensures.moves (c.in_err-a.ensures.answers lookups))

pub returns-in_err-here-clause-moves : goal.returns-in_err-here-clause-moves
returns-in_err-here-clause-moves g c = moves_on _ _ _ c.loop-node.invariant.moved c.in_ok-a.ensures.moves

pub returns-in_err-here-clause-answers : goal.returns-in_err-here-clause-answers
returns-in_err-here-clause-answers g c = λ lookups. says_exit c.from_residual-in_err-here.result c.from_residual-in_err-here.ensures.1
    (leaves_fails (compare_atoms c.args.op c.in_ok-a.a c.args.b.now) (λ R here. cond here (Known true) (some_left c.args.op R (drop (c.loop-node.node-index + 1) c.args.nodes.now) c.args.b.now))
    (leaves_on (λ R a. compare_atoms c.args.op a c.args.b.now >>= λ here. cond here (Known true)
    (some_left c.args.op R (drop (c.loop-node.node-index + 1) c.args.nodes.now) c.args.b.now)) (c.loop-node.invariant.leaves lookups)
    (λ R. left_turns c.args.op R c.args.nodes.now c.loop-node.node-index c.args.b.now c.loop-node-test.true)
    (keeps_atom (get_or c.args.nodes.now c.loop-node.node-index 0)) c.in_ok-a.ensures.moves (c.in_ok-a.ensures.answers lookups))
    (λ R. refl) (moves_none _ c.in_ok-a.ensures.moves.seen) c.in_err-here.ensures)

pub returns-then-here-clause-moves : goal.returns-then-here-clause-moves
returns-then-here-clause-moves g c = moves_on _ _ _ c.loop-node.invariant.moved c.in_ok-a.ensures.moves

pub returns-then-here-clause-answers : goal.returns-then-here-clause-answers
returns-then-here-clause-answers g c = λ lookups. leaves_end
    (leaves_on (λ R a. compare_atoms c.args.op a c.args.b.now >>= λ here. cond here (Known true)
    (some_left c.args.op R (drop (c.loop-node.node-index + 1) c.args.nodes.now) c.args.b.now)) (c.loop-node.invariant.leaves lookups)
    (λ R. left_turns c.args.op R c.args.nodes.now c.loop-node.node-index c.args.b.now c.loop-node-test.true)
    (keeps_atom (get_or c.args.nodes.now c.loop-node.node-index 0)) c.in_ok-a.ensures.moves (c.in_ok-a.ensures.answers lookups))
    (moves_none _ c.in_ok-a.ensures.moves.seen)
    (λ R. ap (λ o. o >>= λ here. cond here (Known true) (some_left c.args.op R (drop (c.loop-node.node-index + 1) c.args.nodes.now) c.args.b.now)) (c.in_ok-here.ensures ∙ ap Known c.if-here.true))

pub loop-node-preserved : goal.loop-node-preserved
loop-node-preserved g c = record {
  moved = moves_on _ _ _ c.loop-node.invariant.moved c.in_ok-a.ensures.moves;
  joined = all_on _ _ _ c.in_ok-a.ensures.moves.grows c.loop-node.invariant.joined;
  leaves = λ lookups. leaves_same
      (λ R. ap (λ o. o >>= λ here. cond here (Known true) (some_left c.args.op R (drop (c.loop-node.node-index + 1) c.args.nodes.now) c.args.b.now)) (c.in_ok-here.ensures ∙ ap Known c.if-here.false))
      (leaves_on (λ R a. compare_atoms c.args.op a c.args.b.now >>= λ here. cond here (Known true)
      (some_left c.args.op R (drop (c.loop-node.node-index + 1) c.args.nodes.now) c.args.b.now)) (c.loop-node.invariant.leaves lookups)
      (λ R. left_turns c.args.op R c.args.nodes.now c.loop-node.node-index c.args.b.now c.loop-node-test.true)
      (keeps_atom (get_or c.args.nodes.now c.loop-node.node-index 0)) c.in_ok-a.ensures.moves (c.in_ok-a.ensures.answers lookups));
}

pub returns-clause-moves : goal.returns-clause-moves
returns-clause-moves g c = c.loop-node.invariant.moved

pub returns-clause-answers : goal.returns-clause-answers
returns-clause-answers g c = λ lookups. leaves_end (c.loop-node.invariant.leaves lookups) (moves_none _ c.loop-node.invariant.moved.seen)
    (λ R. left_ends c.args.op R c.args.nodes.now c.loop-node.node-index c.args.b.now c.loop-node-test.false)
