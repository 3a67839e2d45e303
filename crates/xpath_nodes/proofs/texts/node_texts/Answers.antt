use Rattle.std.proofs.Common.{◌+◌, ◌++◌, [], ◌∷◌, ap, sym, drop, get_or}
use Rattle.doc_laws.proofs.Moving.{moves_on, moves_none}
use Rattle.key_sources.proofs.Loops.{leaves_start, leaves_same, leaves_on, leaves_stops, leaves_memory, leaves_end}
use Rattle.key_sources.proofs.Saying.{keeps_value, says_exit}
use Rattle.xpath_nodes.proofs.Holding.{each_at, all_on}
use Rattle.xpath_nodes.proofs.Turning.{giving, each_starts, each_turns, each_ends}
use Rattle.xpath_nodes.proofs.texts.node_texts.Goals as goal

pub loop-node-init : goal.loop-node-init
loop-node-init g c = record {
  moved = c.told.ensures;
  joined = all_on _ _ _ c.told.ensures.grows c.requires;
  leaves = λ lookups. leaves_start c.told.ensures (λ R. each_starts (λ n. R.value n) c.args.nodes.now c.new-texts.result c.new-texts.ensures);
}

pub node_text-requires : goal.node_text-requires
node_text-requires g c = each_at _ _ _ c.loop-node.invariant.joined c.loop-node-test.true

pub loop-node-preserved : goal.loop-node-preserved
loop-node-preserved g c =
    let ns = c.args.nodes.now in
    let i = c.loop-node.node-index in
    let texts = c.loop-node.texts in
    record {
      moved = moves_on _ _ _ c.loop-node.invariant.moved c.in_ok-text.ensures.moves;
      joined = all_on _ _ _ c.in_ok-text.ensures.moves.grows c.loop-node.invariant.joined;
      leaves = λ lookups. leaves_same (λ R. ap (giving (λ n. R.value n) (drop (i + 1) ns)) (sym c.in_ok-push.ensures.ok))
          (leaves_on (λ R y. giving (λ n. R.value n) (drop (i + 1) ns) (texts ++ y ∷ [])) (c.loop-node.invariant.leaves lookups) (λ R. each_turns (λ n. R.value n) ns i 0 texts c.loop-node-test.true)
          (keeps_value (get_or ns i 0)) c.in_ok-text.ensures.moves (c.in_ok-text.ensures.answers lookups));
    }

pub returns-in_err-text-clause-moves : goal.returns-in_err-text-clause-moves
returns-in_err-text-clause-moves g c = moves_on _ _ _ c.loop-node.invariant.moved c.in_err-text.ensures.moves

pub returns-in_err-text-clause-answers : goal.returns-in_err-text-clause-answers
returns-in_err-text-clause-answers g c =
    let ns = c.args.nodes.now in
    let i = c.loop-node.node-index in
    let texts = c.loop-node.texts in
    λ lookups. says_exit c.from_residual.result c.from_residual.ensures.1
    (leaves_stops (λ R y. giving (λ n. R.value n) (drop (i + 1) ns) (texts ++ y ∷ [])) (c.loop-node.invariant.leaves lookups) (λ R. each_turns (λ n. R.value n) ns i 0 texts c.loop-node-test.true)
    c.in_err-text.ensures.moves (c.in_err-text.ensures.answers lookups))

pub returns-in_err-push-clause-moves : goal.returns-in_err-push-clause-moves
returns-in_err-push-clause-moves g c = moves_on _ _ _ c.loop-node.invariant.moved c.in_ok-text.ensures.moves

pub returns-in_err-push-clause-answers : goal.returns-in_err-push-clause-answers
returns-in_err-push-clause-answers g c =
    λ lookups. says_exit c.from_residual-in_err-push.result c.from_residual-in_err-push.ensures.1 (leaves_memory (c.loop-node.invariant.leaves lookups) c.in_ok-text.ensures.moves)

pub returns-clause-moves : goal.returns-clause-moves
returns-clause-moves g c = c.loop-node.invariant.moved

pub returns-clause-answers : goal.returns-clause-answers
returns-clause-answers g c = λ lookups. leaves_end (c.loop-node.invariant.leaves lookups) (moves_none _ c.loop-node.invariant.moved.seen)
    (λ R. each_ends (λ n. R.value n) c.args.nodes.now c.loop-node.node-index c.loop-node.texts c.loop-node-test.false)
