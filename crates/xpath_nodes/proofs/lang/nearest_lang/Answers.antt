use Rattle.std.proofs.Common.{◌≡◌, ◌+◌, ◌∙◌, ap, sym, refl, drop, get_or, Some, None}
use Rattle.doc_model.specs.Answers.{Known}
use Rattle.doc_model.specs.declared.row.Axis.TheVariants as axis
use Rattle.doc_laws.proofs.Moving.{moves_on, moves_none}
use Rattle.xpath_meaning.specs.Conversions.{first_of}
use Rattle.xpath_meaning.specs.Functions.{lang_test, lang_here, nearest_lang}
use Rattle.key_sources.proofs.Loops.{leaves_start, leaves_same, leaves_on, leaves_stops, leaves_end}
use Rattle.key_sources.proofs.Saying.{keeps_axis, keeps_value, says_exit, says_same}
use Rattle.xpath_nodes.proofs.ByView.{any_lookups, axis_held}
use Rattle.xpath_nodes.proofs.Holding.{each_at, there_on, all_there_on, first_there}
use Rattle.xpath_nodes.proofs.Turning.{lang_turns, lang_ends}
use Rattle.xpath_nodes.proofs.lang.nearest_lang.Goals as goal

pub loop-node-init : goal.loop-node-init
loop-node-init g c = record {
  moved = c.told.ensures;
  there = all_there_on _ _ _ c.told.ensures c.requires.there;
  leaves = λ lookups. leaves_start c.told.ensures (λ R. refl);
}

pub axis_nodes-requires : goal.axis_nodes-requires
axis_nodes-requires g c = (each_at _ _ _ c.loop-node.invariant.there c.loop-node-test.true).0

pub returns-in_err-found-clause-moves : goal.returns-in_err-found-clause-moves
returns-in_err-found-clause-moves g c = moves_on _ _ _ c.loop-node.invariant.moved c.in_err-found.ensures.moves

pub returns-in_err-found-clause-answers : goal.returns-in_err-found-clause-answers
returns-in_err-found-clause-answers g c = λ lookups. says_exit c.from_residual.result c.from_residual.ensures.1
    (leaves_stops (λ R found. lang_here R (first_of found) (nearest_lang R (drop (c.loop-node.node-index + 1) c.args.nodes.now))) (c.loop-node.invariant.leaves lookups)
    (λ R. lang_turns R c.args.nodes.now c.loop-node.node-index c.loop-node-test.true) c.in_err-found.ensures.moves
    (says_same (λ R. sym (ap (λ test. R.axis axis.Attribute test (get_or c.args.nodes.now c.loop-node.node-index 0)) c.requires.test)) (c.in_err-found.ensures.answers lookups)))

pub node_text-requires : goal.node_text-requires
node_text-requires g c =
    let t = g.V.NodeView.sees c.axis_nodes.new.view in
    let at = each_at _ _ _ c.loop-node.invariant.there c.loop-node-test.true in
    (first_there t.rules t.steps c.in_ok-found.found c.in-Some.attribute
    (axis_held axis.Attribute c.args.test.now (get_or c.args.nodes.now c.loop-node.node-index 0) (there_on _ _ _ c.in_ok-found.ensures.moves at)
    (c.in_ok-found.ensures.answers any_lookups)) (sym c.in-Some.ensures)).0

pub loop-node-preserved : goal.loop-node-preserved
loop-node-preserved g c = record {
  moved = moves_on _ _ _ c.loop-node.invariant.moved c.in_ok-found.ensures.moves;
  there = all_there_on _ _ _ c.in_ok-found.ensures.moves c.loop-node.invariant.there;
  leaves = λ lookups. leaves_same (λ R. ap (λ first. lang_here R first (nearest_lang R (drop (c.loop-node.node-index + 1) c.args.nodes.now))) (sym c.in_default.ensures))
      (leaves_on (λ R found. lang_here R (first_of found) (nearest_lang R (drop (c.loop-node.node-index + 1) c.args.nodes.now))) (c.loop-node.invariant.leaves lookups)
      (λ R. lang_turns R c.args.nodes.now c.loop-node.node-index c.loop-node-test.true)
      (keeps_axis axis.Attribute lang_test (get_or c.args.nodes.now c.loop-node.node-index 0)) c.in_ok-found.ensures.moves
      (says_same (λ R. sym (ap (λ test. R.axis axis.Attribute test (get_or c.args.nodes.now c.loop-node.node-index 0)) c.requires.test)) (c.in_ok-found.ensures.answers lookups)));
}

pub returns-in_err-text-clause-moves : goal.returns-in_err-text-clause-moves
returns-in_err-text-clause-moves g c = moves_on _ _ _ c.loop-node.invariant.moved (moves_on _ _ _ c.in_ok-found.ensures.moves c.in_err-text.ensures.moves)

pub returns-in_err-text-clause-answers : goal.returns-in_err-text-clause-answers
returns-in_err-text-clause-answers g c = λ lookups. says_exit c.from_residual-in_err-text.result c.from_residual-in_err-text.ensures.1
    (leaves_stops (λ R bytes. Known (Some bytes))
    (leaves_on (λ R found. lang_here R (first_of found) (nearest_lang R (drop (c.loop-node.node-index + 1) c.args.nodes.now))) (c.loop-node.invariant.leaves lookups)
    (λ R. lang_turns R c.args.nodes.now c.loop-node.node-index c.loop-node-test.true)
    (keeps_axis axis.Attribute lang_test (get_or c.args.nodes.now c.loop-node.node-index 0)) c.in_ok-found.ensures.moves
    (says_same (λ R. sym (ap (λ test. R.axis axis.Attribute test (get_or c.args.nodes.now c.loop-node.node-index 0)) c.requires.test)) (c.in_ok-found.ensures.answers lookups)))
    (λ R. ap (λ first. lang_here R first (nearest_lang R (drop (c.loop-node.node-index + 1) c.args.nodes.now))) (sym c.in-Some.ensures)) c.in_err-text.ensures.moves
    (c.in_err-text.ensures.answers lookups))

pub returns-in-Some-clause-moves : goal.returns-in-Some-clause-moves
returns-in-Some-clause-moves g c = moves_on _ _ _ c.loop-node.invariant.moved (moves_on _ _ _ c.in_ok-found.ensures.moves c.in_ok-text.ensures.moves)

pub returns-in-Some-clause-answers : goal.returns-in-Some-clause-answers
returns-in-Some-clause-answers g c = λ lookups. leaves_end
    (leaves_on (λ R bytes. Known (Some bytes))
    (leaves_on (λ R found. lang_here R (first_of found) (nearest_lang R (drop (c.loop-node.node-index + 1) c.args.nodes.now))) (c.loop-node.invariant.leaves lookups)
    (λ R. lang_turns R c.args.nodes.now c.loop-node.node-index c.loop-node-test.true)
    (keeps_axis axis.Attribute lang_test (get_or c.args.nodes.now c.loop-node.node-index 0)) c.in_ok-found.ensures.moves
    (says_same (λ R. sym (ap (λ test. R.axis axis.Attribute test (get_or c.args.nodes.now c.loop-node.node-index 0)) c.requires.test)) (c.in_ok-found.ensures.answers lookups)))
    (λ R. ap (λ first. lang_here R first (nearest_lang R (drop (c.loop-node.node-index + 1) c.args.nodes.now))) (sym c.in-Some.ensures))
    (keeps_value c.in-Some.attribute) c.in_ok-text.ensures.moves (c.in_ok-text.ensures.answers lookups))
    (moves_none _ c.in_ok-text.ensures.moves.seen) (λ R. refl)

pub returns-clause-moves : goal.returns-clause-moves
returns-clause-moves g c = c.loop-node.invariant.moved

pub returns-clause-answers : goal.returns-clause-answers
returns-clause-answers g c = λ lookups. leaves_end (c.loop-node.invariant.leaves lookups) (moves_none _ c.loop-node.invariant.moved.seen)
    (λ R. lang_ends R c.args.nodes.now c.loop-node.node-index c.loop-node-test.false)
