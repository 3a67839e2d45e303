use Rattle.std.proofs.Common.{◌≡◌, ◌+◌, ◌++◌, [], ◌∙◌, ap, sym, refl, subst, drop, List, ℕ}
use Rattle.doc_model.specs.Answers.{Known}
use Rattle.doc_laws.proofs.Moving.{moves_none}
use Rattle.xpath_meaning.specs.DocumentOrder.{document_order}
use Rattle.key_sources.specs.Going.{Says}
use Rattle.key_sources.proofs.Loops.{leaves_start, leaves_same, leaves_on, leaves_stops, leaves_end, leaves_memory}
use Rattle.key_sources.proofs.Saying.{keeps_whole, keeps_key, stands_on, went_moves, went_on, says_exit, says_failed}
use Rattle.xpath_laws.proofs.Order.{order_is}
use Rattle.xpath_nodes.proofs.Finding.{finding, find_turns, find_ends, told_key as told}
use Rattle.xpath_nodes.proofs.lookups.found_by_values.Goals as goal

pub returns-in_err-whole-clause-went : goal.returns-in_err-whole-clause-went
returns-in_err-whole-clause-went g c = went_moves (g.met.K.KeySource.goes_on c.args.keys.now) c.in_err-whole.ensures.moves c.requires

pub returns-in_err-whole-clause-answers : goal.returns-in_err-whole-clause-answers
returns-in_err-whole-clause-answers g c =
    says_failed (λ R shut. finding (λ value. R.by_key c.args.key value) c.args.values.now []) c.from_residual.result c.from_residual.ensures.1 (c.in_err-whole.ensures.answers _)

pub loop-value-init : goal.loop-value-init
loop-value-init g c = record {
  went = went_moves (g.met.K.KeySource.goes_on c.args.keys.now) c.in_ok-whole.ensures.moves c.requires;
  leaves = leaves_same (λ R. ap (finding (λ value. R.by_key c.args.key value) c.args.values.now) (sym c.new-nodes.ensures))
      (leaves_on (λ R shut. finding (λ value. R.by_key c.args.key value) c.args.values.now []) (leaves_start (moves_none _ c.requires.seen) (λ R. refl))
      (λ R. refl) keeps_whole c.in_ok-whole.ensures.moves (c.in_ok-whole.ensures.answers _));
}

pub by_key-requires : goal.by_key-requires
by_key-requires g c = c.loop-value.invariant.went.stands

pub returns-in_err-had-clause-went : goal.returns-in_err-had-clause-went
returns-in_err-had-clause-went g c = went_on c.loop-value.invariant.went c.in_err-had.ensures.went

pub returns-in_err-had-clause-answers : goal.returns-in_err-had-clause-answers
returns-in_err-had-clause-answers g c = says_exit c.from_residual-in_err-had.result c.from_residual-in_err-had.ensures.1
    (leaves_stops (λ R y. finding (λ value. R.by_key c.args.key value) (drop (c.loop-value.value-index + 1) c.args.values.now) (c.loop-value.nodes ++ y)) c.loop-value.invariant.leaves
    (λ R. find_turns (λ value. R.by_key c.args.key value) c.args.values.now c.loop-value.value-index c.value-item.result c.loop-value.nodes c.loop-value-test.true c.value-item.is) c.in_err-had.ensures.went.moves
    (told c.loop-value.invariant.went.stays c.as_slice.ensures c.in_err-had.ensures.answers))

pub loop-value-preserved : goal.loop-value-preserved
loop-value-preserved g c = record {
  went = went_on c.loop-value.invariant.went c.in_ok-had.ensures.went;
  leaves = leaves_same (λ R. ap (finding (λ value. R.by_key c.args.key value) (drop (c.loop-value.value-index + 1) c.args.values.now)) (sym c.in_ok-append.ensures.ok))
      (leaves_on (λ R y. finding (λ value. R.by_key c.args.key value) (drop (c.loop-value.value-index + 1) c.args.values.now) (c.loop-value.nodes ++ y)) c.loop-value.invariant.leaves
      (λ R. find_turns (λ value. R.by_key c.args.key value) c.args.values.now c.loop-value.value-index c.value-item.result c.loop-value.nodes c.loop-value-test.true c.value-item.is) (keeps_key c.args.key c.value-item.result) c.in_ok-had.ensures.went.moves
      (told c.loop-value.invariant.went.stays c.as_slice.ensures c.in_ok-had.ensures.answers));
}

pub returns-in_err-append-clause-went : goal.returns-in_err-append-clause-went
returns-in_err-append-clause-went g c = went_on c.loop-value.invariant.went c.in_ok-had.ensures.went

pub returns-in_err-append-clause-answers : goal.returns-in_err-append-clause-answers
returns-in_err-append-clause-answers g c =
    says_exit c.from_residual-in_err-append.result c.from_residual-in_err-append.ensures.1 (leaves_memory c.loop-value.invariant.leaves c.in_ok-had.ensures.went.moves)

pub returns-in_err-nodes-clause-went : goal.returns-in_err-nodes-clause-went
returns-in_err-nodes-clause-went g c = c.loop-value.invariant.went

pub returns-in_err-nodes-clause-answers : goal.returns-in_err-nodes-clause-answers
returns-in_err-nodes-clause-answers g c =
    says_exit c.from_residual-in_err-nodes.result c.from_residual-in_err-nodes.ensures.1 (leaves_memory c.loop-value.invariant.leaves (moves_none _ c.loop-value.invariant.went.moves.seen))

pub returns-clause-went : goal.returns-clause-went
returns-clause-went g c = c.loop-value.invariant.went

pub returns-clause-answers : goal.returns-clause-answers
returns-clause-answers g c = leaves_end c.loop-value.invariant.leaves (moves_none _ c.loop-value.invariant.went.moves.seen)
    (λ R. find_ends (λ value. R.by_key c.args.key value) c.args.values.now c.loop-value.value-index c.loop-value.nodes c.loop-value-test.false
    ∙ ap Known (sym (order_is c.loop-value.nodes c.in_ok-nodes.nodes c.in_ok-nodes.ensures.order c.in_ok-nodes.ensures.members)))
