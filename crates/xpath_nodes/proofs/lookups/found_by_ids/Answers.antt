use Rattle.std.proofs.Common.{◌≡◌, ◌+◌, ◌++◌, [], ◌∙◌, ap, sym, refl, subst, drop, List, ℕ}
use Rattle.doc_model.specs.Answers.{Known}
use Rattle.doc_laws.proofs.Moving.{moves_none}
use Rattle.xpath_meaning.specs.DocumentOrder.{document_order}
use Rattle.key_sources.specs.Going.{Says}
use Rattle.key_sources.proofs.Loops.{leaves_start, leaves_same, leaves_on, leaves_stops, leaves_end, leaves_memory}
use Rattle.key_sources.proofs.Saying.{keeps_whole, keeps_id, stands_on, went_moves, went_on, says_exit, says_failed}
use Rattle.xpath_laws.proofs.Order.{order_is}
use Rattle.xpath_nodes.proofs.Finding.{finding, find_turns, find_ends, told_id as told}
use Rattle.xpath_nodes.proofs.lookups.found_by_ids.Goals as goal

pub returns-in_err-whole-clause-went : goal.returns-in_err-whole-clause-went
returns-in_err-whole-clause-went g c = went_moves (g.met.K.KeySource.goes_on c.args.keys.now) c.in_err-whole.ensures.moves c.requires

pub returns-in_err-whole-clause-answers : goal.returns-in_err-whole-clause-answers
returns-in_err-whole-clause-answers g c = says_failed (λ R shut. finding (λ id. R.by_id id) c.args.ids.now []) c.from_residual.result c.from_residual.ensures.1 (c.in_err-whole.ensures.answers _)

pub loop-id-init : goal.loop-id-init
loop-id-init g c = record {
  went = went_moves (g.met.K.KeySource.goes_on c.args.keys.now) c.in_ok-whole.ensures.moves c.requires;
  leaves = leaves_same (λ R. ap (finding (λ id. R.by_id id) c.args.ids.now) (sym c.new-nodes.ensures))
      (leaves_on (λ R shut. finding (λ id. R.by_id id) c.args.ids.now []) (leaves_start (moves_none _ c.requires.seen) (λ R. refl))
      (λ R. refl) keeps_whole c.in_ok-whole.ensures.moves (c.in_ok-whole.ensures.answers _));
}

pub by_id-requires : goal.by_id-requires
by_id-requires g c = c.loop-id.invariant.went.stands

pub returns-in_err-named-clause-went : goal.returns-in_err-named-clause-went
returns-in_err-named-clause-went g c = went_on c.loop-id.invariant.went c.in_err-named.ensures.went

pub returns-in_err-named-clause-answers : goal.returns-in_err-named-clause-answers
returns-in_err-named-clause-answers g c = says_exit c.from_residual-in_err-named.result c.from_residual-in_err-named.ensures.1
    (leaves_stops (λ R y. finding (λ id. R.by_id id) (drop (c.loop-id.id-index + 1) c.args.ids.now) (c.loop-id.nodes ++ y)) c.loop-id.invariant.leaves
    (λ R. find_turns (λ id. R.by_id id) c.args.ids.now c.loop-id.id-index c.id-item.result c.loop-id.nodes c.loop-id-test.true c.id-item.is) c.in_err-named.ensures.went.moves
    (told c.loop-id.invariant.went.stays c.as_slice.ensures c.in_err-named.ensures.answers))

pub loop-id-preserved : goal.loop-id-preserved
loop-id-preserved g c = record {
  went = went_on c.loop-id.invariant.went c.in_ok-named.ensures.went;
  leaves = leaves_same (λ R. ap (finding (λ id. R.by_id id) (drop (c.loop-id.id-index + 1) c.args.ids.now)) (sym c.in_ok-append.ensures.ok))
      (leaves_on (λ R y. finding (λ id. R.by_id id) (drop (c.loop-id.id-index + 1) c.args.ids.now) (c.loop-id.nodes ++ y)) c.loop-id.invariant.leaves
      (λ R. find_turns (λ id. R.by_id id) c.args.ids.now c.loop-id.id-index c.id-item.result c.loop-id.nodes c.loop-id-test.true c.id-item.is)
      (keeps_id c.id-item.result) c.in_ok-named.ensures.went.moves
      (told c.loop-id.invariant.went.stays c.as_slice.ensures c.in_ok-named.ensures.answers));
}

pub returns-in_err-append-clause-went : goal.returns-in_err-append-clause-went
returns-in_err-append-clause-went g c = went_on c.loop-id.invariant.went c.in_ok-named.ensures.went

pub returns-in_err-append-clause-answers : goal.returns-in_err-append-clause-answers
returns-in_err-append-clause-answers g c =
    says_exit c.from_residual-in_err-append.result c.from_residual-in_err-append.ensures.1 (leaves_memory c.loop-id.invariant.leaves c.in_ok-named.ensures.went.moves)

pub returns-in_err-nodes-clause-went : goal.returns-in_err-nodes-clause-went
returns-in_err-nodes-clause-went g c = c.loop-id.invariant.went

pub returns-in_err-nodes-clause-answers : goal.returns-in_err-nodes-clause-answers
returns-in_err-nodes-clause-answers g c =
    says_exit c.from_residual-in_err-nodes.result c.from_residual-in_err-nodes.ensures.1 (leaves_memory c.loop-id.invariant.leaves (moves_none _ c.loop-id.invariant.went.moves.seen))

pub returns-clause-went : goal.returns-clause-went
returns-clause-went g c = c.loop-id.invariant.went

pub returns-clause-answers : goal.returns-clause-answers
returns-clause-answers g c = leaves_end c.loop-id.invariant.leaves (moves_none _ c.loop-id.invariant.went.moves.seen)
    (λ R. find_ends (λ id. R.by_id id) c.args.ids.now c.loop-id.id-index c.loop-id.nodes c.loop-id-test.false
    ∙ ap Known (sym (order_is c.loop-id.nodes c.in_ok-nodes.nodes c.in_ok-nodes.ensures.order c.in_ok-nodes.ensures.members)))
