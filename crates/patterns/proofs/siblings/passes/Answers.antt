use Rattle.std.proofs.Common.{◌+◌, ◌∙◌, refl, ap, sym, subst, drop, map, false, cond}
use Rattle.doc_model.specs.Answers.{Known}
use Rattle.doc_model.specs.Document.{is_member}
use Rattle.doc_laws.proofs.Moving.{moves_none}
use Rattle.key_sources.proofs.Loops.{leaves_start, leaves_same, leaves_on, leaves_stops, leaves_end}
use Rattle.key_sources.proofs.Saying.{went_moves, went_on, says_exit, says_same}
use Rattle.xpath_laws.specs.Sound.{Each, IsThere}
use Rattle.xpath_meaning.specs.Evaluation.{meant}
use Rattle.xpath_meaning.specs.Match.{passes}
use Rattle.xpath_nodes.proofs.Holding.{there_on, all_there_on}
use Rattle.patterns.proofs.Beside.{last_passes, next_passes}
use Rattle.patterns.proofs.Keeping.{passes_end}
use Rattle.patterns.proofs.Lasting.{keeps_kept, told}
use Rattle.patterns.proofs.siblings.passes.Goals as goal

pub loop-i-init : goal.loop-i-init
loop-i-init g c = record {
  went = went_moves (g.met.K.KeySource.goes_on c.args.keys.now) c.told.ensures c.requires.stands;
  there = there_on _ _ c.args.n c.told.ensures c.requires.there;
  nodes = all_there_on _ _ c.args.nodes c.told.ensures c.requires.nodes;
  leaves = leaves_start c.told.ensures (λ R. refl);
}

pub says-requires-clause-stands : goal.says-requires-clause-stands
says-requires-clause-stands g c = c.loop-i.invariant.went.stands

pub returns-then-last-clause-went : goal.returns-then-last-clause-went
returns-then-last-clause-went g c = went_on c.loop-i.invariant.went c.says.ensures.went

pub returns-then-last-clause-answers : goal.returns-then-last-clause-answers
returns-then-last-clause-answers g c = c.loop-i.invariant.leaves.rest _ _ c.says.ensures.went.moves
    (says_same
    (λ R. last_passes R c.args.known c.args.n c.args.predicates.now c.loop-i.i c.index-predicates-i.result c.loop-i.left c.as_slice-among.result.now c.size_of-size.result c.position_of-position.result
    c.if-last.true c.index-predicates-i.is
    c.as_slice-among.ensures c.size_of-size.ensures c.position_of-position.ensures)
    (told c.loop-i.invariant.went.stays c.says.ensures.answers))

pub kept_by-requires-clause-stands : goal.kept_by-requires-clause-stands
kept_by-requires-clause-stands g c = c.loop-i.invariant.went.stands

pub kept_by-requires-clause-nodes : goal.kept_by-requires-clause-nodes
kept_by-requires-clause-nodes g c =
    let s = g.V.NodeView.sees c.loop-i.view in
    subst (Each (IsThere s.rules s.steps)) (sym c.as_slice-among.ensures) c.loop-i.invariant.nodes

pub returns-in_err-kept-clause-went : goal.returns-in_err-kept-clause-went
returns-in_err-kept-clause-went g c = went_on c.loop-i.invariant.went c.in_err-kept.ensures.went

pub returns-in_err-kept-clause-answers : goal.returns-in_err-kept-clause-answers
returns-in_err-kept-clause-answers g c = says_exit c.from_residual.result c.from_residual.ensures.1
    (leaves_stops (λ R kept. cond (is_member c.args.n kept) (passes R c.args.known c.args.n (map meant (drop (c.loop-i.i + 1) c.args.predicates.now)) kept) (Known false)) c.loop-i.invariant.leaves
    (λ R. next_passes R c.args.known c.args.n c.args.predicates.now c.loop-i.i c.index-predicates-i.result c.loop-i.left c.as_slice-among.result.now c.size_of-size.result c.loop-i-test.true
    c.if-last.false c.index-predicates-i.is c.as_slice-among.ensures
    c.size_of-size.ensures)
    c.in_err-kept.ensures.went.moves (told c.loop-i.invariant.went.stays c.in_err-kept.ensures.answers))

pub returns-then-not-contains-clause-went : goal.returns-then-not-contains-clause-went
returns-then-not-contains-clause-went g c = went_on c.loop-i.invariant.went c.in_ok-kept.ensures.went

pub returns-then-not-contains-clause-answers : goal.returns-then-not-contains-clause-answers
returns-then-not-contains-clause-answers g c = leaves_end
    (leaves_on (λ R kept. cond (is_member c.args.n kept) (passes R c.args.known c.args.n (map meant (drop (c.loop-i.i + 1) c.args.predicates.now)) kept) (Known false)) c.loop-i.invariant.leaves
    (λ R. next_passes R c.args.known c.args.n c.args.predicates.now c.loop-i.i c.index-predicates-i.result c.loop-i.left c.as_slice-among.result.now c.size_of-size.result c.loop-i-test.true
    c.if-last.false c.index-predicates-i.is c.as_slice-among.ensures
    c.size_of-size.ensures)
    (keeps_kept c.size_of-size.result c.index-predicates-i.result c.as_slice-among.result.now) c.in_ok-kept.ensures.went.moves (told c.loop-i.invariant.went.stays c.in_ok-kept.ensures.answers))
    (moves_none _ c.in_ok-kept.ensures.went.moves.seen)
    (λ R. ap (λ here. cond here (passes R c.args.known c.args.n (map meant (drop (c.loop-i.i + 1) c.args.predicates.now)) c.in_ok-kept.kept) (Known false))
    (ap (is_member c.args.n) (sym c.as_slice.ensures) ∙ sym c.if-not-contains.ensures))

pub loop-i-preserved : goal.loop-i-preserved
loop-i-preserved g c = record {
  went = went_on c.loop-i.invariant.went c.in_ok-kept.ensures.went;
  there = there_on _ _ c.args.n c.in_ok-kept.ensures.went.moves c.loop-i.invariant.there;
  nodes = c.in_ok-kept.ensures.kept;
  leaves = leaves_same
      (λ R. ap (λ here. cond here (passes R c.args.known c.args.n (map meant (drop (c.loop-i.i + 1) c.args.predicates.now)) c.in_ok-kept.kept) (Known false))
      (ap (is_member c.args.n) (sym c.as_slice.ensures) ∙ sym c.if-not-contains.ensures))
      (leaves_on (λ R kept. cond (is_member c.args.n kept) (passes R c.args.known c.args.n (map meant (drop (c.loop-i.i + 1) c.args.predicates.now)) kept) (Known false)) c.loop-i.invariant.leaves
      (λ R. next_passes R c.args.known c.args.n c.args.predicates.now c.loop-i.i c.index-predicates-i.result c.loop-i.left c.as_slice-among.result.now c.size_of-size.result c.loop-i-test.true
      c.if-last.false c.index-predicates-i.is
      c.as_slice-among.ensures c.size_of-size.ensures)
      (keeps_kept c.size_of-size.result c.index-predicates-i.result c.as_slice-among.result.now) c.in_ok-kept.ensures.went.moves (told c.loop-i.invariant.went.stays c.in_ok-kept.ensures.answers));
}

pub returns-clause-went : goal.returns-clause-went
returns-clause-went g c = c.loop-i.invariant.went

pub returns-clause-answers : goal.returns-clause-answers
returns-clause-answers g c = leaves_end c.loop-i.invariant.leaves (moves_none _ c.loop-i.invariant.went.moves.seen)
    (λ R. passes_end R c.args.known c.args.n c.args.predicates.now c.loop-i.i c.loop-i.left c.loop-i-test.false)
