use Rattle.std.proofs.Common.{◌≡◌, ◌+◌, true, sym, subst, arith}
use Rattle.std.proofs.lemmas.List.{get_or_read}
use Rattle.doc_model.specs.Rows.{rows_of, row_at}
use Rattle.doc_model.specs.Strip.{is_spelled}
use Rattle.doc_laws.proofs.Growth.{joined_grows}
use Rattle.doc_laws.proofs.Moving.{moves_on}
use Rattle.strip_rules.proofs.Later.{row_later}
use Rattle.strip_rules.proofs.Ruling.{Ruled, ruled_first, ruled_lower, ruled_other, ruled_better, ruled_row, ruled_end, spelled_at}
use Rattle.strip_rules.proofs.rules.best_strips.Goals as goal

pub judge-init : goal.judge-init
judge-init g c = record { moved = c.told.ensures; ruled = ruled_first _ _ }

pub judge-preserved-then-weight-best : goal.judge-preserved-then-weight-best
judge-preserved-then-weight-best g c =
    let e = sym (get_or_read c.args.rules.now c.judge.rule-index c.rule-item.result c.judge-test.true c.rule-item.is c.rule-item.result) in
    record {
      moved = c.judge.invariant.moved;
      ruled =
          ruled_lower _ _ _ _ _ c.rule-item.result c.judge-test.true e c.judge.invariant.ruled (omega (arith, c.weight-weight.ensures, c.if-weight-best.true));
    }

pub fits-requires-clause-joined : goal.fits-requires-clause-joined
fits-requires-clause-joined g c = joined_grows _ _ c.args.n c.judge.invariant.moved.grows c.requires.joined

pub fits-requires-clause-spelled : goal.fits-requires-clause-spelled
fits-requires-clause-spelled g c =
    let rules = c.args.rules.now in
    let e = sym (get_or_read rules c.judge.rule-index c.rule-item.result c.judge-test.true c.rule-item.is c.rule-item.result) in
    subst (λ r. is_spelled r ≡ true) e (spelled_at rules c.judge.rule-index c.rule-item.result c.requires.spelled c.judge-test.true)

pub judge-preserved-then-not-fits : goal.judge-preserved-then-not-fits
judge-preserved-then-not-fits g c =
    let j = joined_grows _ _ c.args.n c.judge.invariant.moved.grows c.requires.joined in
    let e = sym (get_or_read c.args.rules.now c.judge.rule-index c.rule-item.result c.judge-test.true c.rule-item.is c.rule-item.result) in
    let r = ruled_row _ _ _ _ _ _ (row_later _ _ c.args.n c.fits.ensures.moves.grows j) c.judge.invariant.ruled in
    record { moved = moves_on _ _ _ c.judge.invariant.moved c.fits.ensures.moves; ruled = ruled_other _ _ _ _ _ c.rule-item.result c.judge-test.true e r (sym c.if-not-fits.ensures.value) }

pub judge-preserved : goal.judge-preserved
judge-preserved g c =
    let j = joined_grows _ _ c.args.n c.judge.invariant.moved.grows c.requires.joined in
    let e = sym (get_or_read c.args.rules.now c.judge.rule-index c.rule-item.result c.judge-test.true c.rule-item.is c.rule-item.result) in
    let r = ruled_row _ _ _ _ _ _ (row_later _ _ c.args.n c.fits.ensures.moves.grows j) c.judge.invariant.ruled in
    let k = ruled_better _ _ _ _ _ c.rule-item.result c.judge-test.true e r (sym c.if-not-fits.ensures.value) (omega (arith, c.weight-weight.ensures, c.if-weight-best.false)) in
    record {
      moved = moves_on _ _ _ c.judge.invariant.moved c.fits.ensures.moves;
      ruled = subst (λ b. Ruled c.args.rules.now (row_at (rows_of (g.V.NodeView.sees c.fits.new.view).steps) c.args.n) (c.judge.rule-index + 1) c.rule-item.result.strip b)
          (sym c.weight-weight.ensures) k;
    }

pub returns : goal.returns
returns g c = record {
  moves = c.judge.invariant.moved;
  value = ruled_end c.args.rules.now (row_at (rows_of (g.V.NodeView.sees c.judge.view).steps) c.args.n) _ _ _ (omega (arith, c.judge.auto.rule-index-end, c.judge-test.false)) c.judge.invariant.ruled;
}
