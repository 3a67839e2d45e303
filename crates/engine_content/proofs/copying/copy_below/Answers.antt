use Rattle.std.proofs.Common.{◌+◌, refl, sym, ◌∙◌, subst, arith}
use Rattle.std.proofs.lemmas.Result.{on_ok_weaker}
use Rattle.doc_laws.proofs.Moving.{moves_on}
use Rattle.engine_content.proofs.Reaching.{Reached, reached_first, reached_joined, reached_later, reached_on, reached_around, reached_at, reached_end}
use Rattle.engine_content.proofs.copying.copy_below.Goals as goal

pub rows-init : goal.rows-init
rows-init g c =
    let new = g.V.NodeView.sees c.told.new.self in
    let old = (g.V.NodeView.sees c.args.view.now).steps in
    record {
      moved = c.told.ensures;
      reached = reached_later new.rules old new.steps c.args.n c.args.n (c.args.n + 1) c.args.end c.args.made.now c.args.made.now c.told.ensures.grows c.told.ensures.seen.lawful
          (reached_first new.rules old c.args.n (c.args.n + 1) c.args.end c.args.made.now c.requires.joined refl c.requires.shut c.requires.end);
    }

pub copy_row-requires-clause-joined : goal.copy_row-requires-clause-joined
copy_row-requires-clause-joined g c = reached_joined _ _ _ _ _ _ _ _ c.rows.invariant.reached c.rows-test.true

pub copy_row-requires-clause-holds : goal.copy_row-requires-clause-holds
copy_row-requires-clause-holds g c = c.rows.invariant.reached.innermost

pub copy_row-requires-clause-later : goal.copy_row-requires-clause-later
copy_row-requires-clause-later g c = c.rows.invariant.reached.before

pub rows-preserved : goal.rows-preserved
rows-preserved g c =
    let m = c.copy_row.ensures.moves in
    let before = g.V.NodeView.sees c.rows.view in
    let new = g.V.NodeView.sees c.copy_row.new.view in
    let r = reached_later before.rules before.steps new.steps c.args.n c.rows.at c.rows.k c.args.end c.args.made.now c.rows.made m.grows m.seen.lawful c.rows.invariant.reached in
    let s = subst (λ rs. Reached rs new.steps c.args.n c.rows.at c.rows.k c.args.end c.args.made.now c.rows.made) (sym m.rules_stay) r in
    record {
      moved = moves_on _ _ _ c.rows.invariant.moved m;
      reached = reached_on new.rules new.steps c.args.n c.rows.at c.rows.k c.args.end c.in_ok-at.at c.args.made.now c.rows.made c.copy_row.new.made s c.rows-test.true c.in_ok-at.ensures.value c.in_ok-at.ensures.depth c.in_ok-at.ensures.holds;
    }

pub returns-in_err-at-clause-moves : goal.returns-in_err-at-clause-moves
returns-in_err-at-clause-moves g c = moves_on _ _ _ c.rows.invariant.moved c.copy_row.ensures.moves

pub climb-requires-clause-joined : goal.climb-requires-clause-joined
climb-requires-clause-joined g c = reached_at _ _ _ _ _ _ _ _ c.rows.invariant.reached

pub climb-requires-clause-around : goal.climb-requires-clause-around
climb-requires-clause-around g c = reached_around _ _ _ _ _ _ _ _ c.rows.invariant.reached

pub returns-clause-moves : goal.returns-clause-moves
returns-clause-moves g c = moves_on _ _ _ c.rows.invariant.moved c.climb.ensures.moves

pub returns-clause-value : goal.returns-clause-value
returns-clause-value g c =
    let m = c.climb.ensures.moves in
    let before = g.V.NodeView.sees c.rows.view in
    let new = g.V.NodeView.sees c.climb.new.view in
    let r = reached_later before.rules before.steps new.steps c.args.n c.rows.at c.rows.k c.args.end c.args.made.now c.rows.made m.grows m.seen.lawful c.rows.invariant.reached in
    let s = subst (λ rs. Reached rs new.steps c.args.n c.rows.at c.rows.k c.args.end c.args.made.now c.rows.made) (sym m.rules_stay) r in
    on_ok_weaker c.climb.result (λ e. e ∙ reached_end new.rules new.steps c.args.n c.rows.at c.rows.k c.args.end c.args.made.now c.rows.made s (omega arith)) c.climb.ensures.value
