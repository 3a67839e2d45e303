use Rattle.std.proofs.Common.{◌∙◌, ◌<◌, ◌≤◌, ◌+◌, sym, refl, subst, arith}
use Rattle.doc_laws.proofs.Growth.{joined_grows}
use Rattle.doc_laws.proofs.Moving.{moves_on}
use Rattle.string_values.proofs.Known.{was_open, parent_later, cut_back}
use Rattle.string_values.proofs.Reached.{Reached, reached_first, reached_joined, reached_later, reached_on, reached_end}
use Rattle.string_values.proofs.value.texts_of.Goals as goal

pub returns-in-None-clause-answers : goal.returns-in-None-clause-answers
returns-in-None-clause-answers g c =
    was_open (g.V.NodeView.sees c.extent.new.self).rules (g.V.NodeView.sees c.args.view.now).steps
    (g.V.NodeView.sees c.extent.new.self).steps c.args.n c.args.into.now.items c.requires.joined c.requires.parent c.in-None.ensures.value

pub rows-init : goal.rows-init
rows-init g c = record {
  moved = c.extent.ensures.moves;
  reached = reached_first (g.V.NodeView.sees c.extent.new.self).rules (g.V.NodeView.sees c.extent.new.self).steps c.args.n (c.args.n + 1) c.in-Some.end c.args.into.now.items
      (joined_grows _ _ c.args.n c.extent.ensures.moves.grows c.requires.joined) refl c.in-Some.ensures.value.0 c.in-Some.ensures.value.1;
}

pub append_text-requires : goal.append_text-requires
append_text-requires g c = reached_joined _ _ _ _ _ _ _ c.rows.invariant.reached c.rows-test.true

pub rows-preserved : goal.rows-preserved
rows-preserved g c =
    let later : c.args.n < c.rows.k = omega arith in
    let within : c.rows.k ≤ c.in-Some.end = omega arith in
    let r = reached_later _ _ _ _ _ _ _ _ c.append_text.ensures.moves.grows c.append_text.ensures.moves.seen.lawful later within c.rows.invariant.reached in
    let s = subst (λ rs. Reached rs (g.V.NodeView.sees c.append_text.new.view).steps c.args.n c.rows.k c.in-Some.end c.args.into.now.items c.rows.into.items)
    (sym c.append_text.ensures.moves.rules_stay) r in
    record {
      moved = moves_on _ _ _ c.rows.invariant.moved c.append_text.ensures.moves;
      reached = reached_on _ _ _ _ _ _ _ _ later s c.in-Ok.ensures.value;
    }

pub returns-in-Err-clause-moves : goal.returns-in-Err-clause-moves
returns-in-Err-clause-moves g c = moves_on _ _ _ c.rows.invariant.moved c.append_text.ensures.moves

pub returns-clause-answers : goal.returns-clause-answers
returns-clause-answers g c =
    let kind = parent_later _ _ c.args.n _ c.rows.invariant.moved.grows c.requires.joined c.requires.parent in
    reached_end _ _ _ _ _ _ _ c.rows.invariant.moved.seen.lawful kind (omega arith) c.rows.invariant.reached

pub returns-in-Err-clause-err : goal.returns-in-Err-clause-err
returns-in-Err-clause-err g c = cut_back c.args.into.now.items _ _ _ _ c.truncate.ensures.items (c.in-Err.ensures.err ∙ c.rows.invariant.reached.texts) (c.len-start.ensures ∙ c.args.into.now.ok.0)

pub returns-clause-moves : goal.returns-clause-moves
returns-clause-moves g c = c.rows.invariant.moved
