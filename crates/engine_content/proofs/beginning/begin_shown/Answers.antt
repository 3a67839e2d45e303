use Rattle.std.proofs.Common.{◌++◌, ap, sym, ◌∙◌}
use Rattle.std.proofs.lemmas.Result.{on_ok_weaker}
use Rattle.doc_model.specs.declared.row.Row.{Row}
use Rattle.doc_model.specs.Rows.{rows_of}
use Rattle.doc_model.specs.Strip.{is_visible}
use Rattle.doc_laws.proofs.Growth.{joined_grows}
use Rattle.doc_laws.proofs.Moving.{moves_on}
use Rattle.engine_content.proofs.Rows.{row_later}
use Rattle.engine_content.proofs.Pushing.{other_shown, seen_shown}
use Rattle.engine_content.proofs.beginning.begin_shown.Goals as goal

pub returns-then-not-is_text-clause-value : goal.returns-then-not-is_text-clause-value
returns-then-not-is_text-clause-value g c =
    let old = (g.V.NodeView.sees c.args.view.now).steps in
    let new = g.V.NodeView.sees c.begin.new.view in
    let is = other_shown new.rules old new.steps c.args.k c.args.kind c.begin.ensures.moves.grows c.requires.joined c.requires.kind (sym c.if-not-is_text.ensures) in
    on_ok_weaker c.begin.result (λ e. e ∙ ap (λ xs. c.args.made.now ++ xs) (sym is)) c.begin.ensures.value

pub begin-requires-2-clause-joined : goal.begin-requires-2-clause-joined
begin-requires-2-clause-joined g c = joined_grows _ _ c.args.k c.shown.ensures.moves.grows c.requires.joined

pub begin-requires-2-clause-kind : goal.begin-requires-2-clause-kind
begin-requires-2-clause-kind g c =
    c.requires.kind ∙ sym (ap (λ (r : Row). r.kind)
    (row_later (g.V.NodeView.sees c.args.view.now).steps (g.V.NodeView.sees c.shown.new.self).steps c.args.k c.shown.ensures.moves.grows c.requires.joined))

pub returns-clause-moves : goal.returns-clause-moves
returns-clause-moves g c = moves_on _ _ _ c.shown.ensures.moves c.begin-2.ensures.moves

pub returns-clause-value : goal.returns-clause-value
returns-clause-value g c =
    let mid = (g.V.NodeView.sees c.shown.new.self).steps in
    let new = g.V.NodeView.sees c.begin-2.new.view in
    let m = c.begin-2.ensures.moves in
    let is = seen_shown new.rules mid new.steps c.args.k m.grows m.seen.lawful (joined_grows _ _ c.args.k c.shown.ensures.moves.grows c.requires.joined)
    (ap (λ rs. is_visible rs (rows_of mid) c.args.k) m.rules_stay ∙ sym c.if-not-shown.ensures.value) in
    on_ok_weaker c.begin-2.result (λ e. e ∙ ap (λ xs. c.args.made.now ++ xs) (sym is)) c.begin-2.ensures.value
