use Rattle.std.proofs.Common.{◌≡◌, ◌∙◌, ◌++◌, false, true, sym, ap, append-nil}
use Rattle.doc_model.specs.declared.row.Row.{Row}
use Rattle.doc_model.specs.Rows.{rows_of, row_at}
use Rattle.doc_model.specs.Strip.{is_text, is_visible}
use Rattle.doc_laws.proofs.Growth.{joined_grows}
use Rattle.doc_laws.proofs.Moving.{moves_on}
use Rattle.doc_laws.proofs.Staying.{data_stay}
use Rattle.string_values.proofs.Known.{row_later}
use Rattle.string_values.proofs.Reached.{other_alone, hidden_alone, text_alone}
use Rattle.string_values.proofs.value.append_text.Goals as goal

pub returns-then-not-is_text-clause-value : goal.returns-then-not-is_text-clause-value
returns-then-not-is_text-clause-value g c =
    let none : is_text (row_at (rows_of (g.V.NodeView.sees c.kind.new.self).steps) c.args.k).kind ≡ false = ap is_text (sym c.kind.ensures.value) ∙ sym c.if-not-is_text.ensures in
    sym (ap (λ xs. c.args.into.now.items ++ xs) (other_alone (g.V.NodeView.sees c.kind.new.self).rules (rows_of (g.V.NodeView.sees c.kind.new.self).steps) c.args.k none)
    ∙ append-nil c.args.into.now.items)

pub shown-requires : goal.shown-requires
shown-requires g c = joined_grows _ _ c.args.k c.kind.ensures.moves.grows c.requires

pub returns-then-not-shown-clause-moves : goal.returns-then-not-shown-clause-moves
returns-then-not-shown-clause-moves g c = moves_on _ _ _ c.kind.ensures.moves c.shown.ensures.moves

pub returns-then-not-shown-clause-value : goal.returns-then-not-shown-clause-value
returns-then-not-shown-clause-value g c =
    sym (ap (λ xs. c.args.into.now.items ++ xs)
    (hidden_alone (g.V.NodeView.sees c.shown.new.self).rules (rows_of (g.V.NodeView.sees c.shown.new.self).steps) c.args.k (sym c.if-not-shown.ensures.value)) ∙ append-nil c.args.into.now.items)

pub text-requires : goal.text-requires
text-requires g c = joined_grows _ _ c.args.k (moves_on _ _ _ c.kind.ensures.moves c.shown.ensures.moves).grows c.requires

pub returns-clause-moves : goal.returns-clause-moves
returns-clause-moves g c = moves_on _ _ _ (moves_on _ _ _ c.kind.ensures.moves c.shown.ensures.moves) c.text.ensures.moves

pub returns-clause-value : goal.returns-clause-value
returns-clause-value g c =
    let joined = joined_grows _ _ c.args.k c.kind.ensures.moves.grows c.requires in
    let later = joined_grows _ _ c.args.k c.shown.ensures.moves.grows joined in
    let m = moves_on _ _ _ c.shown.ensures.moves c.text.ensures.moves in
    let new = g.V.NodeView.sees c.text.new.self in
    let text : is_text (row_at (rows_of new.steps) c.args.k).kind ≡ true =
    ap (λ (r : Row). is_text r.kind) (row_later _ _ c.args.k m.grows joined) ∙ ap is_text (sym c.kind.ensures.value) ∙ sym c.if-not-is_text.ensures in
    let rules = (g.V.NodeView.sees c.shown.new.self).rules in
    let seen : is_visible new.rules (rows_of new.steps) c.args.k ≡ true =
    ap (λ rs. is_visible rs (rows_of new.steps) c.args.k) c.text.ensures.moves.rules_stay
    ∙ (data_stay rules _ _ c.args.k c.text.ensures.moves.grows c.text.ensures.moves.seen.lawful later).visible ∙ sym c.if-not-shown.ensures.value in
    c.in_ok-text.ensures.value ∙ ap (λ xs. c.args.into.now.items ++ xs) (sym (text_alone new.rules (rows_of new.steps) c.args.k seen text))

pub returns-in_err-text-clause-moves : goal.returns-in_err-text-clause-moves
returns-in_err-text-clause-moves g c = moves_on _ _ _ (moves_on _ _ _ c.kind.ensures.moves c.shown.ensures.moves) c.text.ensures.moves
