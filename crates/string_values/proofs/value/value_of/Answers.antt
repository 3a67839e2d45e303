use Rattle.std.proofs.Common.{◌≡◌, ◌∙◌, false, sym, ap}
use Rattle.doc_model.specs.Answers.{Known}
use Rattle.doc_model.specs.Document.{is_parent}
use Rattle.doc_model.specs.Rows.{rows_of, row_at}
use Rattle.doc_model.specs.Values.{string_value_of}
use Rattle.doc_laws.proofs.Calls.{after_moves}
use Rattle.doc_laws.proofs.Growth.{joined_grows}
use Rattle.doc_laws.proofs.Moving.{moves_on}
use Rattle.doc_model.specs.Asks.{stop_of}
use Rattle.string_values.specs.Appended.{appended_to, given}
use Rattle.string_values.proofs.Known.{own_value, parent_later}
use Rattle.string_values.proofs.value.value_of.Goals as goal

pub texts_of-requires-clause-joined : goal.texts_of-requires-clause-joined
texts_of-requires-clause-joined g c = joined_grows _ _ c.args.n c.kind.ensures.moves.grows c.requires

pub texts_of-requires-clause-parent : goal.texts_of-requires-clause-parent
texts_of-requires-clause-parent g c = ap is_parent (sym c.kind.ensures.value) ∙ sym c.if-may_have_children.ensures

pub returns-then-may_have_children-clause-moves : goal.returns-then-may_have_children-clause-moves
returns-then-may_have_children-clause-moves g c = moves_on _ _ _ c.kind.ensures.moves c.texts_of.ensures.moves

pub returns-then-may_have_children-clause-answers : goal.returns-then-may_have_children-clause-answers
returns-then-may_have_children-clause-answers g c =
    after_moves stop_of (λ rules steps. appended_to c.args.into.now.items (string_value_of rules steps c.args.n)) (g.V.NodeView.sees c.args.view.now)
    (g.V.NodeView.sees c.kind.new.self) (g.V.NodeView.sees c.texts_of.new.view) (given c.texts_of.new.into.items c.texts_of.result) c.kind.ensures.moves c.texts_of.ensures.answers

pub text-requires : goal.text-requires
text-requires g c = joined_grows _ _ c.args.n c.kind.ensures.moves.grows c.requires

pub returns-clause-moves : goal.returns-clause-moves
returns-clause-moves g c = moves_on _ _ _ c.kind.ensures.moves c.text.ensures.moves

pub returns-clause-answers : goal.returns-clause-answers
returns-clause-answers g c =
    let new = g.V.NodeView.sees c.text.new.self in
    let joined = joined_grows _ _ c.args.n c.kind.ensures.moves.grows c.requires in
    let leaf : is_parent (row_at (rows_of (g.V.NodeView.sees c.kind.new.self).steps) c.args.n).kind ≡ false = ap is_parent (sym c.kind.ensures.value) ∙ sym c.if-may_have_children.ensures in
    let later = parent_later (g.V.NodeView.sees c.kind.new.self).steps new.steps c.args.n false c.text.ensures.moves.grows joined leaf in
    ap (appended_to c.args.into.now.items) (own_value new.rules new.steps c.args.n (joined_grows _ _ c.args.n c.text.ensures.moves.grows joined) later)
    ∙ ap (λ xs. Known xs) (sym c.in_ok-text.ensures.value)

pub returns-in_err-text-clause-moves : goal.returns-in_err-text-clause-moves
returns-in_err-text-clause-moves g c = moves_on _ _ _ c.kind.ensures.moves c.text.ensures.moves
