use Rattle.std.proofs.Common.{◌∙◌, ◌&&◌, not, sym, ap}
use Rattle.doc_model.specs.declared.row.Kind.TheVariants.{Element}
use Rattle.doc_model.specs.declared.row.Row.{Row}
use Rattle.doc_model.specs.Document.{is_attribute}
use Rattle.doc_model.specs.NodeTests.{meets}
use Rattle.doc_model.specs.Rows.{rows_of, row_at}
use Rattle.doc_model.specs.Strip.{is_visible}
use Rattle.doc_laws.proofs.Growth.{joined_grows}
use Rattle.axis_walkers.proofs.Offering.{row_later, kind_same, and_true}
use Rattle.axis_walkers.proofs.selection.is_shown_node.Goals as goal

pub returns-else-is_kind-clause-value : goal.returns-else-is_kind-clause-value
returns-else-is_kind-clause-value g c =
    let s = g.V.NodeView.sees c.shown.new.self in
    let visible = is_visible s.rules (rows_of s.steps) c.args.k in
    let j = joined_grows _ _ c.args.k c.kind.ensures.moves.grows c.requires.joined in
    let plain = ap (λ (r : Row). is_attribute r.kind) (row_later _ _ c.args.k c.shown.ensures.moves.grows j) ∙ ap is_attribute (sym c.kind.ensures.value) ∙ sym c.if-is_kind.ensures in
    c.shown.ensures.value ∙ sym (ap (λ b. visible && not b) plain ∙ and_true visible)

pub returns-else-is_kind-2-clause-value : goal.returns-else-is_kind-2-clause-value
returns-else-is_kind-2-clause-value g c =
    let s = g.V.NodeView.sees c.shown-in-Kind.new.self in
    let old = g.V.NodeView.sees c.args.view.now in
    let visible = is_visible s.rules (rows_of s.steps) c.args.k in
    let wanted = sym (ap (λ x. meets Element x (row_at (rows_of old.steps) c.args.k)) c.in-Kind.is) ∙ c.requires.meets in
    let same = kind_same c.in-Kind.kind (row_at (rows_of old.steps) c.args.k).kind wanted in
    let plain = ap (λ (r : Row). is_attribute r.kind) (row_later _ _ c.args.k c.shown-in-Kind.ensures.moves.grows c.requires.joined) ∙ ap is_attribute (sym same)
    ∙ sym c.is_kind-in-Kind.ensures ∙ c.if-is_kind-2.false in
    c.shown-in-Kind.ensures.value ∙ sym (ap (λ b. visible && not b) plain ∙ and_true visible)
