use Rattle.std.proofs.Common.{◌∙◌, ◌&&◌, sym, ap}
use Rattle.axis_walkers.proofs.Offering.{and_true}
use Rattle.doc_laws.proofs.Growth.{joined_grows}
use Rattle.doc_model.specs.NodeTests.{is_kind}
use Rattle.doc_model.specs.declared.row.Row.{Row}
use Rattle.doc_model.specs.Rows.{rows_of, row_at}
use Rattle.doc_model.specs.Strip.{is_named}
use Rattle.doc_model.specs.View.{part_of}
use Rattle.patterns.proofs.Standing.{row_later}
use Rattle.patterns.proofs.testing.is_named.Goals as goal

pub name_is-requires : goal.name_is-requires
name_is-requires g c = joined_grows _ _ c.args.n c.kind.ensures.moves.grows c.requires.joined

pub returns-clause-value : goal.returns-clause-value
returns-clause-value g c =
    let row = row_at (rows_of (g.V.NodeView.sees c.name_is.new.self).steps) c.args.n in
    let named = is_named row c.args.uri.now (part_of c.args.local) in
    let j = joined_grows _ _ c.args.n c.kind.ensures.moves.grows c.requires.joined in
    let kind = ap (λ (r : Row). is_kind c.args.kind r.kind) (row_later _ _ c.args.n c.name_is.ensures.moves.grows j) ∙ ap (is_kind c.args.kind) (sym c.kind.ensures.value)
    ∙ sym c.if-not-is_kind.ensures in
    c.name_is.ensures.value ∙ sym (ap (λ b. named && b) kind ∙ and_true named)
