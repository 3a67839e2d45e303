use Rattle.std.proofs.Common.{◌∙◌, ◌&&◌, sym, ap}
use Rattle.doc_model.specs.NodeTests.{is_kind}
use Rattle.doc_model.specs.Rows.{rows_of, row_at}
use Rattle.doc_model.specs.Strip.{is_named}
use Rattle.doc_model.specs.View.{part_of}
use Rattle.doc_laws.proofs.Growth.{joined_grows}
use Rattle.axis_walkers.proofs.Offering.{row_later, and_true}
use Rattle.xpath_core.proofs.node_tests.has_name.Goals as goal

pub name_is-requires : goal.name_is-requires
name_is-requires g c = joined_grows _ _ c.args.k c.kind.ensures.moves.grows c.requires

pub returns-clause-value : goal.returns-clause-value
returns-clause-value g c =
    let row = row_at (rows_of (g.V.NodeView.sees c.name_is.new.self).steps) c.args.k in
    let named = is_named row c.args.uri.now (part_of c.args.local) in
    let j = joined_grows _ _ c.args.k c.kind.ensures.moves.grows c.requires in
    let kind = ap (λ r. is_kind c.args.kind r.kind) (row_later _ _ c.args.k c.name_is.ensures.moves.grows j) ∙ ap (is_kind c.args.kind) (sym c.kind.ensures.value) ∙ sym c.if-not-is_kind.ensures in
    c.name_is.ensures.value ∙ sym (ap (λ b. named && b) kind ∙ and_true named)
