use Rattle.std.proofs.Common.{◌∙◌, ◌&&◌, sym, ap}
use Rattle.std.specs.Prelude.{not}
use Rattle.doc_laws.proofs.Growth.{joined_grows}
use Rattle.doc_model.specs.declared.row.Kind.TheVariants as kind
use Rattle.doc_model.specs.declared.row.Row.{Row}
use Rattle.doc_model.specs.Document.{is_attribute}
use Rattle.doc_model.specs.NodeTests.{meets}
use Rattle.doc_model.specs.Rows.{rows_of, row_at}
use Rattle.xpath_meaning.specs.Match.{fits}
use Rattle.xpath_meaning.specs.Tests.{test_of}
use Rattle.patterns.proofs.Standing.{row_later}
use Rattle.patterns.proofs.testing.fits.Goals as goal

pub returns-then-is_attribute_axis-clause-value : goal.returns-then-is_attribute_axis-clause-value
returns-then-is_attribute_axis-clause-value g c =
    let row = row_at (rows_of (g.V.NodeView.sees c.meets.new.view).steps) c.args.n in
    let test = test_of c.args.test.now in
    let j = joined_grows _ _ c.args.n c.kind-kind.ensures.moves.grows c.requires in
    let same =
    ap (λ (r : Row). is_attribute r.kind) (row_later _ _ c.args.n c.meets.ensures.moves.grows j) ∙ ap is_attribute (sym c.kind-kind.ensures.value) ∙ sym c.if-not-is_attribute.ensures in
    c.meets.ensures.value ∙ sym (ap (λ b. fits b test row) (sym c.if-is_attribute_axis.ensures) ∙ ap (λ b. b && meets kind.Attribute test row) same)

pub meets-requires-2 : goal.meets-requires-2
meets-requires-2 g c = joined_grows _ _ c.args.n c.kind-kind.ensures.moves.grows c.requires

pub returns-clause-value : goal.returns-clause-value
returns-clause-value g c =
    let row = row_at (rows_of (g.V.NodeView.sees c.meets-2.new.view).steps) c.args.n in
    let test = test_of c.args.test.now in
    let j = joined_grows _ _ c.args.n c.kind-kind.ensures.moves.grows c.requires in
    let same = ap (λ (r : Row). is_attribute r.kind) (row_later _ _ c.args.n c.meets-2.ensures.moves.grows j) ∙ ap is_attribute (sym c.kind-kind.ensures.value) ∙ sym c.if-is_attribute.ensures in
    c.meets-2.ensures.value ∙ sym (ap (λ b. fits b test row) (sym c.if-is_attribute_axis.ensures) ∙ ap (λ b. not b && meets kind.Element test row) same)
