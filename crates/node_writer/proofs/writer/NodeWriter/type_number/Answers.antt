use Rattle.std.proofs.Common.{◌≡◌, ◌∙◌, true, sym}
use Rattle.name_pool.specs.Names.{Name}
use Rattle.node_writer.specs.Taken.{has_name, name_of_row}
use Rattle.node_writer.proofs.Knowing.{looked_up}
use Rattle.node_writer.proofs.writer.NodeWriter.type_number.Goals as goal

pub returns-then-has_name : goal.returns-then-has_name
returns-then-has_name c =
    let row = c.args.row.now in
    let name : Name = record { kind = row.kind; uri = c.as_slice.result.now; local = c.as_slice-then-has_name.result.now } in
    let same : name ≡ name_of_row row = λ i. record { kind = row.kind; uri = c.as_slice.ensures i; local = c.as_slice-then-has_name.ensures i } in
    let named : has_name row.kind ≡ true = sym c.has_name.ensures ∙ c.if-has_name.true in
    looked_up c.args.self.now.filler.pool row name c.find.result same named c.find.ensures.number c.find.ensures.new
