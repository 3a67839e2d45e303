use Rattle.std.proofs.Common.{◌≡◌, ◌∙◌, ◌<◌, length, sym, ap, subst}
use Rattle.std.specs.Prelude.{slice_index}
use Rattle.doc_model.specs.declared.places.RowPlace.{RowPlace}
use Rattle.doc_model.specs.Lawful.{IsJoined}
use Rattle.doc_model.specs.Rows.{rows_of}
use Rattle.plain_columns.specs.Seen.{types_of}
use Rattle.plain_columns.specs.Spelled.{steps_of}
use Rattle.plain_columns.specs.Table.{columns_of}
use Rattle.plain_columns.specs.Value.{Table}
use Rattle.plain_columns.proofs.Types.{type_at}
use Rattle.plain_columns.proofs.table.Plain.type_of.Goals as goal

pub returns : goal.returns
returns c =
    let p = c.self.inside in
    let h = c.self.invariant in
    let n = c.args.n in
    let steps = steps_of (columns_of p) p.log.items p.verdict in
    let joined : n < length (rows_of steps) = subst (λ (t : Table). IsJoined t.cells.steps n) (sym c.self.view_is) c.requires in
    subst (λ (t : Table). c.place_in.result.type_id ≡ slice_index (types_of t.cells) n) c.self.view_is
    (ap (λ (q : RowPlace). q.type_id) c.place_in.ensures ∙ sym (type_at (columns_of p) p.log.items steps p.joined h.spelled h.placed n joined))
