use Rattle.std.proofs.Common.{◌≡◌, ◌∙◌, ◌<◌, ◌+◌, Some, false, length, sym, ap, subst, arith}
use Rattle.doc_model.specs.declared.places.RowPlace.{RowPlace}
use Rattle.doc_model.specs.declared.row.Row.{Row}
use Rattle.doc_model.specs.Document.{is_parent}
use Rattle.doc_model.specs.Lawful.{IsJoined}
use Rattle.doc_model.specs.Rows.{rows_of}
use Rattle.doc_model.specs.View.{ExtentIs}
use Rattle.plain_columns.specs.Value.{Table}
use Rattle.plain_columns.specs.Table.{columns_of}
use Rattle.plain_columns.specs.Spelled.{steps_of}
use Rattle.plain_columns.proofs.Looks.{leaf_kind, leaf_extent}
use Rattle.plain_columns.proofs.table.Plain.extent_of.Goals as goal

pub returns-in_default : goal.returns-in_default
returns-in_default c =
    let p = c.self.inside in
    let h = c.self.invariant in
    let n = c.args.n in
    let steps = steps_of (columns_of p) p.log.items p.verdict in
    let joined : n < length (rows_of steps) = subst (λ (t : Table). IsJoined t.cells.steps n) (sym c.self.view_is) c.requires in
    let within : n < length p.places.items = omega (arith, h.placed.joined, h.placed.within) in
    let place = c.place_in.ensures in
    let kind = ap (λ (r : Row). r.kind) (h.placed.rows n joined) ∙ ap (λ (q : RowPlace). q.kind) (sym place) in
    let leaf : is_parent c.place_in.result.kind ≡ false = leaf_kind _ c.in_default.not-Root c.in_default.not-Element in
    subst (λ (t : Table). ExtentIs t.cells.steps t.cells.steps n (Some (n + 1))) c.self.view_is (leaf_extent steps _ _ _ _ h.words n joined (ap is_parent kind ∙ leaf))
