use Rattle.std.proofs.Common.{◌∙◌, ◌<◌, Some, length, sym, ap, subst, arith}
use Rattle.std.proofs.lemmas.List.{get_or_read}
use Rattle.doc_model.specs.declared.places.RowPlace.{RowPlace}
use Rattle.doc_model.specs.declared.row.Row.{Row}
use Rattle.doc_model.specs.Document.{is_attribute}
use Rattle.doc_model.specs.Lawful.{IsJoined}
use Rattle.doc_model.specs.Rows.{rows_of}
use Rattle.doc_model.specs.View.{NextIs}
use Rattle.plain_columns.specs.Seen.{seen_of}
use Rattle.plain_columns.specs.Value.{Table}
use Rattle.plain_columns.specs.Table.{columns_of}
use Rattle.plain_columns.specs.Spelled.{steps_of}
use Rattle.plain_columns.proofs.Looks.{next_look, inner_kind}
use Rattle.plain_columns.proofs.table.Plain.next_of.Goals as goal

pub returns : goal.returns
returns c =
    let p = c.self.inside in
    let h = c.self.invariant in
    let n = c.args.n in
    let steps = steps_of (columns_of p) p.log.items p.verdict in
    let joined : n < length (rows_of steps) = subst (λ (t : Table). IsJoined t.cells.steps n) (sym c.self.view_is) c.requires in
    let within : n < length p.places.items = omega (arith, h.placed.joined, h.placed.within) in
    let place = c.place_in-place.ensures in
    let parent_in = h.spelled.rows n within in
    let parent = ap (λ (q : RowPlace). q.parent) place in
    let w = get_or_read p.next.items n c.index.result.now (omega (arith, h.has_words.nexts)) c.index.ensures 0 in
    let e = get_or_read p.extent.items c.place_in-place.result.parent c.index-2.result.now (omega (arith, h.has_words.extents, parent, parent_in.parent)) c.index-2.ensures 0 in
    let kind = ap (λ (r : Row). r.kind) (h.placed.rows n joined) ∙ ap (λ (q : RowPlace). q.kind) (sym place) in
    let up = h.placed.parents n (omega arith) joined ∙ ap (λ k. Some k) (sym parent) in
    let inner = ap is_attribute kind ∙ inner_kind _ c.in_default.not-Attribute in
    subst (λ (t : Table). NextIs (seen_of t.cells) (seen_of t.cells) n c.link.result) c.self.view_is
    (rw (c.link.ensures, w, e) (next_look steps _ _ _ _ h.words n c.place_in-place.result.parent joined inner up))
