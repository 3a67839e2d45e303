use Rattle.std.proofs.Common.{◌∙◌, sym}
use Rattle.doc_model.specs.View.{part_of}
use Rattle.doc_laws.proofs.Growth.{joined_grows}
use Rattle.doc_laws.proofs.Moving.{moves_on}
use Rattle.axis_walkers.proofs.Offering.{named_row, met_moves, met_same, met_more, named_hit, type_later}
use Rattle.axis_walkers.proofs.selection.is_named.Goals as goal

pub returns-in-Some-clause-met : goal.returns-in-Some-clause-met
returns-in-Some-clause-met g c = met_moves _ _ (named_row c.args.uri.now (part_of c.args.local) c.args.kind) c.args.met.now c.requires.seen c.type_id-id.ensures.moves c.requires.met

pub returns-in-Some-clause-value : goal.returns-in-Some-clause-value
returns-in-Some-clause-value g c =
    let m = c.type_id-id.ensures.moves in
    let met = met_moves _ _ (named_row c.args.uri.now (part_of c.args.local) c.args.kind) c.args.met.now c.requires.seen m c.requires.met in
    sym (named_hit _ c.args.uri.now (part_of c.args.local) c.args.kind c.args.met.now c.type_id-id.result c.args.k c.in-Some.passes m.seen
    (joined_grows _ _ c.args.k m.grows c.requires.joined) met (sym c.known.ensures ∙ c.in-Some.is) c.type_id-id.ensures.value)

pub returns-in_err-keep-clause-met : goal.returns-in_err-keep-clause-met
returns-in_err-keep-clause-met g c =
    let test = named_row c.args.uri.now (part_of c.args.local) c.args.kind in
    met_same (g.V.NodeView.sees c.has_name-passes.new.view) test c.args.met.now c.keep.new.types c.in_err-keep.ensures.err
    (met_moves _ _ test c.args.met.now c.requires.seen (moves_on _ _ _ c.type_id-id.ensures.moves c.has_name-passes.ensures.moves) c.requires.met)

pub returns-clause-met : goal.returns-clause-met
returns-clause-met g c =
    let test = named_row c.args.uri.now (part_of c.args.local) c.args.kind in
    let m = c.type_id-id.ensures.moves in
    let n = c.has_name-passes.ensures.moves in
    let j = joined_grows _ _ c.args.k m.grows c.requires.joined in
    let met = met_moves _ _ test c.args.met.now c.requires.seen (moves_on _ _ _ m n) c.requires.met in
    met_more (g.V.NodeView.sees c.has_name-passes.new.view) test c.args.met.now c.keep.new.types c.type_id-id.result c.args.k c.has_name-passes.result c.in_ok-keep.ensures.ok
    (joined_grows _ _ c.args.k n.grows j) (type_later _ _ c.args.k m.seen n j ∙ sym c.type_id-id.ensures.value) (sym c.has_name-passes.ensures.value) met
