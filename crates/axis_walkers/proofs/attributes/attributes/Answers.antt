use Rattle.std.proofs.Common.{◌∙◌, ◌+◌, sym, ap, arith}
use Rattle.doc_model.specs.declared.row.Axis.TheVariants as axis
use Rattle.doc_model.specs.Answers.{Known}
use Rattle.doc_model.specs.Rows.{rows_of}
use Rattle.doc_laws.proofs.Growth.{joined_grows}
use Rattle.doc_laws.proofs.Moving.{moves_on}
use Rattle.axis_walkers.proofs.Facts
use Rattle.axis_walkers.proofs.Loops
use Rattle.axis_walkers.proofs.Walks
use Rattle.axis_walkers.proofs.attributes.attributes.Goals as goal

pub attr_count-count-requires : goal.attr_count-count-requires
attr_count-count-requires g c = c.requires

pub overflow_step-k : goal.overflow_step-k
overflow_step-k g c =
    let j = joined_grows _ _ c.args.n c.attr_count-count.ensures.moves.grows c.requires in
    let w = Facts.count_within (rows_of (g.V.NodeView.sees c.attr_count-count.new.self).steps) c.args.n j in
    omega (arith, w, c.attr_count-count.ensures.value, c.attr_count-count.ensures.moves.seen.lawful.few)

pub overflow_add-k-end : goal.overflow_add-k-end
overflow_add-k-end g c =
    let j = joined_grows _ _ c.args.n c.attr_count-count.ensures.moves.grows c.requires in
    let w = Facts.count_within (rows_of (g.V.NodeView.sees c.attr_count-count.new.self).steps) c.args.n j in
    omega (arith, w, c.attr_count-count.ensures.value, c.attr_count-count.ensures.moves.seen.lawful.few)

pub overflow_add-k-end-2 : goal.overflow_add-k-end-2
overflow_add-k-end-2 g c =
    let j = joined_grows _ _ c.args.n c.attr_count-count.ensures.moves.grows c.requires in
    let w = Facts.count_within (rows_of (g.V.NodeView.sees c.attr_count-count.new.self).steps) c.args.n j in
    omega (arith, w, c.attr_count-count.ensures.value, c.attr_count-count.ensures.moves.seen.lawful.few)

pub loop-k-init : goal.loop-k-init
loop-k-init g c = Walks.among_begins c.new-found.result.met c.new-found.result.rows _ _ c.args.n (c.args.n + 1) c.attr_count-count.result c.args.test.now
    (record { none = c.new-found.ensures.met; empty = c.new-found.ensures.rows }) c.requires c.attr_count-count.ensures.moves (omega arith) c.attr_count-count.ensures.value

pub offer-requires-clause-joined : goal.offer-requires-clause-joined
offer-requires-clause-joined g c = omega (arith, Walks.among_within _ _ c.args.n c.args.test.now c.loop-k.k _ _ _ c.loop-k.invariant)

pub offer-requires-clause-seen : goal.offer-requires-clause-seen
offer-requires-clause-seen g c = c.loop-k.invariant.goes.moved.seen

pub offer-requires-clause-met : goal.offer-requires-clause-met
offer-requires-clause-met g c = c.loop-k.invariant.goes.known

pub returns-in_err-offer-clause-moves : goal.returns-in_err-offer-clause-moves
returns-in_err-offer-clause-moves g c = moves_on _ _ _ c.loop-k.invariant.goes.moved c.offer.ensures.moves

pub returns-in_err-offer-clause-answers : goal.returns-in_err-offer-clause-answers
returns-in_err-offer-clause-answers g c =
    Loops.out_of_memory (g.V.NodeView.sees c.args.view.now) (g.V.NodeView.sees c.offer.new.view) c.args.n axis.Attribute c.args.test.now c.from_residual.result c.from_residual.ensures.1

pub loop-k-preserved : goal.loop-k-preserved
loop-k-preserved g c = Walks.among_takes _ _ _ c.args.n c.args.test.now c.loop-k.k (c.loop-k.k + 1) c.attr_count-count.result _ _ _ _ c.loop-k.invariant (omega arith) (omega arith)
    (omega arith) c.offer.ensures.moves c.offer.ensures.met c.in_ok-offer.ensures.rows

pub returns-clause-moves : goal.returns-clause-moves
returns-clause-moves g c = c.loop-k.invariant.goes.moved

pub returns-clause-answers : goal.returns-clause-answers
returns-clause-answers g c = Walks.among_ends _ _ c.args.n c.args.test.now c.loop-k.k c.attr_count-count.result _ _ c.loop-k.invariant (omega arith) ∙ ap Known (sym c.into_rows.ensures)
