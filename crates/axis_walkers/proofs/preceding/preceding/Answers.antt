use Rattle.std.proofs.Common.{◌∙◌, ◌-◌, sym, ap, arith}
use Rattle.doc_model.specs.declared.row.Axis.TheVariants as axis
use Rattle.doc_model.specs.Answers.{Known}
use Rattle.doc_laws.proofs.Moving.{moves_on}
use Rattle.axis_walkers.proofs.Loops
use Rattle.axis_walkers.proofs.Walks
use Rattle.axis_walkers.proofs.preceding.preceding.Goals as goal

pub parent-up-requires : goal.parent-up-requires
parent-up-requires g c = c.requires

pub walk-init : goal.walk-init
walk-init g c = Walks.before_begins c.new-found.result.met c.new-found.result.rows _ _ c.args.n c.args.test.now _
    (record { none = c.new-found.ensures.met; empty = c.new-found.ensures.rows }) c.requires c.parent-up.ensures.moves (sym c.parent-up.ensures.value)

pub parent-up-requires-then-is_some : goal.parent-up-requires-then-is_some
parent-up-requires-then-is_some g c = omega (arith, c.walk.invariant.order, c.walk.invariant.goes.joined)

pub walk-smaller-then-is_some : goal.walk-smaller-then-is_some
walk-smaller-then-is_some g c = omega arith

pub walk-preserved-then-is_some : goal.walk-preserved-then-is_some
walk-preserved-then-is_some g c =
    Walks.before_up _ _ _ c.args.n c.args.test.now c.walk.k (c.walk.k - 1) _ _ _ _ c.walk.invariant (omega arith) (sym c.if-is_some.ensures) c.parent-up-then-is_some.ensures.moves
    (sym c.parent-up-then-is_some.ensures.value)

pub offer_plain-requires-clause-joined : goal.offer_plain-requires-clause-joined
offer_plain-requires-clause-joined g c = omega (arith, c.walk.invariant.order, c.walk.invariant.goes.joined)

pub offer_plain-requires-clause-seen : goal.offer_plain-requires-clause-seen
offer_plain-requires-clause-seen g c = c.walk.invariant.goes.moved.seen

pub offer_plain-requires-clause-met : goal.offer_plain-requires-clause-met
offer_plain-requires-clause-met g c = c.walk.invariant.goes.known

pub returns-in_err-offer_plain-clause-moves : goal.returns-in_err-offer_plain-clause-moves
returns-in_err-offer_plain-clause-moves g c = moves_on _ _ _ c.walk.invariant.goes.moved c.offer_plain.ensures.moves

pub returns-in_err-offer_plain-clause-answers : goal.returns-in_err-offer_plain-clause-answers
returns-in_err-offer_plain-clause-answers g c =
    Loops.out_of_memory (g.V.NodeView.sees c.args.view.now) (g.V.NodeView.sees c.offer_plain.new.view) c.args.n axis.Preceding c.args.test.now c.from_residual.result c.from_residual.ensures.1

pub walk-smaller : goal.walk-smaller
walk-smaller g c = omega arith

pub walk-preserved : goal.walk-preserved
walk-preserved g c = Walks.before_takes _ _ _ c.args.n c.args.test.now c.walk.k (c.walk.k - 1) _ _ _ _ _ c.walk.invariant (omega arith)
    (sym c.if-is_some.ensures) c.offer_plain.ensures.moves c.offer_plain.ensures.met c.in_ok-offer_plain.ensures.rows

pub returns-clause-moves : goal.returns-clause-moves
returns-clause-moves g c = c.walk.invariant.goes.moved

pub returns-clause-answers : goal.returns-clause-answers
returns-clause-answers g c = Walks.before_ends _ _ c.args.n c.args.test.now c.walk.k _ _ _ c.walk.invariant (omega arith) ∙ ap Known (sym c.into_rows.ensures)
