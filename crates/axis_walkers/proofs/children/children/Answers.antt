use Rattle.std.proofs.Common.{◌∙◌, sym, refl, ap, arith}
use Rattle.doc_model.specs.declared.row.Axis.TheVariants as axis
use Rattle.doc_model.specs.Answers.{Known}
use Rattle.doc_model.specs.Rows.{rows_of}
use Rattle.doc_laws.proofs.Growth.{joined_grows}
use Rattle.doc_laws.proofs.Moving.{moves_on}
use Rattle.axis_walkers.proofs.Loops.{passed, next_comes, next_less, next_ends, next_waits, out_of_memory}
use Rattle.axis_walkers.proofs.Walks.{children_are, first_comes, no_children, first_waits}
use Rattle.axis_walkers.proofs.children.children.Goals as goal

pub first-requires : goal.first-requires
first-requires g c = c.requires

pub returns-in-Nothing-clause-moves : goal.returns-in-Nothing-clause-moves
returns-in-Nothing-clause-moves g c = c.first.ensures.moves

pub returns-in-Nothing-clause-answers : goal.returns-in-Nothing-clause-answers
returns-in-Nothing-clause-answers g c =
    no_children c.new-found.result.met c.new-found.result.rows _ _ c.args.n c.args.test.now
    (record { none = c.new-found.ensures.met; empty = c.new-found.ensures.rows }) c.requires c.first.ensures.moves c.in-Nothing.ensures.value.0 c.in-Nothing.ensures.value.1
    ∙ ap Known (sym c.into_rows.ensures)

pub returns-in-NotYet-clause-moves : goal.returns-in-NotYet-clause-moves
returns-in-NotYet-clause-moves g c = c.first.ensures.moves

pub returns-in-NotYet-clause-answers : goal.returns-in-NotYet-clause-answers
returns-in-NotYet-clause-answers g c =
    first_waits (g.V.NodeView.sees c.args.view.now) (g.V.NodeView.sees c.first.new.self) c.args.n c.args.test.now (g.V.NodeView.sees c.first.new.self).rules c.requires c.in-NotYet.ensures.value

pub walk-init : goal.walk-init
walk-init g c = first_comes c.new-found.result.met c.new-found.result.rows _ _ c.args.n c.in-Node.k c.args.test.now
    (record { none = c.new-found.ensures.met; empty = c.new-found.ensures.rows }) c.requires c.first.ensures.moves c.in-Node.ensures.value

pub offer-requires-clause-joined : goal.offer-requires-clause-joined
offer-requires-clause-joined g c = c.walk.invariant.there

pub offer-requires-clause-seen : goal.offer-requires-clause-seen
offer-requires-clause-seen g c = c.walk.invariant.goes.moved.seen

pub offer-requires-clause-met : goal.offer-requires-clause-met
offer-requires-clause-met g c = c.walk.invariant.goes.known

pub returns-in_err-offer-clause-moves : goal.returns-in_err-offer-clause-moves
returns-in_err-offer-clause-moves g c = moves_on _ _ _ c.walk.invariant.goes.moved c.offer.ensures.moves

pub returns-in_err-offer-clause-answers : goal.returns-in_err-offer-clause-answers
returns-in_err-offer-clause-answers g c =
    out_of_memory (g.V.NodeView.sees c.args.view.now) (g.V.NodeView.sees c.offer.new.view) c.args.n axis.Child c.args.test.now c.from_residual.result c.from_residual.ensures.1

pub next-requires : goal.next-requires
next-requires g c = joined_grows _ _ c.walk.at c.offer.ensures.moves.grows c.walk.invariant.there

pub walk-smaller : goal.walk-smaller
walk-smaller g c =
    let past = passed _ _ _ c.args.n axis.Child c.args.test.now _ c.walk.at _ _ _ _ c.walk.invariant c.offer.ensures.moves c.offer.ensures.met c.in_ok-offer.ensures.rows in
    let less = next_less _ _ _ c.args.n axis.Child c.args.test.now _ c.walk.at c.in-Node-next.k _ _ past c.next.ensures.moves c.in-Node-next.ensures.value in
    omega (arith, less.0, less.1, c.next.ensures.moves.seen.lawful.few)

pub walk-preserved : goal.walk-preserved
walk-preserved g c =
    let past = passed _ _ _ c.args.n axis.Child c.args.test.now _ c.walk.at _ _ _ _ c.walk.invariant c.offer.ensures.moves c.offer.ensures.met c.in_ok-offer.ensures.rows in
    let u = g.V.NodeView.sees c.next.new.self in
    next_comes _ _ _ c.args.n axis.Child c.args.test.now _ c.walk.at c.in-Node-next.k _ _ past c.next.ensures.moves
    (children_are u.rules (rows_of u.steps) c.args.n c.args.test.now _) c.in-Node-next.ensures.value

pub returns-in-Nothing-next-clause-moves : goal.returns-in-Nothing-next-clause-moves
returns-in-Nothing-next-clause-moves g c = moves_on _ _ _ (moves_on _ _ _ c.walk.invariant.goes.moved c.offer.ensures.moves) c.next.ensures.moves

pub returns-in-Nothing-next-clause-answers : goal.returns-in-Nothing-next-clause-answers
returns-in-Nothing-next-clause-answers g c =
    let past = passed _ _ _ c.args.n axis.Child c.args.test.now _ c.walk.at _ _ _ _ c.walk.invariant c.offer.ensures.moves c.offer.ensures.met c.in_ok-offer.ensures.rows in
    let u = g.V.NodeView.sees c.next.new.self in
    next_ends _ _ _ c.args.n axis.Child c.args.test.now _ c.walk.at _ _ past c.next.ensures.moves
    (children_are u.rules (rows_of u.steps) c.args.n c.args.test.now _) refl refl c.in-Nothing-next.ensures.value.0 c.in-Nothing-next.ensures.value.1
    ∙ ap Known (sym c.into_rows-in-Nothing-next.ensures)

pub returns-in-NotYet-next-clause-moves : goal.returns-in-NotYet-next-clause-moves
returns-in-NotYet-next-clause-moves g c = moves_on _ _ _ (moves_on _ _ _ c.walk.invariant.goes.moved c.offer.ensures.moves) c.next.ensures.moves

pub returns-in-NotYet-next-clause-answers : goal.returns-in-NotYet-next-clause-answers
returns-in-NotYet-next-clause-answers g c =
    let past = passed _ _ _ c.args.n axis.Child c.args.test.now _ c.walk.at _ _ _ _ c.walk.invariant c.offer.ensures.moves c.offer.ensures.met c.in_ok-offer.ensures.rows in
    next_waits (g.V.NodeView.sees c.args.view.now) (g.V.NodeView.sees c.offer.new.view)
    (g.V.NodeView.sees c.next.new.self) c.args.n axis.Child c.args.test.now c.args.n c.walk.at _ _ (g.V.NodeView.sees c.next.new.self).rules past (λ p h. refl) c.in-NotYet-next.ensures.value
