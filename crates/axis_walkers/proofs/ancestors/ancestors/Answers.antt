use Rattle.std.proofs.Common.{◌∙◌, sym, refl, ap, subst, arith}
use Rattle.doc_model.specs.declared.row.Axis.TheVariants as axis
use Rattle.doc_model.specs.Answers.{Known}
use Rattle.doc_model.specs.Rows.{rows_of}
use Rattle.doc_laws.proofs.Growth.{joined_grows}
use Rattle.doc_laws.proofs.Moving.{moves_on}
use Rattle.axis_walkers.proofs.Loops
use Rattle.axis_walkers.proofs.Walks
use Rattle.axis_walkers.proofs.ancestors.ancestors.Goals as goal

pub parent-up-requires : goal.parent-up-requires
parent-up-requires g c = c.requires

pub walk-init : goal.walk-init
walk-init g c = Walks.climb_begins c.new-found.result.met c.new-found.result.rows _ _ c.args.n c.args.test.now _
    (record { none = c.new-found.ensures.met; empty = c.new-found.ensures.rows }) c.requires c.parent-up.ensures.moves (sym c.parent-up.ensures.value)

pub offer-requires-clause-joined : goal.offer-requires-clause-joined
offer-requires-clause-joined g c =
    let inv = subst (λ o. Loops.Climbs (g.V.NodeView.sees c.args.view.now)
    (g.V.NodeView.sees c.walk.view) c.args.n axis.Ancestor c.args.test.now c.walk.found.met c.walk.found.rows o) c.in-Some.is c.walk.invariant in
    omega (arith, inv.0.within, inv.0.joined)

pub offer-requires-clause-seen : goal.offer-requires-clause-seen
offer-requires-clause-seen g c =
    let inv = subst (λ o. Loops.Climbs (g.V.NodeView.sees c.args.view.now)
    (g.V.NodeView.sees c.walk.view) c.args.n axis.Ancestor c.args.test.now c.walk.found.met c.walk.found.rows o) c.in-Some.is c.walk.invariant in
    inv.0.moved.seen

pub offer-requires-clause-met : goal.offer-requires-clause-met
offer-requires-clause-met g c =
    let inv = subst (λ o. Loops.Climbs (g.V.NodeView.sees c.args.view.now)
    (g.V.NodeView.sees c.walk.view) c.args.n axis.Ancestor c.args.test.now c.walk.found.met c.walk.found.rows o) c.in-Some.is c.walk.invariant in
    inv.0.known

pub returns-in_err-offer-in-Some-clause-moves : goal.returns-in_err-offer-in-Some-clause-moves
returns-in_err-offer-in-Some-clause-moves g c =
    let inv = subst (λ o. Loops.Climbs (g.V.NodeView.sees c.args.view.now)
    (g.V.NodeView.sees c.walk.view) c.args.n axis.Ancestor c.args.test.now c.walk.found.met c.walk.found.rows o) c.in-Some.is c.walk.invariant in
    moves_on _ _ _ inv.0.moved c.offer.ensures.moves

pub returns-in_err-offer-in-Some-clause-answers : goal.returns-in_err-offer-in-Some-clause-answers
returns-in_err-offer-in-Some-clause-answers g c =
    Loops.out_of_memory (g.V.NodeView.sees c.args.view.now) (g.V.NodeView.sees c.offer.new.view) c.args.n axis.Ancestor c.args.test.now c.from_residual.result c.from_residual.ensures.1

pub parent-up-requires-in-Some : goal.parent-up-requires-in-Some
parent-up-requires-in-Some g c =
    let inv = subst (λ o. Loops.Climbs (g.V.NodeView.sees c.args.view.now)
    (g.V.NodeView.sees c.walk.view) c.args.n axis.Ancestor c.args.test.now c.walk.found.met c.walk.found.rows o) c.in-Some.is c.walk.invariant in
    (let l = joined_grows _ _ c.args.n c.offer.ensures.moves.grows inv.0.joined in omega (arith, inv.0.within, l))

pub walk-smaller : goal.walk-smaller
walk-smaller g c =
    let inv = subst (λ o. Loops.Climbs (g.V.NodeView.sees c.args.view.now)
    (g.V.NodeView.sees c.walk.view) c.args.n axis.Ancestor c.args.test.now c.walk.found.met c.walk.found.rows o) c.in-Some.is c.walk.invariant in
    (let less = Loops.climb_less _ c.in-Some.k _ (sym c.parent-up-in-Some.ensures.value) in omega (arith, less, ap Loops.left_to c.in-Some.is))

pub walk-preserved : goal.walk-preserved
walk-preserved g c =
    let inv = subst (λ o. Loops.Climbs (g.V.NodeView.sees c.args.view.now)
    (g.V.NodeView.sees c.walk.view) c.args.n axis.Ancestor c.args.test.now c.walk.found.met c.walk.found.rows o) c.in-Some.is c.walk.invariant in
    Loops.climbed _ _ _ _ c.args.n axis.Ancestor c.args.test.now c.in-Some.k _ _ _ _ _ (λ rows k l. refl) inv
    (Loops.below_less (rows_of (g.V.NodeView.sees c.walk.view).steps) c.in-Some.k c.args.n inv.1) c.offer.ensures.moves c.offer.ensures.met c.in_ok-offer-in-Some.ensures.rows c.parent-up-in-Some.ensures.moves (sym c.parent-up-in-Some.ensures.value)

pub returns-in-None-clause-moves : goal.returns-in-None-clause-moves
returns-in-None-clause-moves g c =
    let inv = subst (λ o. Loops.Climbs (g.V.NodeView.sees c.args.view.now)
    (g.V.NodeView.sees c.walk.view) c.args.n axis.Ancestor c.args.test.now c.walk.found.met c.walk.found.rows o) c.in-None.is c.walk.invariant in
    inv.moved

pub returns-in-None-clause-answers : goal.returns-in-None-clause-answers
returns-in-None-clause-answers g c =
    let inv = subst (λ o. Loops.Climbs (g.V.NodeView.sees c.args.view.now)
    (g.V.NodeView.sees c.walk.view) c.args.n axis.Ancestor c.args.test.now c.walk.found.met c.walk.found.rows o) c.in-None.is c.walk.invariant in
    (Walks.climb_ends _ _ c.args.n c.args.test.now _ _ inv ∙ ap Known (sym c.into_rows.ensures))
