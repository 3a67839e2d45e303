use Rattle.std.proofs.Common.{◌∙◌, suc, sym, refl, ap, arith}
use Rattle.doc_model.specs.declared.row.Axis.TheVariants as axis
use Rattle.doc_model.specs.Answers.{Known}
use Rattle.doc_model.specs.Relations.{sibling_parent}
use Rattle.doc_model.specs.Rows.{rows_of}
use Rattle.doc_laws.proofs.Growth.{joined_grows}
use Rattle.doc_laws.proofs.Moving.{moves_on}
use Rattle.axis_walkers.proofs.Loops
use Rattle.axis_walkers.proofs.Walks
use Rattle.axis_walkers.proofs.siblings.following_siblings.Goals as goal

pub parent-requires : goal.parent-requires
parent-requires g c = c.requires

pub returns-in-None-clause-moves : goal.returns-in-None-clause-moves
returns-in-None-clause-moves g c = c.parent.ensures.moves

pub returns-in-None-clause-answers : goal.returns-in-None-clause-answers
returns-in-None-clause-answers g c =
    (let e = Loops.no_sibling_parent _ c.args.n (sym c.in-None.ensures.value) in Walks.no_siblings c.new-found.result.met c.new-found.result.rows _ _ c.args.n c.args.test.now
    (record { none = c.new-found.ensures.met; empty = c.new-found.ensures.rows }) c.requires c.parent.ensures.moves e ∙ ap Known (sym c.into_rows.ensures))

pub walk-init : goal.walk-init
walk-init g c = record {
  past =
      record {
        goes = Walks.siblings_begin c.new-found.result.met c.new-found.result.rows _ _ c.args.n c.args.test.now
            (record { none = c.new-found.ensures.met; empty = c.new-found.ensures.rows }) c.requires c.parent.ensures.moves;
        there =
            joined_grows _ _ c.args.n c.parent.ensures.moves.grows c.requires;
        parent = Loops.sibling_parent_moves _ _ c.args.n c.parent.ensures.moves.grows c.requires;
      };
  order = omega arith;
}

pub next-requires : goal.next-requires
next-requires g c = c.walk.invariant.past.there

pub offer-requires-clause-joined : goal.offer-requires-clause-joined
offer-requires-clause-joined g c =
    let u = g.V.NodeView.sees c.next.new.self in
    let inv = c.walk.invariant in
    let m = moves_on _ _ _ inv.past.goes.moved c.next.ensures.moves in
    let are = Walks.siblings_are u.rules (rows_of u.steps) c.args.n c.args.test.now (sibling_parent (rows_of (g.V.NodeView.sees c.args.view.now).steps) c.args.n) (suc c.walk.at)
    (Loops.sibling_parent_moves _ _ c.args.n m.grows c.requires) (omega (arith, inv.order)) in
    let comes = Loops.next_comes _ _ _ c.args.n axis.FollowingSibling c.args.test.now
    (sibling_parent (rows_of (g.V.NodeView.sees c.args.view.now).steps) c.args.n) c.walk.at c.in-Node.k _ _ inv.past c.next.ensures.moves are c.in-Node.ensures.value in
    comes.there

pub offer-requires-clause-seen : goal.offer-requires-clause-seen
offer-requires-clause-seen g c = c.next.ensures.moves.seen

pub offer-requires-clause-met : goal.offer-requires-clause-met
offer-requires-clause-met g c =
    let u = g.V.NodeView.sees c.next.new.self in
    let inv = c.walk.invariant in
    let m = moves_on _ _ _ inv.past.goes.moved c.next.ensures.moves in
    let are = Walks.siblings_are u.rules (rows_of u.steps) c.args.n c.args.test.now (sibling_parent (rows_of (g.V.NodeView.sees c.args.view.now).steps) c.args.n) (suc c.walk.at)
    (Loops.sibling_parent_moves _ _ c.args.n m.grows c.requires) (omega (arith, inv.order)) in
    let comes = Loops.next_comes _ _ _ c.args.n axis.FollowingSibling c.args.test.now
    (sibling_parent (rows_of (g.V.NodeView.sees c.args.view.now).steps) c.args.n) c.walk.at c.in-Node.k _ _ inv.past c.next.ensures.moves are c.in-Node.ensures.value in
    comes.goes.known

pub returns-in_err-offer-in-Node-clause-moves : goal.returns-in_err-offer-in-Node-clause-moves
returns-in_err-offer-in-Node-clause-moves g c = moves_on _ _ _ (moves_on _ _ _ c.walk.invariant.past.goes.moved c.next.ensures.moves) c.offer.ensures.moves

pub returns-in_err-offer-in-Node-clause-answers : goal.returns-in_err-offer-in-Node-clause-answers
returns-in_err-offer-in-Node-clause-answers g c =
    Loops.out_of_memory (g.V.NodeView.sees c.args.view.now) (g.V.NodeView.sees c.offer.new.view) c.args.n axis.FollowingSibling c.args.test.now c.from_residual.result c.from_residual.ensures.1

pub walk-smaller : goal.walk-smaller
walk-smaller g c =
    let less = Loops.next_less _ _ _ c.args.n axis.FollowingSibling c.args.test.now
    (sibling_parent (rows_of (g.V.NodeView.sees c.args.view.now).steps) c.args.n) c.walk.at c.in-Node.k _ _ c.walk.invariant.past c.next.ensures.moves c.in-Node.ensures.value in
    omega (arith, less.0, less.1, c.next.ensures.moves.seen.lawful.few)

pub walk-preserved : goal.walk-preserved
walk-preserved g c =
    let u = g.V.NodeView.sees c.next.new.self in
    let inv = c.walk.invariant in
    let m = moves_on _ _ _ inv.past.goes.moved c.next.ensures.moves in
    let are = Walks.siblings_are u.rules (rows_of u.steps) c.args.n c.args.test.now (sibling_parent (rows_of (g.V.NodeView.sees c.args.view.now).steps) c.args.n) (suc c.walk.at)
    (Loops.sibling_parent_moves _ _ c.args.n m.grows c.requires) (omega (arith, inv.order)) in
    let comes = Loops.next_comes _ _ _ c.args.n axis.FollowingSibling c.args.test.now
    (sibling_parent (rows_of (g.V.NodeView.sees c.args.view.now).steps) c.args.n) c.walk.at c.in-Node.k _ _ inv.past c.next.ensures.moves are c.in-Node.ensures.value in
    let less = Loops.next_less _ _ _ c.args.n axis.FollowingSibling c.args.test.now
    (sibling_parent (rows_of (g.V.NodeView.sees c.args.view.now).steps) c.args.n) c.walk.at c.in-Node.k _ _ c.walk.invariant.past c.next.ensures.moves c.in-Node.ensures.value in
    record { past = Loops.passed _ _ _ c.args.n axis.FollowingSibling c.args.test.now _ c.in-Node.k _ _ _ _ comes c.offer.ensures.moves c.offer.ensures.met c.in_ok-offer-in-Node.ensures.rows; order = omega (arith, less.0, inv.order) }

pub returns-in-Nothing-clause-moves : goal.returns-in-Nothing-clause-moves
returns-in-Nothing-clause-moves g c = moves_on _ _ _ c.walk.invariant.past.goes.moved c.next.ensures.moves

pub returns-in-Nothing-clause-answers : goal.returns-in-Nothing-clause-answers
returns-in-Nothing-clause-answers g c =
    let u = g.V.NodeView.sees c.next.new.self in
    let inv = c.walk.invariant in
    let m = moves_on _ _ _ inv.past.goes.moved c.next.ensures.moves in
    let are = Walks.siblings_are u.rules (rows_of u.steps) c.args.n c.args.test.now (sibling_parent (rows_of (g.V.NodeView.sees c.args.view.now).steps) c.args.n) (suc c.walk.at)
    (Loops.sibling_parent_moves _ _ c.args.n m.grows c.requires) (omega (arith, inv.order)) in
    Loops.next_ends _ _ _ c.args.n axis.FollowingSibling c.args.test.now
    (sibling_parent (rows_of (g.V.NodeView.sees c.args.view.now).steps) c.args.n) c.walk.at _ _ inv.past c.next.ensures.moves are refl
    (Loops.sibling_parent_moves _ _ c.args.n m.grows c.requires) c.in-Nothing.ensures.value.0 c.in-Nothing.ensures.value.1 ∙ ap Known (sym c.into_rows-in-Nothing.ensures)

pub returns-in-NotYet-clause-moves : goal.returns-in-NotYet-clause-moves
returns-in-NotYet-clause-moves g c = moves_on _ _ _ c.walk.invariant.past.goes.moved c.next.ensures.moves

pub returns-in-NotYet-clause-answers : goal.returns-in-NotYet-clause-answers
returns-in-NotYet-clause-answers g c =
    Loops.sibling_waits (g.V.NodeView.sees c.args.view.now) (g.V.NodeView.sees c.walk.view)
    (g.V.NodeView.sees c.next.new.self) c.args.n c.args.test.now c.in-Some.above c.walk.at _ _ (g.V.NodeView.sees c.next.new.self).rules
    (sibling_parent (rows_of (g.V.NodeView.sees c.args.view.now).steps) c.args.n) c.walk.invariant.past c.requires refl
    (Loops.parent_or_none_before _ _ c.args.n c.in-Some.above c.parent.ensures.moves c.requires (sym c.in-Some.ensures.value)) c.in-NotYet.ensures.value
