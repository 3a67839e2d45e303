use Rattle.std.proofs.Common.{◌∙◌, ◌∷◌, [], sym, ap, refl, subst, arith, length, length-append}
use Rattle.doc_model.specs.Rows.{rows_of}
use Rattle.doc_laws.proofs.Links.{parent_before}
use Rattle.doc_laws.proofs.Moving.{moves_on}
use Rattle.xpath_laws.specs.Sound.{Each}
use Rattle.xpath_nodes.proofs.Holding.{there_on}
use Rattle.patterns.specs.Places.{PlaceIsThere, IsWithin, weight}
use Rattle.patterns.specs.Trials.{place_at}
use Rattle.patterns.proofs.Standing.{parent_there}
use Rattle.patterns.proofs.Going.{left_start, left_none, left_some, left_nowhere, each_last, each_front, each_push, weight_push, places_on}
use Rattle.patterns.proofs.trials.Search.resume.Goals as goal

pub loop-fork-init : goal.loop-fork-init
loop-fork-init g c = record {
  moved = c.told.ensures;
  tried = refl;
  there = places_on _ _ _ c.told.ensures c.requires.there;
  within = λ count a. a;
  lighter = omega arith;
  goes = λ path. left_start _ path c.args.self.now.tried c.args.self.now.forks;
}

pub parent-requires : goal.parent-requires
parent-requires g c = (each_last (PlaceIsThere (g.V.NodeView.sees c.loop-fork.view)) c.pop.new.self c.in-Some.fork
    (subst (Each (PlaceIsThere (g.V.NodeView.sees c.loop-fork.view))) c.in-Some.ensures c.loop-fork.invariant.there)).0

pub returns-in_err-push-clause-moves : goal.returns-in_err-push-clause-moves
returns-in_err-push-clause-moves g c = moves_on _ _ _ c.loop-fork.invariant.moved c.parent.ensures.moves

pub returns-in_err-push-clause-tried : goal.returns-in_err-push-clause-tried
returns-in_err-push-clause-tried g c = c.loop-fork.invariant.tried

pub returns-in-Some-parent-clause-moves : goal.returns-in-Some-parent-clause-moves
returns-in-Some-parent-clause-moves g c = moves_on _ _ _ c.loop-fork.invariant.moved c.parent.ensures.moves

pub returns-in-Some-parent-clause-tried : goal.returns-in-Some-parent-clause-tried
returns-in-Some-parent-clause-tried g c = c.loop-fork.invariant.tried

pub returns-in-Some-parent-clause-there : goal.returns-in-Some-parent-clause-there
returns-in-Some-parent-clause-there g c =
    let t = g.V.NodeView.sees c.parent.new.self in
    let all = subst (Each (PlaceIsThere (g.V.NodeView.sees c.loop-fork.view))) c.in-Some.ensures c.loop-fork.invariant.there in
    let fork = there_on _ _ c.in-Some.fork.node c.parent.ensures.moves (each_last (PlaceIsThere (g.V.NodeView.sees c.loop-fork.view)) c.pop.new.self c.in-Some.fork all) in
    let front = places_on _ _ c.pop.new.self c.parent.ensures.moves (each_front (PlaceIsThere (g.V.NodeView.sees c.loop-fork.view)) c.pop.new.self c.in-Some.fork all) in
    let up = parent_there t.rules t.steps c.in-Some.fork.node c.in-Some-parent.above c.parent.ensures.moves.seen.lawful fork.0 (sym c.in-Some-parent.ensures.value) in
    subst (Each (PlaceIsThere t)) (sym c.in_ok-push.ensures.ok) (each_push (PlaceIsThere t) c.pop.new.self (place_at c.in-Some.fork.steps c.in-Some-parent.above) front up)

pub returns-in-Some-parent-clause-found : goal.returns-in-Some-parent-clause-found
returns-in-Some-parent-clause-found g c =
    let t = g.V.NodeView.sees c.parent.new.self in
    let all = subst (Each (PlaceIsThere (g.V.NodeView.sees c.loop-fork.view))) c.in-Some.ensures c.loop-fork.invariant.there in
    let fork = there_on _ _ c.in-Some.fork.node c.parent.ensures.moves (each_last (PlaceIsThere (g.V.NodeView.sees c.loop-fork.view)) c.pop.new.self c.in-Some.fork all) in
    let front = places_on _ _ c.pop.new.self c.parent.ensures.moves (each_front (PlaceIsThere (g.V.NodeView.sees c.loop-fork.view)) c.pop.new.self c.in-Some.fork all) in
    let up = parent_there t.rules t.steps c.in-Some.fork.node c.in-Some-parent.above c.parent.ensures.moves.seen.lawful fork.0 (sym c.in-Some-parent.ensures.value) in
    up

pub returns-in-Some-parent-clause-within : goal.returns-in-Some-parent-clause-within
returns-in-Some-parent-clause-within g c = λ count a.
    let all = subst (Each (IsWithin count)) c.in-Some.ensures (c.loop-fork.invariant.within count a) in
    let last = each_last (IsWithin count) c.pop.new.self c.in-Some.fork all in (
      subst (Each (IsWithin count)) (sym c.in_ok-push.ensures.ok)
          (each_push (IsWithin count) c.pop.new.self (place_at c.in-Some.fork.steps c.in-Some-parent.above) (each_front (IsWithin count) c.pop.new.self c.in-Some.fork all) last),
      last,
    )

pub returns-in-Some-parent-clause-lighter : goal.returns-in-Some-parent-clause-lighter
returns-in-Some-parent-clause-lighter g c =
    let less = (parent_before (rows_of (g.V.NodeView.sees c.parent.new.self).steps) c.in-Some.fork.node c.in-Some-parent.above (sym c.in-Some-parent.ensures.value)).0 in
    let before = ap weight c.in-Some.ensures ∙ weight_push c.pop.new.self c.in-Some.fork in
    let after = ap weight c.in_ok-push.ensures.ok ∙ weight_push c.pop.new.self (place_at c.in-Some.fork.steps c.in-Some-parent.above) in
    let bound = c.loop-fork.invariant.lighter in
    omega (arith, less, before, after, bound)

pub returns-in-Some-parent-clause-goes : goal.returns-in-Some-parent-clause-goes
returns-in-Some-parent-clause-goes g c = λ path.
    let t = g.V.NodeView.sees c.parent.new.self in
    let all = subst (Each (PlaceIsThere (g.V.NodeView.sees c.loop-fork.view))) c.in-Some.ensures c.loop-fork.invariant.there in
    let fork = there_on _ _ c.in-Some.fork.node c.parent.ensures.moves (each_last (PlaceIsThere (g.V.NodeView.sees c.loop-fork.view)) c.pop.new.self c.in-Some.fork all) in
    let front = places_on _ _ c.pop.new.self c.parent.ensures.moves (each_front (PlaceIsThere (g.V.NodeView.sees c.loop-fork.view)) c.pop.new.self c.in-Some.fork all) in
    left_some _ t path c.args.self.now.tried c.args.self.now.forks c.loop-fork.self.forks c.pop.new.self c.push.new.self c.in-Some.fork c.in-Some-parent.above c.parent.ensures.moves
    c.in-Some.ensures c.in_ok-push.ensures.ok fork
    (sym c.in-Some-parent.ensures.value) (c.loop-fork.invariant.goes path)

pub loop-fork-smaller : goal.loop-fork-smaller
loop-fork-smaller g c = let e = ap length c.in-Some.ensures in omega (arith, e, length-append c.pop.new.self (c.in-Some.fork ∷ []))

pub loop-fork-preserved : goal.loop-fork-preserved
loop-fork-preserved g c =
    let t = g.V.NodeView.sees c.parent.new.self in
    let all = subst (Each (PlaceIsThere (g.V.NodeView.sees c.loop-fork.view))) c.in-Some.ensures c.loop-fork.invariant.there in
    let fork = there_on _ _ c.in-Some.fork.node c.parent.ensures.moves (each_last (PlaceIsThere (g.V.NodeView.sees c.loop-fork.view)) c.pop.new.self c.in-Some.fork all) in
    let front = places_on _ _ c.pop.new.self c.parent.ensures.moves (each_front (PlaceIsThere (g.V.NodeView.sees c.loop-fork.view)) c.pop.new.self c.in-Some.fork all) in
    record {
      moved = moves_on _ _ _ c.loop-fork.invariant.moved c.parent.ensures.moves;
      tried = c.loop-fork.invariant.tried;
      there = front;
      within = λ count a. each_front (IsWithin count) c.pop.new.self c.in-Some.fork (subst (Each (IsWithin count)) c.in-Some.ensures (c.loop-fork.invariant.within count a));
      lighter = (let before = ap weight c.in-Some.ensures ∙ weight_push c.pop.new.self c.in-Some.fork in let bound = c.loop-fork.invariant.lighter in omega (arith, before, bound));
      goes = λ path. left_none _ t path c.args.self.now.tried c.args.self.now.forks c.loop-fork.self.forks c.pop.new.self c.in-Some.fork c.parent.ensures.moves c.in-Some.ensures fork
          (sym c.in_default-parent.ensures.value) (c.loop-fork.invariant.goes path);
    }

pub returns-clause-moves : goal.returns-clause-moves
returns-clause-moves g c = c.loop-fork.invariant.moved

pub returns-clause-tried : goal.returns-clause-tried
returns-clause-tried g c = c.loop-fork.invariant.tried

pub returns-clause-goes : goal.returns-clause-goes
returns-clause-goes g c = λ path. left_nowhere _ path c.args.self.now.tried c.args.self.now.forks c.loop-fork.self.forks c.pop.new.self c.in_default.ensures.0 (c.loop-fork.invariant.goes path)
