use Rattle.std.proofs.Common.{◌≡◌, ◌∙◌, ◌+◌, ◌<◌, ◌^◌, cond, ap, sym, nat_le, arith, inr}
use Rattle.std.proofs.lemmas.Bool.{le-leb, lt-leb}
use Rattle.doc_laws.proofs.Moving.{moves_on}
use Rattle.doc_laws.proofs.Growth.{joined_grows}
use Rattle.text_walk.proofs.Reach.{ahead_later, way_later, faulted, not_deep}
use Rattle.text_walk.proofs.Asked.{moved_on, moved_grows, caught_up, behind_joined, behind_here, asked_node, asked_childless, asked_waiting}
use Rattle.text_walk.proofs.Asked.{asked_last, asked_below, asked_end, taken, taken_further, few_events, as_count, at_most_one, ahead_at, kept}
use Rattle.text_walk.proofs.Asked.{on_err}
use Rattle.text_walk.proofs.walker.Walker.turn.Goals as goal

pub ask-requires : goal.ask-requires
ask-requires g c = behind_joined _ _ c.loop-view.self-inside.down _ _ _ c.loop-view.invariant.behind

pub decider-requires-clause-joined : goal.decider-requires-clause-joined
decider-requires-clause-joined g c = joined_grows _ _ _ c.ask.ensures.moves.grows (behind_joined _ _ c.loop-view.self-inside.down _ _ _ c.loop-view.invariant.behind)

pub returns-in-NotYet-clause-moves : goal.returns-in-NotYet-clause-moves
returns-in-NotYet-clause-moves g c = moves_on _ _ _ (moved_on _ _ _ c.loop-view.invariant.moved c.ask.ensures.moves) c.decider.ensures.moves

pub returns-in-NotYet-clause-turn : goal.returns-in-NotYet-clause-turn
returns-in-NotYet-clause-turn g c =
    let inv = c.loop-view.invariant in
    let moves = moved_on _ _ _ inv.moved c.ask.ensures.moves in
    let way = caught_up _ _ _ c.loop-view.self-inside.down _ _ _ c.ask.ensures.moves inv.behind in
    asked_waiting _ _ _ c.requires.rules moves c.ask.ensures.moves _ _ _ _ _ c.decider.ensures.moves c.loop-view.self-inside.down c.decider.result
    (moved_grows _ _ inv.moved) way c.in-NotYet.ensures.value c.decider.ensures.value

pub loop-view-smaller-then-self : goal.loop-view-smaller-then-self
loop-view-smaller-then-self g c =
    let inv = c.loop-view.invariant in
    let moves = moved_on _ _ _ inv.moved c.ask.ensures.moves in
    let way = caught_up _ _ _ c.loop-view.self-inside.down _ _ _ c.ask.ensures.moves inv.behind in
    (asked_childless _ _ _ c.requires.rules moves c.ask.ensures.moves _ _ _ _ c.loop-view.self-inside.down c.if-self.true way c.in-Nothing.ensures.value).1

pub loop-view-preserved-then-self : goal.loop-view-preserved-then-self
loop-view-preserved-then-self g c =
    let inv = c.loop-view.invariant in
    let moves = moved_on _ _ _ inv.moved c.ask.ensures.moves in
    let way = caught_up _ _ _ c.loop-view.self-inside.down _ _ _ c.ask.ensures.moves inv.behind in
    record {
      moved = inr moves;
      behind = behind_here _ _ _ _ _ _ (asked_childless _ _ _ c.requires.rules moves c.ask.ensures.moves _ _ _ _ c.loop-view.self-inside.down c.if-self.true way c.in-Nothing.ensures.value).0;
    }

pub parent-requires : goal.parent-requires
parent-requires g c = joined_grows _ _ _ c.ask.ensures.moves.grows (behind_joined _ _ c.loop-view.self-inside.down _ _ _ c.loop-view.invariant.behind)

pub returns-in-None-clause-moves : goal.returns-in-None-clause-moves
returns-in-None-clause-moves g c = moves_on _ _ _ (moved_on _ _ _ c.loop-view.invariant.moved c.ask.ensures.moves) c.parent.ensures.moves

pub returns-in-None-clause-turn : goal.returns-in-None-clause-turn
returns-in-None-clause-turn g c =
    let inv = c.loop-view.invariant in
    let moves = moved_on _ _ _ inv.moved c.ask.ensures.moves in
    let way = caught_up _ _ _ c.loop-view.self-inside.down _ _ _ c.ask.ensures.moves inv.behind in
    asked_end _ _ _ c.requires.rules moves c.ask.ensures.moves _ _ _ _ _ c.parent.ensures.moves c.loop-view.self-inside.down c.if-self.false way (sym c.in-None.ensures.value)

pub overflow_sub-self : goal.overflow_sub-self
overflow_sub-self g c =
    let inv = c.loop-view.invariant in
    let moves = moved_on _ _ _ inv.moved c.ask.ensures.moves in
    let way = caught_up _ _ _ c.loop-view.self-inside.down _ _ _ c.ask.ensures.moves inv.behind in
    asked_below _ _ _ c.requires.rules moves c.ask.ensures.moves _ _ _ _ _ c.parent.ensures.moves c.loop-view.self-inside.down way c.in-Some.up (sym c.in-Some.ensures.value)

pub loop-view-smaller-in-Some : goal.loop-view-smaller-in-Some
loop-view-smaller-in-Some g c =
    let inv = c.loop-view.invariant in
    let moves = moved_on _ _ _ inv.moved c.ask.ensures.moves in
    let way = caught_up _ _ _ c.loop-view.self-inside.down _ _ _ c.ask.ensures.moves inv.behind in
    (asked_last _ _ _ c.requires.rules moves c.ask.ensures.moves _ _ _ _ _ c.parent.ensures.moves c.loop-view.self-inside.down c.if-self.false way c.in-Nothing.ensures.value c.in-Some.up (sym c.in-Some.ensures.value)).1

pub loop-view-preserved-in-Some : goal.loop-view-preserved-in-Some
loop-view-preserved-in-Some g c =
    let inv = c.loop-view.invariant in
    let moves = moved_on _ _ _ inv.moved c.ask.ensures.moves in
    let way = caught_up _ _ _ c.loop-view.self-inside.down _ _ _ c.ask.ensures.moves inv.behind in
    record {
      moved = inr (moves_on _ _ _ moves c.parent.ensures.moves);
      behind = behind_here _ _ _ _ _ _
          (asked_last _ _ _ c.requires.rules moves c.ask.ensures.moves _ _ _ _ _ c.parent.ensures.moves c.loop-view.self-inside.down c.if-self.false way c.in-Nothing.ensures.value c.in-Some.up (sym c.in-Some.ensures.value)).0;
    }

pub overflow_add-depth : goal.overflow_add-depth
overflow_add-depth g c =
    let inv = c.loop-view.invariant in
    let way = caught_up _ _ _ c.loop-view.self-inside.down _ _ _ c.ask.ensures.moves inv.behind in
    let small : c.loop-view.self-inside.depth < 500 = not_deep _ _ c.loop-view.self-inside.down _ _ _ way in
    let one = c.from.ensures ∙ as_count c.loop-view.self-inside.down in
    omega (arith, small, one, at_most_one c.loop-view.self-inside.down)

pub returns-then-depth-ge-MOST_NESTED-clause-moves : goal.returns-then-depth-ge-MOST_NESTED-clause-moves
returns-then-depth-ge-MOST_NESTED-clause-moves g c = moved_on _ _ _ c.loop-view.invariant.moved c.ask.ensures.moves

pub returns-then-depth-ge-MOST_NESTED-clause-turn : goal.returns-then-depth-ge-MOST_NESTED-clause-turn
returns-then-depth-ge-MOST_NESTED-clause-turn g c =
    let inv = c.loop-view.invariant in
    let moves = moved_on _ _ _ inv.moved c.ask.ensures.moves in
    let way = caught_up _ _ _ c.loop-view.self-inside.down _ _ _ c.ask.ensures.moves inv.behind in
    let ahead = (asked_node _ _ _ c.requires.rules moves c.ask.ensures.moves _ _ _ _ c.loop-view.self-inside.down c.in-Node.found way c.in-Node.ensures.value).0 in
    let now = way_later _ _ _ c.loop-view.self-inside.down _ _ _ c.ask.ensures.moves.grows c.ask.ensures.moves.seen.lawful way in
    let depth : c.loop-view.self-inside.depth + c.from.result ≡ c.loop-view.self-inside.depth + cond c.loop-view.self-inside.down 1 0 =
    ap (λ k. c.loop-view.self-inside.depth + k) (c.from.ensures ∙ as_count c.loop-view.self-inside.down) in
    faulted _ _ c.in-Node.found _ _ now ahead (ap (nat_le 500) (sym depth) ∙ le-leb 500 (c.loop-view.self-inside.depth + c.from.result) c.if-depth-ge-MOST_NESTED.true)

pub append_text-requires : goal.append_text-requires
append_text-requires g c =
    let inv = c.loop-view.invariant in
    let moves = moved_on _ _ _ inv.moved c.ask.ensures.moves in
    let way = caught_up _ _ _ c.loop-view.self-inside.down _ _ _ c.ask.ensures.moves inv.behind in
    (asked_node _ _ _ c.requires.rules moves c.ask.ensures.moves _ _ _ _ c.loop-view.self-inside.down c.in-Node.found way c.in-Node.ensures.value).0.joined

pub returns-in_err-event-in-Node-clause-moves : goal.returns-in_err-event-in-Node-clause-moves
returns-in_err-event-in-Node-clause-moves g c = moves_on _ _ _ (moved_on _ _ _ c.loop-view.invariant.moved c.ask.ensures.moves) c.append_text.ensures.moves

pub overflow_add-self : goal.overflow_add-self
overflow_add-self g c =
    let inv = c.loop-view.invariant in
    let moves = moved_on _ _ _ inv.moved c.ask.ensures.moves in
    let way = caught_up _ _ _ c.loop-view.self-inside.down _ _ _ c.ask.ensures.moves inv.behind in
    let ahead = (asked_node _ _ _ c.requires.rules moves c.ask.ensures.moves _ _ _ _ c.loop-view.self-inside.down c.in-Node.found way c.in-Node.ensures.value).0 in
    let few : c.loop-view.self-inside.made < 2 ^ 32 = few_events _ _ _ _ _ c.ask.ensures.moves.seen.lawful ahead in
    let one = c.from-in-Node.ensures ∙ as_count c.in_ok-event-in-Node.event in
    omega (arith, few, one, at_most_one c.in_ok-event-in-Node.event)

pub returns-in_err-event-in-Node-clause-err : goal.returns-in_err-event-in-Node-clause-err
returns-in_err-event-in-Node-clause-err g c =
    let inv = c.loop-view.invariant in
    let way = caught_up _ _ _ c.loop-view.self-inside.down _ _ _ c.ask.ensures.moves inv.behind in
    let now = way_later _ _ _ c.loop-view.self-inside.down _ _ _ c.ask.ensures.moves.grows c.ask.ensures.moves.seen.lawful way in
    let then = way_later _ _ _ c.loop-view.self-inside.down _ _ _ c.append_text.ensures.moves.grows c.append_text.ensures.moves.seen.lawful now in
    on_err c.from_residual.result (kept _ _ c.loop-view.self-inside.down _ _ _ _ c.in_err-event-in-Node.ensures.err then)

pub loop-view-smaller : goal.loop-view-smaller
loop-view-smaller g c =
    let inv = c.loop-view.invariant in
    let moves = moved_on _ _ _ inv.moved c.ask.ensures.moves in
    let way = caught_up _ _ _ c.loop-view.self-inside.down _ _ _ c.ask.ensures.moves inv.behind in
    let next = asked_node _ _ _ c.requires.rules moves c.ask.ensures.moves _ _ _ _ c.loop-view.self-inside.down c.in-Node.found way c.in-Node.ensures.value in
    let lawful = c.append_text.ensures.moves.seen.lawful in
    taken_further _ c.in-Node.found _ _ _ _ c.loop-view.self-inside.row c.loop-view.self-inside.down lawful
    (ahead_later _ _ c.in-Node.found _ _ _ c.append_text.ensures.moves.grows lawful next.0) next.1

pub loop-view-preserved : goal.loop-view-preserved
loop-view-preserved g c =
    let inv = c.loop-view.invariant in
    let moves = moved_on _ _ _ inv.moved c.ask.ensures.moves in
    let way = caught_up _ _ _ c.loop-view.self-inside.down _ _ _ c.ask.ensures.moves inv.behind in
    let next = asked_node _ _ _ c.requires.rules moves c.ask.ensures.moves _ _ _ _ c.loop-view.self-inside.down c.in-Node.found way c.in-Node.ensures.value in
    let lawful = c.append_text.ensures.moves.seen.lawful in
    let depth : c.loop-view.self-inside.depth + c.from.result ≡ c.loop-view.self-inside.depth + cond c.loop-view.self-inside.down 1 0 =
    ap (λ k. c.loop-view.self-inside.depth + k) (c.from.ensures ∙ as_count c.loop-view.self-inside.down) in
    let ahead = ahead_at _ c.in-Node.found _ _ _ _ depth (ahead_later _ _ c.in-Node.found _ _ _ c.append_text.ensures.moves.grows lawful next.0) in
    record {
      moved = inr (moves_on _ _ _ moves c.append_text.ensures.moves);
      behind = behind_here _ _ _ _ _ _
          (taken _ c.in-Node.found _ _ _ _ c.in_ok-event-in-Node.event c.from-in-Node.result ahead
          (lt-leb 500 (c.loop-view.self-inside.depth + c.from.result) c.if-depth-ge-MOST_NESTED.false) c.in_ok-event-in-Node.ensures.text c.in_ok-event-in-Node.ensures.event
          (c.from-in-Node.ensures ∙ as_count c.in_ok-event-in-Node.event));
    }
