use Rattle.std.proofs.Common.{sym, arith}
use Rattle.doc_laws.proofs.Growth.{joined_grows}
use Rattle.doc_laws.proofs.Moving.{moves_on}
use Rattle.strip_rules.proofs.Earlier.{returns_none_yet}
use Rattle.strip_rules.proofs.Skips.{back_within, back_found, back_on, back_end}
use Rattle.strip_rules.proofs.siblings.prev_shown.Goals as goal

pub back-init : goal.back-init
back-init g c = record { moved = c.told.ensures; returning = returns_none_yet _ _ _ (joined_grows _ _ _ c.told.ensures.grows c.requires.joined) }

pub prev-requires : goal.prev-requires
prev-requires g c = let r = c.back.invariant.returning in omega (arith, r.within, r.order)

pub returns-in-None : goal.returns-in-None
returns-in-None g c = record {
  moves = moves_on _ _ _ c.back.invariant.moved c.prev.ensures.moves;
  value = sym (back_end _ _ _ _ _ _ c.back.invariant.moved c.requires.plain c.back.invariant.returning c.prev.ensures.moves (sym c.in-None.ensures.value));
}

pub is_shown-requires-clause-joined : goal.is_shown-requires-clause-joined
is_shown-requires-clause-joined g c = back_within _ _ _ _ _ _ c.back.invariant.moved c.requires.plain c.back.invariant.returning c.prev.ensures.moves _ (sym c.in-Some.ensures.value)

pub returns-then-is_shown : goal.returns-then-is_shown
returns-then-is_shown g c = record {
  moves = moves_on _ _ _ (moves_on _ _ _ c.back.invariant.moved c.prev.ensures.moves) c.is_shown.ensures.moves;
  value = sym (back_found _ _ _ _ _ _ c.back.invariant.moved c.requires.plain c.back.invariant.returning c.prev.ensures.moves _ _ c.is_shown.ensures.moves
      (sym c.in-Some.ensures.value) c.if-is_shown.ensures.value);
}

pub back-smaller : goal.back-smaller
back-smaller g c = (back_on _ _ _ _ _ _ c.back.invariant.moved c.requires.plain c.back.invariant.returning c.prev.ensures.moves _ _ c.is_shown.ensures.moves
    (sym c.in-Some.ensures.value) c.if-is_shown.ensures.value).1

pub back-preserved : goal.back-preserved
back-preserved g c = record {
  moved = moves_on _ _ _ (moves_on _ _ _ c.back.invariant.moved c.prev.ensures.moves) c.is_shown.ensures.moves;
  returning = (back_on _ _ _ _ _ _ c.back.invariant.moved c.requires.plain c.back.invariant.returning c.prev.ensures.moves _ _ c.is_shown.ensures.moves
      (sym c.in-Some.ensures.value) c.if-is_shown.ensures.value).0;
}
