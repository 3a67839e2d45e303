use Rattle.std.proofs.Common.{arith}
use Rattle.doc_laws.proofs.Growth.{joined_grows}
use Rattle.doc_laws.proofs.Moving.{moves_on}
use Rattle.strip_rules.proofs.Passing.{passes_none_yet}
use Rattle.strip_rules.proofs.Skips.{skip_within, skip_found, skip_on, skip_end, skip_not_yet}
use Rattle.strip_rules.proofs.siblings.next_shown.Goals as goal

pub pass-init : goal.pass-init
pass-init g c = record { moved = c.told.ensures; passes = passes_none_yet _ _ _ (joined_grows _ _ _ c.told.ensures.grows c.requires.joined) }

pub next-requires : goal.next-requires
next-requires g c = c.pass.invariant.passes.within

pub returns-in-Nothing : goal.returns-in-Nothing
returns-in-Nothing g c = record {
  moves = moves_on _ _ _ c.pass.invariant.moved c.next.ensures.moves;
  value = let v = c.in-Nothing.ensures.value in skip_end _ _ _ _ _ _ c.pass.invariant.moved c.requires.plain c.pass.invariant.passes c.next.ensures.moves v.0 v.1;
}

pub returns-in-NotYet : goal.returns-in-NotYet
returns-in-NotYet g c = record {
  moves = moves_on _ _ _ c.pass.invariant.moved c.next.ensures.moves;
  value = skip_not_yet _ _ _ _ _ _ c.pass.invariant.moved c.requires.plain c.pass.invariant.passes c.next.ensures.moves c.in-NotYet.ensures.value;
}

pub is_shown-requires-clause-joined : goal.is_shown-requires-clause-joined
is_shown-requires-clause-joined g c = skip_within _ _ _ _ _ _ c.pass.invariant.moved c.requires.plain c.pass.invariant.passes c.next.ensures.moves _ c.in-Node.ensures.value

pub returns-then-is_shown : goal.returns-then-is_shown
returns-then-is_shown g c = record {
  moves = moves_on _ _ _ (moves_on _ _ _ c.pass.invariant.moved c.next.ensures.moves) c.is_shown.ensures.moves;
  value = skip_found _ _ _ _ _ _ c.pass.invariant.moved c.requires.plain c.pass.invariant.passes c.next.ensures.moves _ _ c.is_shown.ensures.moves c.in-Node.ensures.value c.if-is_shown.ensures.value;
}

pub pass-smaller : goal.pass-smaller
pass-smaller g c = let on = skip_on _ _ _ _ _ _ c.pass.invariant.moved c.requires.plain c.pass.invariant.passes c.next.ensures.moves _ _ c.is_shown.ensures.moves c.in-Node.ensures.value c.if-is_shown.ensures.value in omega (arith, on.1)

pub pass-preserved : goal.pass-preserved
pass-preserved g c = record {
  moved = moves_on _ _ _ (moves_on _ _ _ c.pass.invariant.moved c.next.ensures.moves) c.is_shown.ensures.moves;
  passes = (skip_on _ _ _ _ _ _ c.pass.invariant.moved c.requires.plain c.pass.invariant.passes c.next.ensures.moves _ _ c.is_shown.ensures.moves c.in-Node.ensures.value c.if-is_shown.ensures.value).0;
}
