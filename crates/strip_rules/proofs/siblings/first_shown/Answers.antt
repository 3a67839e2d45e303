use Rattle.std.proofs.Common.{◌∙◌}
use Rattle.doc_laws.proofs.Growth.{joined_grows}
use Rattle.doc_laws.proofs.Moving.{moves_on}
use Rattle.strip_rules.proofs.Skips.{enter_joined, enter_found, enter_is, enter_nothing}
use Rattle.strip_rules.proofs.siblings.first_shown.Goals as goal

pub returns-in-Nothing : goal.returns-in-Nothing
returns-in-Nothing g c = record {
  moves = c.first.ensures.moves;
  value = let v = c.in-Nothing.ensures.value in (enter_nothing c.args.rules.now _ _ c.args.n c.requires.plain c.first.ensures.moves (g.V.NodeView.sees c.first.new.self).steps v.0, v.1);
}

pub returns-in-NotYet : goal.returns-in-NotYet
returns-in-NotYet g c = record {
  moves = c.first.ensures.moves;
  value = let a = c.in-NotYet.ensures.value in (a.0, a.1, a.2, (enter_nothing c.args.rules.now _ _ c.args.n c.requires.plain c.first.ensures.moves (a.0) a.3.0, a.3.1));
}

pub is_shown-requires-clause-joined : goal.is_shown-requires-clause-joined
is_shown-requires-clause-joined g c = enter_joined c.args.rules.now _ _ c.args.n _ c.requires.plain c.first.ensures.moves c.in-Node.ensures.value

pub returns-then-is_shown : goal.returns-then-is_shown
returns-then-is_shown g c = record {
  moves = moves_on _ _ _ c.first.ensures.moves c.is_shown.ensures.moves;
  value = enter_found c.args.rules.now _ _ _ c.args.n _ c.requires.plain c.requires.joined c.first.ensures.moves c.is_shown.ensures.moves c.in-Node.ensures.value c.if-is_shown.ensures.value;
}

pub next_shown-requires-clause-joined : goal.next_shown-requires-clause-joined
next_shown-requires-clause-joined g c = joined_grows _ _ _ c.is_shown.ensures.moves.grows (enter_joined c.args.rules.now _ _ c.args.n _ c.requires.plain c.first.ensures.moves c.in-Node.ensures.value)

pub next_shown-requires-clause-plain : goal.next_shown-requires-clause-plain
next_shown-requires-clause-plain g c = (moves_on _ _ _ c.first.ensures.moves c.is_shown.ensures.moves).rules_stay ∙ c.requires.plain

pub returns : goal.returns
returns g c = record {
  moves = moves_on _ _ _ (moves_on _ _ _ c.first.ensures.moves c.is_shown.ensures.moves) c.next_shown.ensures.moves;
  value = enter_is c.args.rules.now _ _ _ _ c.args.n _ _ c.requires.plain c.requires.joined c.first.ensures.moves c.is_shown.ensures.moves c.next_shown.ensures.moves c.in-Node.ensures.value c.if-is_shown.ensures.value c.next_shown.ensures.value;
}
