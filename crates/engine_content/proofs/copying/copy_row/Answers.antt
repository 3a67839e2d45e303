use Rattle.std.proofs.Common.{◌≡◌, ◌-◌, ◌++◌, Some, ap, sym, ◌∙◌, arith}
use Rattle.doc_model.specs.declared.row.Row.{Row}
use Rattle.doc_model.specs.Document.{is_parent}
use Rattle.doc_model.specs.Lawful.{IsJoined}
use Rattle.doc_model.specs.Relations.{parent_of}
use Rattle.doc_model.specs.Rows.{rows_of}
use Rattle.doc_laws.proofs.Growth.{joined_grows}
use Rattle.doc_laws.proofs.Moving.{moves_on}
use Rattle.copy_meaning.specs.Passes.{ends, beginning_shown}
use Rattle.copy_meaning.proofs.Documents.{lawful_document}
use Rattle.engine_content.proofs.Chains.{parent_around, parent_some, parent_later, ends_before, behind_itself, behind_parent, innermost_later, innermost_parent, is_there}
use Rattle.engine_content.proofs.Rows.{row_later}
use Rattle.engine_content.proofs.copying.copy_row.Goals as goal

pub parent-requires : goal.parent-requires
parent-requires g c = joined_grows _ _ c.args.k c.kind-kind.ensures.moves.grows c.requires.joined

pub unwrap-up-requires : goal.unwrap-up-requires
unwrap-up-requires g c =
    let now = (g.V.NodeView.sees c.parent.new.self).steps in
    let m = moves_on _ _ _ c.kind-kind.ensures.moves c.parent.ensures.moves in
    is_there c.parent.result (λ e. parent_some (rows_of now) (lawful_document now m.seen.lawful) c.args.k (joined_grows _ _ c.args.k m.grows c.requires.joined)
    (omega (arith, c.requires.later)) (sym c.parent.ensures.value ∙ e))

pub climb-requires-clause-joined : goal.climb-requires-clause-joined
climb-requires-clause-joined g c =
    let m = moves_on _ _ _ c.kind-kind.ensures.moves c.parent.ensures.moves in
    let j : IsJoined (g.V.NodeView.sees c.args.view.now).steps c.args.at = omega (arith, c.requires.joined, c.requires.later) in
    joined_grows _ _ c.args.at m.grows j

pub climb-requires-clause-around : goal.climb-requires-clause-around
climb-requires-clause-around g c =
    let old = (g.V.NodeView.sees c.args.view.now).steps in
    let now = (g.V.NodeView.sees c.parent.new.self).steps in
    let m = moves_on _ _ _ c.kind-kind.ensures.moves c.parent.ensures.moves in
    let j : IsJoined old (c.args.k - 1) = omega (arith, c.requires.joined) in
    parent_around (rows_of now) (lawful_document now m.seen.lawful) c.args.at c.args.k c.unwrap-up.result (joined_grows _ _ c.args.k m.grows c.requires.joined) c.requires.later
    (innermost_later old now c.args.at (c.args.k - 1) m.grows j c.requires.holds) (sym c.parent.ensures.value ∙ c.unwrap-up.ensures)

pub returns-in_err-climb-clause-moves : goal.returns-in_err-climb-clause-moves
returns-in_err-climb-clause-moves g c = moves_on _ _ _ (moves_on _ _ _ c.kind-kind.ensures.moves c.parent.ensures.moves) c.climb.ensures.moves

pub begin_shown-requires-clause-joined : goal.begin_shown-requires-clause-joined
begin_shown-requires-clause-joined g c =
    let m = moves_on _ _ _ (moves_on _ _ _ c.kind-kind.ensures.moves c.parent.ensures.moves) c.climb.ensures.moves in
    joined_grows _ _ c.args.k m.grows c.requires.joined

pub begin_shown-requires-clause-kind : goal.begin_shown-requires-clause-kind
begin_shown-requires-clause-kind g c =
    let m = moves_on _ _ _ c.parent.ensures.moves c.climb.ensures.moves in
    c.kind-kind.ensures.value ∙ sym
    (ap (λ (r : Row). r.kind) (row_later (g.V.NodeView.sees c.kind-kind.new.self).steps (g.V.NodeView.sees c.climb.new.view).steps c.args.k m.grows
    (joined_grows _ _ c.args.k c.kind-kind.ensures.moves.grows c.requires.joined)))

pub returns-then-may_have_children-clause-value : goal.returns-then-may_have_children-clause-value
returns-then-may_have_children-clause-value g c =
    let old = (g.V.NodeView.sees c.args.view.now).steps in
    let mid = (g.V.NodeView.sees c.parent.new.self).steps in
    let up = (g.V.NodeView.sees c.climb.new.view).steps in
    let new = g.V.NodeView.sees c.begin_shown.new.view in
    let first = moves_on _ _ _ c.kind-kind.ensures.moves c.parent.ensures.moves in
    let all = moves_on _ _ _ first c.climb.ensures.moves in
    let rest = moves_on _ _ _ c.climb.ensures.moves c.begin_shown.ensures.moves in
    let j : IsJoined old c.args.at = omega (arith, c.requires.joined, c.requires.later) in
    let parent : parent_of (rows_of new.steps) c.args.k ≡ Some c.unwrap-up.result =
    parent_later mid new.steps c.args.k rest.grows (joined_grows _ _ c.args.k first.grows c.requires.joined) ∙ sym c.parent.ensures.value ∙ c.unwrap-up.ensures in
    let count = ends_before up new.steps c.args.at c.unwrap-up.result c.args.k c.begin_shown.ensures.moves.grows c.begin_shown.ensures.moves.seen.lawful
    (joined_grows _ _ c.args.at all.grows j) (joined_grows _ _ c.args.k all.grows c.requires.joined) parent in
    c.in_ok-begin_shown.ensures.value ∙ ap (λ xs. xs ++ beginning_shown new.rules (rows_of new.steps) c.args.k) (c.in_ok-climb.ensures.value ∙ ap (λ n. c.args.made.now ++ ends n) count)

pub returns-then-may_have_children-clause-depth : goal.returns-then-may_have_children-clause-depth
returns-then-may_have_children-clause-depth g c =
    let seen = (g.V.NodeView.sees c.kind-kind.new.self).steps in
    let new = (g.V.NodeView.sees c.begin_shown.new.view).steps in
    let rest = moves_on _ _ _ c.parent.ensures.moves (moves_on _ _ _ c.climb.ensures.moves c.begin_shown.ensures.moves) in
    let kind = ap (λ (r : Row). r.kind) (row_later seen new c.args.k rest.grows (joined_grows _ _ c.args.k c.kind-kind.ensures.moves.grows c.requires.joined)) ∙ sym c.kind-kind.ensures.value in
    behind_itself (rows_of new) c.args.k (ap is_parent kind ∙ sym c.if-may_have_children.ensures)

pub returns-else-may_have_children-clause-value : goal.returns-else-may_have_children-clause-value
returns-else-may_have_children-clause-value g c =
    let old = (g.V.NodeView.sees c.args.view.now).steps in
    let mid = (g.V.NodeView.sees c.parent.new.self).steps in
    let up = (g.V.NodeView.sees c.climb.new.view).steps in
    let new = g.V.NodeView.sees c.begin_shown.new.view in
    let first = moves_on _ _ _ c.kind-kind.ensures.moves c.parent.ensures.moves in
    let all = moves_on _ _ _ first c.climb.ensures.moves in
    let rest = moves_on _ _ _ c.climb.ensures.moves c.begin_shown.ensures.moves in
    let j : IsJoined old c.args.at = omega (arith, c.requires.joined, c.requires.later) in
    let parent : parent_of (rows_of new.steps) c.args.k ≡ Some c.unwrap-up.result =
    parent_later mid new.steps c.args.k rest.grows (joined_grows _ _ c.args.k first.grows c.requires.joined) ∙ sym c.parent.ensures.value ∙ c.unwrap-up.ensures in
    let count = ends_before up new.steps c.args.at c.unwrap-up.result c.args.k c.begin_shown.ensures.moves.grows c.begin_shown.ensures.moves.seen.lawful
    (joined_grows _ _ c.args.at all.grows j) (joined_grows _ _ c.args.k all.grows c.requires.joined) parent in
    c.in_ok-begin_shown.ensures.value ∙ ap (λ xs. xs ++ beginning_shown new.rules (rows_of new.steps) c.args.k) (c.in_ok-climb.ensures.value ∙ ap (λ n. c.args.made.now ++ ends n) count)

pub returns-else-may_have_children-clause-depth : goal.returns-else-may_have_children-clause-depth
returns-else-may_have_children-clause-depth g c =
    let seen = (g.V.NodeView.sees c.kind-kind.new.self).steps in
    let mid = (g.V.NodeView.sees c.parent.new.self).steps in
    let new = (g.V.NodeView.sees c.begin_shown.new.view).steps in
    let first = moves_on _ _ _ c.kind-kind.ensures.moves c.parent.ensures.moves in
    let last = moves_on _ _ _ c.climb.ensures.moves c.begin_shown.ensures.moves in
    let rest = moves_on _ _ _ c.parent.ensures.moves last in
    let kind = ap (λ (r : Row). r.kind) (row_later seen new c.args.k rest.grows (joined_grows _ _ c.args.k c.kind-kind.ensures.moves.grows c.requires.joined)) ∙ sym c.kind-kind.ensures.value in
    let parent : parent_of (rows_of new) c.args.k ≡ Some c.unwrap-up.result =
    parent_later mid new c.args.k last.grows (joined_grows _ _ c.args.k first.grows c.requires.joined) ∙ sym c.parent.ensures.value ∙ c.unwrap-up.ensures in
    behind_parent new c.args.k c.unwrap-up.result last.seen.lawful (joined_grows _ _ c.args.k (moves_on _ _ _ first last).grows c.requires.joined)
    (ap is_parent kind ∙ sym c.if-may_have_children.ensures) parent

pub returns-else-may_have_children-clause-holds : goal.returns-else-may_have_children-clause-holds
returns-else-may_have_children-clause-holds g c =
    let seen = (g.V.NodeView.sees c.kind-kind.new.self).steps in
    let mid = (g.V.NodeView.sees c.parent.new.self).steps in
    let new = (g.V.NodeView.sees c.begin_shown.new.view).steps in
    let first = moves_on _ _ _ c.kind-kind.ensures.moves c.parent.ensures.moves in
    let last = moves_on _ _ _ c.climb.ensures.moves c.begin_shown.ensures.moves in
    let rest = moves_on _ _ _ c.parent.ensures.moves last in
    let kind = ap (λ (r : Row). r.kind) (row_later seen new c.args.k rest.grows (joined_grows _ _ c.args.k c.kind-kind.ensures.moves.grows c.requires.joined)) ∙ sym c.kind-kind.ensures.value in
    let parent : parent_of (rows_of new) c.args.k ≡ Some c.unwrap-up.result =
    parent_later mid new c.args.k last.grows (joined_grows _ _ c.args.k first.grows c.requires.joined) ∙ sym c.parent.ensures.value ∙ c.unwrap-up.ensures in
    innermost_parent (rows_of new) (lawful_document new last.seen.lawful) c.args.k c.unwrap-up.result
    (joined_grows _ _ c.args.k (moves_on _ _ _ first last).grows c.requires.joined) (ap is_parent kind ∙ sym c.if-may_have_children.ensures) parent
