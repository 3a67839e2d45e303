use Rattle.std.proofs.Common.{◌∙◌, sym, arith}
use Rattle.doc_model.specs.Lawful.{IsJoined}
use Rattle.doc_model.specs.Rows.{rows_of}
use Rattle.doc_laws.proofs.Growth.{joined_grows}
use Rattle.doc_laws.proofs.Links.{parent_before}
use Rattle.doc_laws.proofs.Moving.{moves_on}
use Rattle.doc_laws.proofs.Sound.{lawful_tree}
use Rattle.strip_rules.proofs.Later.{plain_later, parent_later, parent_plain}
use Rattle.strip_rules.proofs.Spacing.{keeping_first, keeping_end, keeping_up, keeping_later}
use Rattle.strip_rules.proofs.spaces.keeps_space.Goals as goal

pub up-init : goal.up-init
up-init g c = record { moved = c.told.ensures; keeping = keeping_first _ _ }

pub parent-requires : goal.parent-requires
parent-requires g c =
    let j = joined_grows _ _ c.args.n c.up.invariant.moved.grows c.requires.joined in
    omega (arith, j, c.up.invariant.keeping.order)

pub returns-in-None : goal.returns-in-None
returns-in-None g c =
    let j = joined_grows _ _ c.args.n c.up.invariant.moved.grows c.requires.joined in
    let a = plain_later _ _ c.args.n c.up.invariant.moved.grows c.requires.joined c.requires.plain in
    let k = keeping_later _ _ _ _ c.parent.ensures.moves.grows j a c.up.invariant.keeping in
    record { moves = moves_on _ _ _ c.up.invariant.moved c.parent.ensures.moves; value = sym (keeping_end _ _ _ k (sym c.in-None.ensures.value)) }

pub said_by-requires-clause-joined : goal.said_by-requires-clause-joined
said_by-requires-clause-joined g c = (parent_before (rows_of (g.V.NodeView.sees c.parent.new.self).steps) c.up.at c.in-Some.up (sym c.in-Some.ensures.value)).1

pub said_by-requires-clause-plain : goal.said_by-requires-clause-plain
said_by-requires-clause-plain g c =
    let j = joined_grows _ _ c.args.n c.up.invariant.moved.grows c.requires.joined in
    let at : IsJoined (g.V.NodeView.sees c.up.view).steps c.up.at = omega (arith, j, c.up.invariant.keeping.order) in
    let t = lawful_tree _ c.parent.ensures.moves.seen.lawful.each in
    parent_plain _ (t.parents _ _ (joined_grows _ _ _ c.parent.ensures.moves.grows at) (sym c.in-Some.ensures.value))

pub returns-in-Some-said_by : goal.returns-in-Some-said_by
returns-in-Some-said_by g c =
    let j = joined_grows _ _ c.args.n c.up.invariant.moved.grows c.requires.joined in
    let a = plain_later _ _ c.args.n c.up.invariant.moved.grows c.requires.joined c.requires.plain in
    let m = moves_on _ _ _ c.parent.ensures.moves c.said_by.ensures.moves in
    let k = keeping_later _ _ _ _ m.grows j a c.up.invariant.keeping in
    let at : IsJoined (g.V.NodeView.sees c.up.view).steps c.up.at = omega (arith, j, c.up.invariant.keeping.order) in
    let e = parent_later _ _ c.up.at c.said_by.ensures.moves.grows (joined_grows _ _ _ c.parent.ensures.moves.grows at) ∙ sym c.in-Some.ensures.value in
    record { moves = moves_on _ _ _ c.up.invariant.moved m; value = sym ((keeping_up _ _ _ _ k e).1 _ (sym c.in-Some-said_by.ensures.value)) }

pub up-smaller : goal.up-smaller
up-smaller g c = (parent_before _ _ _ (sym c.in-Some.ensures.value)).0

pub up-preserved : goal.up-preserved
up-preserved g c =
    let j = joined_grows _ _ c.args.n c.up.invariant.moved.grows c.requires.joined in
    let a = plain_later _ _ c.args.n c.up.invariant.moved.grows c.requires.joined c.requires.plain in
    let m = moves_on _ _ _ c.parent.ensures.moves c.said_by.ensures.moves in
    let k = keeping_later _ _ _ _ m.grows j a c.up.invariant.keeping in
    let at : IsJoined (g.V.NodeView.sees c.up.view).steps c.up.at = omega (arith, j, c.up.invariant.keeping.order) in
    let e = parent_later _ _ c.up.at c.said_by.ensures.moves.grows (joined_grows _ _ _ c.parent.ensures.moves.grows at) ∙ sym c.in-Some.ensures.value in
    record { moved = moves_on _ _ _ c.up.invariant.moved m; keeping = (keeping_up _ _ _ _ k e).0 (sym c.in-None-said_by.ensures.value) }
