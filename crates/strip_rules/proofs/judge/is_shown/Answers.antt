use Rattle.std.proofs.Common.{◌≡◌, ◌∙◌, true, sym, ap}
use Rattle.doc_model.specs.Rows.{rows_of, row_at}
use Rattle.doc_model.specs.Strip.{is_blank, strips}
use Rattle.doc_laws.proofs.Growth.{joined_grows}
use Rattle.doc_laws.proofs.Links.{parent_before}
use Rattle.doc_laws.proofs.Moving.{moves_on}
use Rattle.doc_laws.proofs.Visible.{blank_plain}
use Rattle.strip_rules.proofs.Judging.{other_is_visible, top_is_visible, unstripped_is_visible, space_decides}
use Rattle.strip_rules.proofs.Later.{row_later, parent_later, plain_later}
use Rattle.strip_rules.proofs.judge.is_shown.Goals as goal

pub returns-then-not-blank : goal.returns-then-not-blank
returns-then-not-blank g c = record {
  moves = c.blank.ensures.moves;
  value =
      sym (other_is_visible c.args.rules.now (rows_of (g.V.NodeView.sees c.blank.new.self).steps) c.args.n (sym c.if-not-blank.ensures.value));
}

pub parent-requires : goal.parent-requires
parent-requires g c = joined_grows _ _ c.args.n c.blank.ensures.moves.grows c.requires.joined

pub returns-in-None : goal.returns-in-None
returns-in-None g c = record {
  moves = moves_on _ _ _ c.blank.ensures.moves c.parent.ensures.moves;
  value =
      sym (top_is_visible c.args.rules.now (rows_of (g.V.NodeView.sees c.parent.new.self).steps) c.args.n (sym c.in-None.ensures.value));
}

pub strips-requires-clause-joined : goal.strips-requires-clause-joined
strips-requires-clause-joined g c = (parent_before (rows_of (g.V.NodeView.sees c.parent.new.self).steps) c.args.n c.in-Some.up (sym c.in-Some.ensures.value)).1

pub returns-then-not-strips : goal.returns-then-not-strips
returns-then-not-strips g c =
    let m = moves_on _ _ _ c.blank.ensures.moves c.parent.ensures.moves in
    let e = parent_later _ _ c.args.n c.strips.ensures.moves.grows (joined_grows _ _ c.args.n m.grows c.requires.joined) ∙ sym c.in-Some.ensures.value in
    record {
      moves = moves_on _ _ _ m c.strips.ensures.moves;
      value =
          sym (unstripped_is_visible c.args.rules.now (rows_of (g.V.NodeView.sees c.strips.new.view).steps) c.args.n c.in-Some.up e (sym c.if-not-strips.ensures.value));
    }

pub keeps_space-requires-clause-joined : goal.keeps_space-requires-clause-joined
keeps_space-requires-clause-joined g c =
    let m = moves_on _ _ _ (moves_on _ _ _ c.blank.ensures.moves c.parent.ensures.moves) c.strips.ensures.moves in
    joined_grows _ _ c.args.n m.grows c.requires.joined

pub keeps_space-requires-clause-plain : goal.keeps_space-requires-clause-plain
keeps_space-requires-clause-plain g c =
    let m = moves_on _ _ _ c.parent.ensures.moves c.strips.ensures.moves in
    let j = joined_grows _ _ c.args.n c.blank.ensures.moves.grows c.requires.joined in
    plain_later _ _ c.args.n m.grows j (blank_plain (row_at (rows_of (g.V.NodeView.sees c.blank.new.self).steps) c.args.n) (sym c.if-not-blank.ensures.value))

pub returns : goal.returns
returns g c =
    let n = c.args.n in
    let up = c.in-Some.up in
    let rows = rows_of (g.V.NodeView.sees c.keeps_space.new.view).steps in
    let j1 = joined_grows _ _ n c.blank.ensures.moves.grows c.requires.joined in
    let j2 = joined_grows _ _ n c.parent.ensures.moves.grows j1 in
    let u2 = (parent_before (rows_of (g.V.NodeView.sees c.parent.new.self).steps) n up (sym c.in-Some.ensures.value)).1 in
    let u3 = joined_grows _ _ up c.strips.ensures.moves.grows u2 in
    let m34 = moves_on _ _ _ c.strips.ensures.moves c.keeps_space.ensures.moves in
    let m24 = moves_on _ _ _ c.parent.ensures.moves m34 in
    let e = parent_later _ _ n m34.grows j2 ∙ sym c.in-Some.ensures.value in
    let s : strips c.args.rules.now (row_at rows up) ≡ true = ap (strips c.args.rules.now) (row_later _ _ up c.keeps_space.ensures.moves.grows u3) ∙ sym c.if-not-strips.ensures.value in
    let b : is_blank (row_at rows n) ≡ true = ap is_blank (row_later _ _ n m24.grows j1) ∙ sym c.if-not-blank.ensures.value in
    record { moves = moves_on _ _ _ c.blank.ensures.moves m24; value = c.keeps_space.ensures.value ∙ sym (space_decides c.args.rules.now rows n up e s b) }
