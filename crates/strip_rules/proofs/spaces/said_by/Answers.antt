use Rattle.std.proofs.Common.{◌≡◌, ◌∙◌, ◌+◌, suc, sym, ap, arith}
use Rattle.doc_model.specs.Rows.{rows_of, row_at}
use Rattle.doc_model.specs.Strip.{says_space}
use Rattle.doc_laws.proofs.Growth.{joined_grows}
use Rattle.doc_laws.proofs.Moving.{moves_on}
use Rattle.strip_rules.proofs.Later.{plain_later}
use Rattle.strip_rules.proofs.Spacing.{saying_first, saying_within, saying_found, saying_next, saying_end, saying_later}
use Rattle.strip_rules.proofs.spaces.said_by.Goals as goal

pub attributes-init : goal.attributes-init
attributes-init g c = record {
  moved = c.attr_count-count.ensures.moves;
  saying = saying_first _ c.args.n _ (joined_grows _ _ c.args.n c.attr_count-count.ensures.moves.grows c.requires.joined)
      (plain_later _ _ c.args.n c.attr_count-count.ensures.moves.grows c.requires.joined c.requires.plain) c.attr_count-count.ensures.value;
}

pub said_at-requires : goal.said_at-requires
said_at-requires g c =
    let w = saying_within _ _ _ _ c.attributes.invariant.saying c.attributes-test.true in
    omega (arith, w)

pub returns-in-Some : goal.returns-in-Some
returns-in-Some g c =
    let s = saying_later _ _ _ _ _ c.said_at.ensures.moves.grows c.said_at.ensures.moves.seen.lawful c.attributes.invariant.saying in
    let at : c.args.n + 1 + c.attributes.i ≡ suc c.args.n + c.attributes.i = omega arith in
    let e = sym (ap (λ k. says_space (row_at (rows_of (g.V.NodeView.sees c.said_at.new.view).steps) k)) at) ∙ sym c.in-Some.ensures.value in
    record { moves = moves_on _ _ _ c.attributes.invariant.moved c.said_at.ensures.moves; value = sym (saying_found _ _ _ _ s c.attributes-test.true _ e) }

pub attributes-preserved : goal.attributes-preserved
attributes-preserved g c =
    let s = saying_later _ _ _ _ _ c.said_at.ensures.moves.grows c.said_at.ensures.moves.seen.lawful c.attributes.invariant.saying in
    let at : c.args.n + 1 + c.attributes.i ≡ suc c.args.n + c.attributes.i = omega arith in
    let e = sym (ap (λ k. says_space (row_at (rows_of (g.V.NodeView.sees c.said_at.new.view).steps) k)) at) ∙ sym c.in-None.ensures.value in
    record { moved = moves_on _ _ _ c.attributes.invariant.moved c.said_at.ensures.moves; saying = saying_next _ _ _ _ s c.attributes-test.true e }

pub returns : goal.returns
returns g c = record { moves = c.attributes.invariant.moved; value = sym (saying_end _ _ _ _ c.attributes-test.false c.attributes.invariant.saying) }
