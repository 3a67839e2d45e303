use Rattle.std.proofs.Common.{◌<◌, ◌≤◌, ◌++◌, ◌+◌, ◌∙◌, [], refl, ap, sym, subst, arith}
use Rattle.doc_model.specs.Rows.{row_at}
use Rattle.doc_model.proofs.Texts.{Going, going_first, going_past, going_on, going_ends, going_done}
use Rattle.doc_model.proofs.string_value.texts_below.Goals as goal

pub loop-k-init : goal.loop-k-init
loop-k-init c = subst (λ xs. Going [] c.args.rows.now c.args.n (c.args.n + 1) xs) (sym c.new-value.ensures) (going_first [] c.args.rows.now c.args.n (c.args.n + 1) refl c.requires.within)

pub loop-k-preserved : goal.loop-k-preserved
loop-k-preserved c =
    let deeper : (row_at c.args.rows.now c.args.n).depth < c.index-rows-k.result.depth = omega (arith, c.if-row-depth.false, c.requires.depth) in
    let on = going_on [] _ _ _ _ c.index-rows-k.result c.loop-k.invariant c.loop-k-test.true c.index-rows-k.is deeper c.in-Text.is refl in
    subst (λ xs. Going [] c.args.rows.now c.args.n (c.loop-k.k + 1) xs) (sym (c.in_ok-extend_from_slice-in-Text.ensures.ok ∙ ap (λ xs. c.loop-k.value ++ xs) c.as_slice.ensures)) on

pub loop-k-preserved-in_default : goal.loop-k-preserved-in_default
loop-k-preserved-in_default c =
    let deeper : (row_at c.args.rows.now c.args.n).depth < c.index-rows-k.result.depth = omega (arith, c.if-row-depth.false, c.requires.depth) in
    going_past [] _ _ _ _ c.index-rows-k.result c.loop-k.invariant c.loop-k-test.true c.index-rows-k.is deeper c.in_default.not-Text

pub returns-then-row-depth : goal.returns-then-row-depth
returns-then-row-depth c =
    let flat : c.index-rows-k.result.depth ≤ (row_at c.args.rows.now c.args.n).depth = omega (arith, c.if-row-depth.true, c.requires.depth) in
    going_ends [] _ _ _ _ c.index-rows-k.result c.loop-k.invariant c.loop-k-test.true c.index-rows-k.is flat

pub returns : goal.returns
returns c = going_done [] _ _ _ _ c.loop-k.invariant c.loop-k-test.false
