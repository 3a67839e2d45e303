use Rattle.std.proofs.Common.{◌≡◌, ◌<◌, cond, Some, None, take, length, sym, ap, ◌∙◌, arith}
use Rattle.doc_model.specs.Relations.{is_above, last_above_from}
use Rattle.doc_model.specs.Rows.{row_at}
use Rattle.doc_model.proofs.Judging.{last_above_on}
use Rattle.doc_model.proofs.axis.parent.Goals as goal
use Rattle.doc_model.proofs.axis.parent.Goals.{then-is_above, else-is_above}

pub loop-k-preserved : goal.loop-k-preserved
loop-k-preserved c =
    let depth = c.row.result.now.depth in
    let within : c.loop-k.k < length c.args.rows.now = omega (arith, c.requires) in
    let on = last_above_on depth c.loop-k.k c.args.rows.now within in
    let test : is_above depth (row_at c.args.rows.now c.loop-k.k) ≡ c.is_above.result = ap (is_above depth) (sym c.row-in-loop-k.ensures) ∙ sym c.is_above.ensures in
    elim c.if-is_above.branch [
      | then-is_above w ↦ w.found-is ∙ sym (on ∙ ap (λ b. cond b (Some c.loop-k.k) (last_above_from depth 0 (take c.loop-k.k c.args.rows.now) None)) (test ∙ w.if-is_above.true))
      | else-is_above w ↦
          w.found-is ∙ c.loop-k.invariant
          ∙ sym (on ∙ ap (λ b. cond b (Some c.loop-k.k) (last_above_from depth 0 (take c.loop-k.k c.args.rows.now) None)) (test ∙ w.if-is_above.false))
    ]
