use Rattle.std.proofs.Common.{ℕ, [], ◌∷◌, ◌++◌, cond, filter, sym, ap, ◌∙◌, append-nil, Vec, Global}
use Rattle.doc_model.specs.Axes.{is_on}
use Rattle.doc_model.specs.Relations.{numbers}
use Rattle.doc_model.proofs.Judging.{filter_on}
use Rattle.doc_model.proofs.axis.axis_by_filter.Goals as goal
use Rattle.doc_model.proofs.axis.axis_by_filter.Goals.{then-is_on_axis+in_ok-push, else-is_on_axis}

pub loop-k-preserved : goal.loop-k-preserved
loop-k-preserved c =
    let f = is_on c.args.axis c.args.rows.now c.args.n in
    let k = c.loop-k.k in
    let on = filter_on f k in
    let before = filter f (numbers 0 k) in
    elim c.if-is_on_axis.branch [
      | then-is_on_axis+in_ok-push w ↦
          ap (λ (v : Vec ℕ Global). v.items) w.found-is ∙ w.in_ok-push.ensures.items ∙ ap (λ xs. xs ++ k ∷ []) c.loop-k.invariant
          ∙ sym (on ∙ ap (λ b. before ++ cond b (k ∷ []) []) (sym c.is_on_axis.ensures ∙ w.if-is_on_axis.true))
      | else-is_on_axis w ↦
          ap (λ (v : Vec ℕ Global). v.items) w.found-is ∙ c.loop-k.invariant
          ∙ sym (on ∙ ap (λ b. before ++ cond b (k ∷ []) []) (sym c.is_on_axis.ensures ∙ w.if-is_on_axis.false) ∙ append-nil before)
    ]
