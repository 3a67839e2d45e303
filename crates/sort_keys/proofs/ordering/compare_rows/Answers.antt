use Rattle.std.proofs.Common.{◌≡◌, ◌+◌, drop, sym, ap, ◌∙◌}
use Rattle.std.specs.Prelude.{slice_get}
use Rattle.std.specs.Ordering.{ordering_then}
use Rattle.sort_keys.specs.Order.{key_cmp, row_cmp}
use Rattle.sort_keys.proofs.Rows.{row_step, decided}
use Rattle.sort_keys.proofs.ordering.compare_rows.Goals as goal

pub returns-in_default : goal.returns-in_default
returns-in_default c =
    let hows = c.args.how.now in
    let row = c.args.row.now in
    let other = c.args.other.now in
    let k = c.loop-k.k in
    let by = c.how_at.result.now in
    let later = row_cmp (drop (k + 1) hows) (k + 1) row other in
    let keys : c.compare_keys.result ≡ key_cmp by (slice_get row k) (slice_get other k) =
    c.compare_keys.ensures ∙ (λ i. key_cmp by (c.key_at.ensures i) (c.key_at-in-loop-k.ensures i)) in
    sym (c.loop-k.invariant ∙ row_step hows k by row other c.how_at.ensures ∙ ap (λ r. ordering_then r later) (sym keys)
    ∙ decided c.compare_keys.result later c.in_default.not-Equal)

pub loop-k-preserved : goal.loop-k-preserved
loop-k-preserved c =
    let hows = c.args.how.now in
    let row = c.args.row.now in
    let other = c.args.other.now in
    let k = c.loop-k.k in
    let by = c.how_at.result.now in
    let later = row_cmp (drop (k + 1) hows) (k + 1) row other in
    let keys : c.compare_keys.result ≡ key_cmp by (slice_get row k) (slice_get other k) =
    c.compare_keys.ensures ∙ (λ i. key_cmp by (c.key_at.ensures i) (c.key_at-in-loop-k.ensures i)) in
    c.loop-k.invariant ∙ row_step hows k by row other c.how_at.ensures ∙ ap (λ r. ordering_then r later) (sym keys ∙ c.in-Equal.is)
