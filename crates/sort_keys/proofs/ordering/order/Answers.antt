use Rattle.std.proofs.Common.{rules, sym, subst}
use Rattle.std.specs.Ordering.{is_lt}
use Rattle.std.proofs.lemmas.Fn.{always_returns_same}
use Rattle.std.proofs.lemmas.List.Sorted.{ranks_by}
use Rattle.std.specs.List.Sorted.{IsSorted}
use Rattle.sort_keys.specs.Order.{place_cmp}
use Rattle.sort_keys.proofs.Total.{place_total}
use Rattle.sort_keys.proofs.ordering.order.Goals as goal

pub returns-clause-sorted : goal.returns-clause-sorted
returns-clause-sorted c =
    let how = c.args.how.now in
    let rows = c.args.rows.now in
    subst (IsSorted (place_cmp how rows)) (sym c.from_vec.ensures)
    (c.sort_unstable_by.ensures.sorted (λ a b. is_lt (place_cmp how rows a b)) (ranks_by (place_total how rows) (λ place. place)) (always_returns_same _ _ _ (λ a r f h. search rules)))
