use Rattle.std.proofs.Common.{sym, subst, List, ℕ}
use Rattle.std.specs.List.Sorted.{IsPermutation}
use Rattle.node_lists.proofs.Repeats.{moved_ok}
use Rattle.node_lists.proofs.order.in_order.Goals as goal

pub returns : goal.returns
returns c =
    moved_ok c.args.nodes c.as_slice-2.result.now _
    (subst (λ (ns : List ℕ). IsPermutation ns c.as_slice-2.result.now) c.into_vec-sorted.ensures
    (subst (λ (ns : List ℕ). IsPermutation c.into_vec-sorted.result.items ns) (sym c.as_slice-2.ensures.value) c.in_ok-sort.ensures.permutation))
    c.without_repeats.ensures
