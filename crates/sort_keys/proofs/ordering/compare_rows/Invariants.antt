use Rattle.std.proofs.Common.{◌≡◌, drop}
use Rattle.sort_keys.specs.Order.{row_cmp}
use Rattle.sort_keys.proofs.ordering.compare_rows.Given as goal

-- the keys before are equal
abbrev pub invariant-loop-k : goal.invariant-loop-k
invariant-loop-k l = row_cmp l.how 0 l.row l.other ≡ row_cmp (drop l.k l.how) l.k l.row l.other
