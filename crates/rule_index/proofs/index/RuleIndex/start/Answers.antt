use Rattle.std.proofs.Common.{rules, length, sym, subst}
use Rattle.std.specs.List.{range_with_len}
use Rattle.std.specs.Ordering.{is_lt}
use Rattle.std.proofs.lemmas.Fn.{always_returns_same}
use Rattle.std.proofs.lemmas.List.Sorted.{ranks_by}
use Rattle.std.specs.List.Sorted.{IsPermutation, IsSorted}
use Rattle.rule_index.specs.Order.{trial_at}
use Rattle.rule_index.proofs.Tried.{trial_total, index_tried}
use Rattle.rule_index.proofs.index.RuleIndex.start.Goals as goal

pub returns : goal.returns
returns c =
    let sheet_rules = c.args.sheet.now.rules in
    let each : IsPermutation (range_with_len 0 (length sheet_rules)) c.from_vec.result = search rules in
    let sorted = subst (IsSorted (trial_at sheet_rules)) (sym c.from_vec.ensures)
    (c.sort_unstable_by.ensures.sorted (λ a b. is_lt (trial_at sheet_rules a b)) (ranks_by (trial_total sheet_rules) (λ place. place)) (always_returns_same _ _ _ (λ a r f h. search rules))) in
    λ mode. index_tried sheet_rules mode c.from_vec.result each sorted
