use Rattle.std.proofs.Common.{rules, arith, ◌≡◌, ◌+◌, [], ◌∷◌, ◌++◌, suc, ap, ◌∙◌, sym}
use Rattle.std.specs.List.{range_with_len}
use Rattle.rule_index.proofs.Counting.{places_more}
use Rattle.rule_index.proofs.index.places_of.Goals as goal

pub loop-place-preserved : goal.loop-place-preserved
loop-place-preserved c =
    let k = c.loop-place.place in
    let pushed : c.push.new.self.items ≡ c.loop-place.places.items ++ k ∷ [] = search rules in
    let same : k ≡ 0 + k = omega arith in
    let next : suc k ≡ k + 1 = omega arith in
    pushed ∙ ap (λ xs. xs ++ k ∷ []) c.loop-place.invariant ∙ ap (λ n. range_with_len 0 k ++ n ∷ []) same ∙ sym (places_more 0 k) ∙ ap (range_with_len 0) next
