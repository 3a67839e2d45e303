-- Numbers in order, and one more.
use Rattle.std.proofs.Common.{◌≡◌, ap, ◌∙◌, ℕ, zero, suc, ◌+◌, [], ◌∷◌, ◌++◌, arith}
use Rattle.std.specs.List.{range_with_len}

pub places_more : (from count : ℕ) → range_with_len from (suc count) ≡ range_with_len from count ++ (from + count) ∷ []
places_more from zero = ap (λ n. n ∷ []) (omega arith)
places_more from (suc count) = ap (λ xs. from ∷ xs) (places_more (from + 1) count ∙ ap (λ n. range_with_len (from + 1) count ++ n ∷ []) (omega arith))
