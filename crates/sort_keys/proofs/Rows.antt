-- The keys of rows one after another, and the places of rows.
use Rattle.std.proofs.Common.{◌≡◌, ◌≢◌, ℕ, zero, suc, ◌+◌, List, [], ◌∷◌, ◌++◌, drop, refl, ap, ◌∙◌, arith}
use Rattle.std.proofs.Math.Seq.{drop-cons}
use Rattle.std.proofs.lemmas.Option.{slice_get_within, get_or_from_slice_get}
use Rattle.std.specs.Prelude.{slice_get, Some}
use Rattle.std.specs.List.{range_with_len}
use Rattle.std.specs.declared.cmp.Ordering.{Ordering}
use Rattle.std.specs.declared.cmp.Ordering.TheVariants.{Less, Equal, Greater}
use Rattle.std.specs.Ordering.{ordering_then}
use Rattle.sort_keys.specs.Order.{key_cmp, row_cmp}
use Rattle.sort_keys.specs.declared.key.How.{How}
use Rattle.sort_keys.specs.declared.key.KeyPart.{KeyPart}

pub row_step : (hows : List How) (k : ℕ) (how : How) (row other : List KeyPart) → slice_get hows k ≡ Some how
    → row_cmp (drop k hows) k row other ≡ ordering_then (key_cmp how (slice_get row k) (slice_get other k)) (row_cmp (drop (k + 1) hows) (k + 1) row other)
row_step hows k how row other is =
    let next : suc k ≡ k + 1 = omega arith in
    let cut : drop k hows ≡ how ∷ drop (k + 1) hows =
    drop-cons hows k how (slice_get_within hows k how is) ∙ ap (λ it. it ∷ drop (suc k) hows) (get_or_from_slice_get hows k how how is) ∙ ap (λ n. how ∷ drop n hows) next in
    ap (λ left. row_cmp left k row other) cut

-- a key that differs decides
pub decided : (r later : Ordering) → (r ≢ Equal) → ordering_then r later ≡ r
decided Less later other = refl
decided Equal later other = absurd (other refl)
decided Greater later other = refl

pub places_more : (from count : ℕ) → range_with_len from (suc count) ≡ range_with_len from count ++ (from + count) ∷ []
places_more from zero = ap (λ n. n ∷ []) (omega arith)
places_more from (suc count) = ap (λ xs. from ∷ xs) (places_more (from + 1) count ∙ ap (λ n. range_with_len (from + 1) count ++ n ∷ []) (omega arith))
