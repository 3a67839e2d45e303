-- The order of places by sort keys is total.
use Rattle.std.proofs.Common.{ℕ, ◌+◌, List, [], ◌∷◌, Bool, true, false, if◌then◌else◌, refl}
use Rattle.std.specs.Prelude.{slice_get}
use Rattle.std.specs.declared.cmp.Ordering.{Ordering}
use Rattle.std.specs.Ordering.{ordering_then}
use Rattle.std.specs.Cmp.{IsTotalOrder, partial_order_from_total, total, then_po, then_agrees, on_total, back_total}
use Rattle.std.specs.Cmp.Lexicographic.{options_total}
use Rattle.std.proofs.lemmas.Cmp.{int_cmp_total, nat_cmp_total, nat_list_cmp_total}
use Rattle.sort_keys.specs.Order.{number_of, text_of, ascending, key_cmp, row_cmp, row_at, place_cmp}
use Rattle.sort_keys.specs.declared.key.How.{How}
use Rattle.sort_keys.specs.declared.key.KeyPart.{KeyPart}

then_total : {K : Type 0} {R S : K → K → Ordering} → IsTotalOrder R → IsTotalOrder S → IsTotalOrder (λ x y. ordering_then (R x y) (S x y))
then_total r s = total (then_po (partial_order_from_total r) (partial_order_from_total s)) (then_agrees (λ x y. refl) (λ x y. refl))

turned : {K : Type 0} {R : K → K → Ordering} (descending : Bool) → IsTotalOrder R → IsTotalOrder (λ x y. if descending then R y x else R x y)
turned true r = back_total r
turned false r = r

ascending_total : (number : Bool) → IsTotalOrder (ascending number)
ascending_total true = on_total number_of (options_total int_cmp_total)
ascending_total false = on_total text_of nat_list_cmp_total

key_total : (how : How) → IsTotalOrder (key_cmp how)
key_total how = turned how.descending (ascending_total how.number)

row_total : (hows : List How) (k : ℕ) → IsTotalOrder (row_cmp hows k)
row_total [] k = record { antisymm = λ x y. refl; trans = λ x y z h g. h; congr = λ x y z h. refl }
row_total (how ∷ later) k = then_total (on_total (λ (row : List KeyPart). slice_get row k) (key_total how)) (row_total later (k + 1))

pub place_total : (hows : List How) (rows : List (List KeyPart)) → IsTotalOrder (place_cmp hows rows)
place_total hows rows = then_total (on_total (row_at rows) (row_total hows 0)) nat_cmp_total
