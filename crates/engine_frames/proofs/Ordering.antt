-- Items in the order of their sort keys.
use Rattle.std.proofs.Common.{◌≡◌, refl, ap, ◌∙◌, ℕ, zero, suc, ◌+◌, List, [], ◌∷◌, length, map, cond, Bool, true, false}
use Rattle.std.proofs.lemmas.List.{length-map}
use Rattle.std.specs.List.{range_with_len}
use Rattle.std.specs.Ordering.{is_lt}
use Rattle.std.specs.Prelude.{IsPermutation, IsSorted}
use Rattle.std.specs.declared.cmp.Ordering.{Ordering}
use Rattle.engine_laws.proofs.Places.{one_sorted}
use Rattle.engine_meaning.specs.Sorts.{how_of, in_key_order, node_in, sorted_places_of}
use Rattle.rule_choice.specs.Sorting.{placed, sorted_by}
use Rattle.sheet_ast.specs.declared.instruction.SortDecl.{SortDecl}
use Rattle.sort_keys.specs.Order.{place_cmp}
use Rattle.sort_keys.specs.declared.key.How.{How}
use Rattle.sort_keys.specs.declared.key.KeyPart.{KeyPart}
use Rattle.xpath_laws.specs.Sound.{Each}

-- what a sort of the places gives is the one order of them
pub ordered_so : (sorts : List SortDecl) (nodes : List ℕ) (rows : List (List KeyPart)) (hows : List How) (places : List ℕ) → hows ≡ map how_of sorts
    → IsPermutation (range_with_len 0 (length rows)) places → IsSorted (place_cmp hows rows) places → map (node_in nodes) places ≡ in_key_order sorts nodes rows
ordered_so sorts nodes rows hows places is p s = ap (map (node_in nodes)) (one_sorted hows rows places p s ∙ ap (λ h. sorted_places_of h rows) is)

length_placed : (cmp : ℕ → ℕ → Ordering) (x : ℕ) (ys : List ℕ) → length (placed cmp x ys) ≡ suc (length ys)
length_placed cmp x [] = refl
length_placed cmp x (y ∷ ys) = by_test (is_lt (cmp y x)) (length_placed cmp x ys)
  where
    by_test : (b : Bool) → length (placed cmp x ys) ≡ suc (length ys) → length (cond b (y ∷ placed cmp x ys) (x ∷ y ∷ ys)) ≡ suc (suc (length ys))
    by_test true r = ap suc r
    by_test false r = refl

length_sorted : (cmp : ℕ → ℕ → Ordering) (xs : List ℕ) → length (sorted_by cmp xs) ≡ length xs
length_sorted cmp [] = refl
length_sorted cmp (x ∷ xs) = length_placed cmp x (sorted_by cmp xs) ∙ ap suc (length_sorted cmp xs)

length_range : (from count : ℕ) → length (range_with_len from count) ≡ count
length_range from zero = refl
length_range from (suc count) = ap suc (length_range (from + 1) count)

length_places : (hows : List How) (rows : List (List KeyPart)) → length (sorted_places_of hows rows) ≡ length rows
unfolding sorted_places_of
length_places hows rows = length_sorted (place_cmp hows rows) (range_with_len 0 (length rows)) ∙ length_range 0 (length rows)

-- there are as many as rows of keys
pub length_ordered : (sorts : List SortDecl) (nodes : List ℕ) (rows : List (List KeyPart)) → length (in_key_order sorts nodes rows) ≡ length rows
length_ordered sorts nodes rows = length-map (sorted_places_of (map how_of sorts) rows) (node_in nodes) ∙ length_places (map how_of sorts) rows

node_of : (P : ℕ → Type 0) → P 0 → (nodes : List ℕ) (place : ℕ) → Each P nodes → P (node_in nodes place)
node_of P root [] zero h = root
node_of P root [] (suc place) h = root
node_of P root (n ∷ nodes) zero h = h.0
node_of P root (n ∷ nodes) (suc place) h = node_of P root nodes place h.1

each_placed : (P : ℕ → Type 0) → P 0 → (nodes : List ℕ) → Each P nodes → (places : List ℕ) → Each P (map (node_in nodes) places)
each_placed P root nodes h [] = tt
each_placed P root nodes h (place ∷ places) = (node_of P root nodes place h, each_placed P root nodes h places)

-- what the nodes and the root have, they have in that order
pub each_ordered : (P : ℕ → Type 0) → P 0 → (sorts : List SortDecl) (nodes : List ℕ) (rows : List (List KeyPart)) → Each P nodes → Each P (in_key_order sorts nodes rows)
each_ordered P root sorts nodes rows h = each_placed P root nodes h (sorted_places_of (map how_of sorts) rows)
