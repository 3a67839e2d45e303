-- Where a text stands first in another.
use Rattle.std.proofs.Common.{◌≡◌, ℕ, zero, suc, ◌+◌, ◌<◌, ◌≤◌, List, [], ◌∷◌, true, false, Option, Some, None, length, take, drop, refl, sym, ap, ◌∙◌, arith, length-drop}
use Rattle.std.proofs.lemmas.Bool.{false_from_ne_true}
use Rattle.std.proofs.lemmas.Slice.Eq.{bytes_eq-Decides}
use Rattle.std.proofs.lemmas.List.{length-take}
use Rattle.memchr.specs.Find.{FindsNeedle, OccursAt}
use Rattle.memchr.proofs.lemmas.MatchLemmas.{OccursAt-part, OccursAt-from_part}
use Rattle.xpath_funcs.specs.Searches.{begins_with, place_from, place_of}

some_at : (at k : ℕ) (text part : List ℕ) → k ≤ length text → begins_with (drop k text) part ≡ true → ((j : ℕ) → j < k → begins_with (drop j text) part ≡ false)
    → place_from at text part ≡ Some (at + k)
some_at at zero [] part within is before = rw is (ap (λ (n : ℕ). Some n) (omega arith))
some_at at (suc k) [] part within is before = absurd (omega arith)
some_at at zero (byte ∷ text) part within is before = rw is (ap (λ (n : ℕ). Some n) (omega arith))
some_at at (suc k) (byte ∷ text) part within is before =
    let not_here : begins_with (byte ∷ text) part ≡ false = before 0 (omega arith) in
    rw not_here (some_at (at + 1) k text part (omega arith) is (λ j below. before (suc j) (omega arith)) ∙ ap (λ (n : ℕ). Some n) (omega arith))

none_at : (at : ℕ) (text part : List ℕ) → ((j : ℕ) → j ≤ length text → begins_with (drop j text) part ≡ false) → place_from at text part ≡ None
none_at at [] part nowhere = let here : begins_with [] part ≡ false = nowhere 0 (omega arith) in rw here refl
none_at at (byte ∷ text) part nowhere =
    let here : begins_with (byte ∷ text) part ≡ false = nowhere 0 (omega arith) in
    rw here (none_at (at + 1) text part (λ j within. nowhere (suc j) (omega arith)))

occurs : (text part : List ℕ) (k : ℕ) → k ≤ length text → begins_with (drop k text) part ≡ true → OccursAt text part k
occurs text part k within is =
    let same : part ≡ take (length part) (drop k text) = (bytes_eq-Decides part (take (length part) (drop k text))).0 is in
    let long : length part ≡ length (take (length part) (drop k text)) = ap length same in
    OccursAt-from_part text part k (omega (arith, length-take (length part) (drop k text), length-drop k text)) (sym same)

begins : (text part : List ℕ) (k : ℕ) → OccursAt text part k → begins_with (drop k text) part ≡ true
begins text part k there = (bytes_eq-Decides part (take (length part) (drop k text))).1 (sym (OccursAt-part text part k there))

misses : (text part : List ℕ) (k : ℕ) → k ≤ length text → (OccursAt text part k → ⊥) → begins_with (drop k text) part ≡ false
misses text part k within isnt = false_from_ne_true (begins_with (drop k text) part) (λ is. isnt (occurs text part k within is))

-- a search finds the first place
pub found_place : (text part : List ℕ) (r : Option ℕ) → FindsNeedle text part 0 r → r ≡ place_of text part
found_place text part None nowhere = sym (none_at 0 text part (λ j within. misses text part j within (nowhere j (omega arith) (omega arith))))
found_place text part (Some k) found =
    let high = found.0.high in
    sym (some_at 0 k text part (omega arith) (begins text part k found.1) (λ j below. misses text part j (omega arith) (found.0.before j (omega arith) below))
    ∙ ap (λ (n : ℕ). Some n) (omega arith))
