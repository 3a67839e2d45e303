-- A text that is added unless it is known, and the number of one that is.
use Rattle.std.proofs.Common.{◌≡◌, ◌||◌, ℕ, zero, suc, List, [], ◌∷◌, ◌++◌, Bool, true, false, Some, refl, sym, ap, ⊎_elim, arith}
use Rattle.std.specs.Prelude.{if◌then◌else◌, slice_get}
use Rattle.std.specs.List.{list_any}
use Rattle.std.specs.Str.{bytes_eq}
use Rattle.std.specs.Cmp.Lexicographic.{bytes_decides}
use Rattle.std.proofs.lemmas.Bool.{cases_Bool}
use Rattle.std.proofs.lemmas.Option.{same_Some, none-some}
use Rattle.shared_texts.specs.Numbers.{IsNew, NoRepeats, with_text, number_in}

itself : (text other : List ℕ) → text ≡ other → bytes_eq text other ≡ true
itself text other e = (bytes_decides text other).1 e

is_known : (texts : List (List ℕ)) (text : List ℕ) (k : ℕ) → slice_get texts k ≡ Some text → list_any (bytes_eq text) texts ≡ true
is_known [] text k at = absurd (none-some text at)
is_known (first ∷ texts) text zero at = rw (itself text first (sym (same_Some first text at))) refl
is_known (first ∷ texts) text (suc k) at = or_true (bytes_eq text first) (is_known texts text k at)
  where
    or_true : (b : Bool) {rest : Bool} → rest ≡ true → b || rest ≡ true
    or_true true is = refl
    or_true false is = is

is_new : (texts : List (List ℕ)) (text : List ℕ) → IsNew texts text → list_any (bytes_eq text) texts ≡ false
is_new [] text new = refl
is_new (first ∷ texts) text new =
    let other : bytes_eq text first ≡ false = ⊎_elim (λ y. absurd (new zero (ap Some (sym ((bytes_decides text first).0 y))))) (λ n. n) (cases_Bool (bytes_eq text first)) in
    rw (other, is_new texts text (λ k. new (suc k))) refl

-- a text that is there is not added
pub with_known : (texts : List (List ℕ)) (text : List ℕ) (k : ℕ) → slice_get texts k ≡ Some text → with_text texts text ≡ texts
with_known texts text k at = rw (is_known texts text k at) refl

-- a new text is added at the end
pub with_new : (texts : List (List ℕ)) (text : List ℕ) → IsNew texts text → with_text texts text ≡ texts ++ text ∷ []
with_new texts text new = rw (is_new texts text new) refl

rest_apart : (first : List ℕ) (texts : List (List ℕ)) → NoRepeats (first ∷ texts) → NoRepeats texts
rest_apart first texts apart text j k p q = omega (arith, apart text (suc j) (suc k) p q)

later_told : (first : List ℕ) (texts : List (List ℕ)) (text : List ℕ) (n : ℕ) (is : Bool) → bytes_eq text first ≡ is → NoRepeats (first ∷ texts) → slice_get texts n ≡ Some text
    → number_in texts text ≡ n → (if is then 0 else suc (number_in texts text)) ≡ suc n
later_told first texts text n true same apart at rest = apart text 0 (suc n) (ap Some (sym ((bytes_decides text first).0 same))) at
later_told first texts text n false same apart at rest = ap suc rest

-- the number of a text is where it stands
pub number_told : (texts : List (List ℕ)) (text : List ℕ) (n : ℕ) → NoRepeats texts → slice_get texts n ≡ Some text → number_in texts text ≡ n
number_told [] text n apart at = absurd (none-some text at)
number_told (first ∷ texts) text zero apart at = rw (itself text first (sym (same_Some first text at))) refl
number_told (first ∷ texts) text (suc n) apart at =
    later_told first texts text n (bytes_eq text first) refl apart at (number_told texts text n (rest_apart first texts apart) at)
