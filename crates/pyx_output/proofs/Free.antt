-- Among one more of the numbered prefixes than there are bindings one is free.
use Rattle.std.proofs.Common.{◌≡◌, ℕ, zero, suc, ◌+◌, ◌-◌, ◌*◌, ◌<◌, ◌≤◌, ◌==◌, List, [], ◌∷◌, Bool, true, false, if◌then◌else◌, length, drop}
use Rattle.std.proofs.Common.{reverse, Option, Some, None, is_some, refl, sym, ap, ◌∙◌, arith}
use Rattle.std.specs.Str.{bytes_eq}
use Rattle.std.proofs.lemmas.Bool.{false_from_ne_true, eqb-true}
use Rattle.std.proofs.lemmas.Bool.Decides.{nat_tests}
use Rattle.std.proofs.lemmas.List.{reverse-reverse}
use Rattle.std.proofs.lemmas.Slice.Eq.{bytes_eq-Decides}
use Rattle.xml_names.specs.declared.scopes.Binding.{Binding}
use Rattle.xml_names.specs.Bindings.{uri_in, unless_empty}
use Rattle.pyx_output.specs.Declaring.{is_bound}
use Rattle.pyx_output.specs.Numbered.{next_digits, digits_back, numbered, free_from}

-- the number of these digits, the last first
value : List ℕ → ℕ
value [] = 0
value (d ∷ digits) = (d - 48) + 10 * value digits

data AreDigits : List ℕ → Type 0 where
  no_digit : AreDigits []
  one_more : (d : ℕ) (digits : List ℕ) → 48 ≤ d → d ≤ 57 → AreDigits digits → AreDigits (d ∷ digits)

record Counts (digits : List ℕ) (n : ℕ) : Type 0 where
  are : AreDigits digits
  is : value digits ≡ n

next_by : (d : ℕ) (digits : List ℕ) (n : ℕ) (last : Bool) → (d == 57) ≡ last → 48 ≤ d → d ≤ 57 → AreDigits digits → value (d ∷ digits) ≡ n → Counts (next_digits digits) (value digits + 1)
    → Counts (if last then 48 ∷ next_digits digits else (d + 1) ∷ digits) (n + 1)
unfolding value
next_by d digits n true last low high are is next =
    let nine = eqb-true d 57 last in
    record { are = one_more 48 (next_digits digits) (omega arith) (omega arith) next.are; is = omega (arith, next.is) }
next_by d digits n false last low high are is next =
    let other : d < 57 = grind (arith, nat_tests) in
    record { are = one_more (d + 1) digits (omega arith) (omega arith) are; is = omega arith }

next_counts : (digits : List ℕ) → AreDigits digits → Counts (next_digits digits) (value digits + 1)
unfolding value
next_counts [] are = record { are = one_more 49 [] (omega arith) (omega arith) no_digit; is = refl }
next_counts (d ∷ digits) (one_more _ _ low high are) = next_by d digits (value (d ∷ digits)) (d == 57) refl low high are refl (next_counts digits are)

counts : (k : ℕ) → Counts (digits_back k) k
unfolding value
counts zero = record { are = one_more 48 [] (omega arith) (omega arith) no_digit; is = refl }
counts (suc k) = let before = counts k in let next = next_counts (digits_back k) before.are in record { are = next.are; is = omega (arith, next.is, before.is) }

pub numbered_once : (j k : ℕ) → numbered j ≡ numbered k → j ≡ k
numbered_once j k same =
    let back : reverse (digits_back j) ≡ reverse (digits_back k) = ap (drop 2) same in
    let digits : digits_back j ≡ digits_back k = sym (reverse-reverse (digits_back j)) ∙ (ap (λ (all : List ℕ). reverse all) back ∙ reverse-reverse (digits_back k)) in
    sym (counts j).is ∙ (ap value digits ∙ (counts k).is)

other_number : (j k : ℕ) → j < k → bytes_eq (numbered j) (numbered k) ≡ false
other_number j k below = false_from_ne_true _ (λ is. let same = numbered_once j k ((bytes_eq-Decides (numbered j) (numbered k)).0 is) in omega arith)

-- the bindings of other prefixes
without : List ℕ → List Binding → List Binding
without prefix [] = []
without prefix (binding ∷ bound) = if bytes_eq binding.prefix prefix then without prefix bound else binding ∷ without prefix bound

uri_by : (prefix other : List ℕ) (binding : Binding) (bound : List Binding) (is : Bool) → bytes_eq binding.prefix prefix ≡ is → bytes_eq prefix other ≡ false
    → uri_in other (without prefix bound) ≡ uri_in other bound
    → uri_in other (if is then without prefix bound else binding ∷ without prefix bound) ≡ uri_in other (binding ∷ bound)
uri_by prefix other binding bound true is apart next =
    let same = (bytes_eq-Decides binding.prefix prefix).0 is in
    let misses : bytes_eq binding.prefix other ≡ false = rw same apart in
    rw misses next
uri_by prefix other binding bound false is apart next = ap (λ (uri : Option (List ℕ)). if bytes_eq binding.prefix other then Some binding.uri else uri) next

uri_in-without : (prefix other : List ℕ) (bound : List Binding) → bytes_eq prefix other ≡ false → uri_in other (without prefix bound) ≡ uri_in other bound
unfolding without
uri_in-without prefix other [] apart = refl
uri_in-without prefix other (binding ∷ bound) apart = uri_by prefix other binding bound (bytes_eq binding.prefix prefix) refl apart (uri_in-without prefix other bound apart)

no_longer : (prefix : List ℕ) (bound : List Binding) → length (without prefix bound) ≤ length bound
unfolding without
no_longer prefix [] = omega arith
no_longer prefix (binding ∷ bound) = let next = no_longer prefix bound in grind (arith, nat_tests, next)

shorter_by : (prefix uri : List ℕ) (binding : Binding) (bound : List Binding) (is : Bool) → bytes_eq binding.prefix prefix ≡ is
    → (if is then Some binding.uri else uri_in prefix bound) ≡ Some uri → (uri_in prefix bound ≡ Some uri → length (without prefix bound) < length bound)
    → length (if is then without prefix bound else binding ∷ without prefix bound) < length (binding ∷ bound)
shorter_by prefix uri binding bound true is found next = let most = no_longer prefix bound in omega arith
shorter_by prefix uri binding bound false is found next = let less = next found in omega arith

shorter : (prefix uri : List ℕ) (bound : List Binding) → uri_in prefix bound ≡ Some uri → length (without prefix bound) < length bound
unfolding without
shorter prefix uri [] found = absurd (cc)
shorter prefix uri (binding ∷ bound) found = shorter_by prefix uri binding bound (bytes_eq binding.prefix prefix) refl found (shorter prefix uri bound)

above_by : (tries k : ℕ) (bound : List Binding) (is : Bool) → k + 1 ≤ free_from tries (k + 1) bound → k ≤ (if is then free_from tries (k + 1) bound else k)
above_by tries k bound true next = omega arith
above_by tries k bound false next = omega arith

from_above : (tries k : ℕ) (bound : List Binding) → k ≤ free_from tries k bound
from_above zero k bound = omega arith
from_above (suc tries) k bound = above_by tries k bound (is_some (unless_empty (uri_in (numbered k) bound))) (from_above tries (k + 1) bound)

-- a lesser number's bindings don't count
free_from-without : (tries k m : ℕ) (bound : List Binding) → k < m → free_from tries m (without (numbered k) bound) ≡ free_from tries m bound
free_from-without zero k m bound below = refl
free_from-without (suc tries) k m bound below =
    let same = uri_in-without (numbered k) (numbered m) bound (other_number k m below) in
    let next = free_from-without tries k (m + 1) bound (omega arith) in
    rw (same, next) refl

found_uri : (uri : Option (List ℕ)) → is_some (unless_empty uri) ≡ true → (bytes : List ℕ) × (uri ≡ Some bytes)
found_uri None is = absurd (cc)
found_uri (Some bytes) is = (bytes, refl)

free_by : (tries k : ℕ) (bound : List Binding) (is : Bool) → is_bound bound (numbered k) ≡ is → length bound ≤ suc tries
    → ((length (without (numbered k) bound) ≤ tries) → is_bound (without (numbered k) bound) (numbered (free_from tries (k + 1) (without (numbered k) bound))) ≡ false)
    → is_bound bound (numbered (if is then free_from tries (k + 1) bound else k)) ≡ false
free_by tries k bound true is within next =
    let found = found_uri (uri_in (numbered k) bound) is in
    let less = shorter (numbered k) found.0 bound found.1 in
    let same = free_from-without tries k (k + 1) bound (omega arith) in
    let free = rw same at (next (omega arith)) in
    let above = from_above tries (k + 1) bound in
    let kept = uri_in-without (numbered k) (numbered (free_from tries (k + 1) bound)) bound (other_number k (free_from tries (k + 1) bound) (omega arith)) in
    rw kept at free
free_by tries k bound false is within next = is

-- the number that is found is free
pub free : (tries k : ℕ) (bound : List Binding) → length bound ≤ tries → is_bound bound (numbered (free_from tries k bound)) ≡ false
free zero k [] within = refl
free zero k (binding ∷ bound) within = absurd (omega arith)
free (suc tries) k bound within = free_by tries k bound (is_bound bound (numbered k)) refl within (free tries (k + 1) (without (numbered k) bound))
