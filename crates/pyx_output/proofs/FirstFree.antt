-- The first free number is that before which all are bound.
use Rattle.std.proofs.Common.{◌≡◌, ℕ, zero, suc, ◌+◌, ◌<◌, ◌≤◌, List, Bool, true, false, if◌then◌else◌, length, is_some, refl, sym, subst, arith, inl, inr}
use Rattle.std.proofs.lemmas.Bool.{cases_lt}
use Rattle.xml_names.specs.declared.scopes.Binding.{Binding}
use Rattle.xml_names.specs.Bindings.{uri_in, unless_empty}
use Rattle.pyx_output.specs.Declaring.{is_bound}
use Rattle.pyx_output.specs.FreeNumbers.{IsPast}
use Rattle.pyx_output.specs.Numbered.{numbered, free_from, first_free}
use Rattle.pyx_output.proofs.Free.{free}

within_by : (tries k : ℕ) (bound : List Binding) (is : Bool) → free_from tries (k + 1) bound ≤ k + 1 + tries → (if is then free_from tries (k + 1) bound else k) ≤ k + suc tries
within_by tries k bound true next = omega arith
within_by tries k bound false next = omega arith

within : (tries k : ℕ) (bound : List Binding) → free_from tries k bound ≤ k + tries
within zero k bound = omega arith
within (suc tries) k bound = within_by tries k bound (is_some (unless_empty (uri_in (numbered k) bound))) (within tries (k + 1) bound)

-- what is past is no greater than the first that is free
pub past_free : (bound : List Binding) (number : ℕ) → IsPast bound number → number ≤ first_free bound
past_free bound number past = elim (cases_lt (first_free bound) number) [
  | inl below ↦ let there = past (first_free bound) below in let none = free (length bound) 0 bound (omega arith) in absurd (cc)
  | inr over ↦ over
]

pub past_length : (bound : List Binding) (number : ℕ) → IsPast bound number → number ≤ length bound
past_length bound number past = let one = past_free bound number past in let two = within (length bound) 0 bound in omega arith

reached_by : (tries k number : ℕ) (bound : List Binding) (is : Bool) → is_bound bound (numbered k) ≡ is → IsPast bound number → is_bound bound (numbered number) ≡ false → k ≤ number
    → (k + 1 ≤ number → free_from tries (k + 1) bound ≡ number) → (if is then free_from tries (k + 1) bound else k) ≡ number
reached_by tries k number bound true is past none at next = elim (cases_lt k number) [
  | inl below ↦ next (omega arith)
  | inr over ↦ let same : k ≡ number = omega arith in let there : is_bound bound (numbered number) ≡ true = rw same at is in absurd (cc)
]
reached_by tries k number bound false is past none at next = elim (cases_lt k number) [
  | inl below ↦ let there = past k below in absurd (cc)
  | inr over ↦ omega arith
]

reached : (tries k number : ℕ) (bound : List Binding) → IsPast bound number → is_bound bound (numbered number) ≡ false → k ≤ number → number ≤ k + tries → free_from tries k bound ≡ number
reached zero k number bound past none at most = omega arith
reached (suc tries) k number bound past none at most =
    reached_by tries k number bound (is_bound bound (numbered k)) refl past none at (λ more. reached tries (k + 1) number bound past none more (omega arith))

-- the first that is free is where all before it are bound
pub free_is : (bound : List Binding) (number : ℕ) → IsPast bound number → is_bound bound (numbered number) ≡ false → number ≡ first_free bound
free_is bound number past none = let most = past_length bound number past in sym (reached (length bound) 0 number bound past none (omega arith) (omega arith))

pub past_next : (bound : List Binding) (number : ℕ) → IsPast bound number → is_bound bound (numbered number) ≡ true → IsPast bound (number + 1)
past_next bound number past there = λ k below. elim (cases_lt k number) [
  | inl before ↦ past k before
  | inr over ↦ let same : number ≡ k = omega arith in subst (λ (j : ℕ). is_bound bound (numbered j) ≡ true) same there
]

found_by : (tries k j : ℕ) (bound : List Binding) (is : Bool) → is_bound bound (numbered k) ≡ is → k ≤ j → j < (if is then free_from tries (k + 1) bound else k)
    → (k + 1 ≤ j → j < free_from tries (k + 1) bound → is_bound bound (numbered j) ≡ true) → is_bound bound (numbered j) ≡ true
found_by tries k j bound true is from below next = elim (cases_lt k j) [
  | inl more ↦ next (omega arith) below
  | inr over ↦ let same : k ≡ j = omega arith in subst (λ (number : ℕ). is_bound bound (numbered number) ≡ true) same is
]
found_by tries k j bound false is from below next = absurd (omega arith)

bound_from : (tries k j : ℕ) (bound : List Binding) → k ≤ j → j < free_from tries k bound → is_bound bound (numbered j) ≡ true
bound_from zero k j bound from below = absurd (omega arith)
bound_from (suc tries) k j bound from below = found_by tries k j bound (is_bound bound (numbered k)) refl from below (λ more under. bound_from tries (k + 1) j bound more under)

-- each number before the first free one is bound
pub bound_before : (bound : List Binding) (j : ℕ) → j < first_free bound → is_bound bound (numbered j) ≡ true
bound_before bound j below = bound_from (length bound) 0 j bound (omega arith) below
