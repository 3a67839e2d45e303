-- The open elements with their scopes and numbers, after each change.
use Rattle.std.proofs.Common.{◌≡◌, ℕ, ◌<◌, ◌^◌, ◌==◌, ◌||◌, List, [], ◌∷◌, ◌++◌, Bool, true, false, length, reverse, Option, Some, None, refl, sym, ◌∙◌, subst, arith}
use Rattle.std.specs.Str.{bytes_eq}
use Rattle.std.proofs.lemmas.Bool.Decides.{nat_tests}
use Rattle.std.proofs.lemmas.List.{reverse-append}
use Rattle.std.proofs.lemmas.Slice.Eq.{bytes_eq-Decides}
use Rattle.xml_names.specs.declared.scopes.Binding.{Binding}
use Rattle.xml_names.specs.Bindings.{all_bindings, bound_in}
use Rattle.pyx_output.specs.Bytes.{in_force}
use Rattle.pyx_output.specs.Declaring.{declares}
use Rattle.pyx_output.specs.FreeNumbers.{has_number}
use Rattle.pyx_output.specs.Nesting.{elements_of, AreNested, HasNumbers, with_declared, noted}
use Rattle.pyx_output.specs.Numbered.{numbered}
use Rattle.pyx_output.specs.declared.nest.Open.{Open}

pub in_force_is : (opened : List Open) (scopes : List (List Binding)) → AreNested opened scopes → in_force (elements_of opened scopes) ≡ all_bindings scopes
in_force_is [] [] nested = absurd nested
in_force_is [] (scope ∷ []) nested = rw nested refl
in_force_is [] (scope ∷ next ∷ scopes) nested = absurd nested
in_force_is (inner ∷ opened) [] nested = absurd nested
in_force_is (inner ∷ opened) (scope ∷ scopes) nested = refl

-- an element that is opened
pub opened_nested : (name : List ℕ) (opened opened' : List Open) (scopes scopes' : List (List Binding)) → opened' ≡ opened ++ record { name = name; numbers = [] } ∷ [] → scopes' ≡ [] ∷ scopes
    → AreNested (reverse opened) scopes → AreNested (reverse opened') scopes'
opened_nested name opened opened' scopes scopes' e1 e2 nested =
    rw (e1, e2, reverse-append opened (record { name = name; numbers = [] } ∷ [])) ((λ k small there. absurd (cc)), nested)

pub opened_elements : (name : List ℕ) (opened opened' : List Open) (scopes scopes' : List (List Binding)) → opened' ≡ opened ++ record { name = name; numbers = [] } ∷ [] → scopes' ≡ [] ∷ scopes
    → AreNested (reverse opened) scopes → elements_of (reverse opened') scopes' ≡ record { name = name; bound = in_force (elements_of (reverse opened) scopes) } ∷ elements_of (reverse opened) scopes
opened_elements name opened opened' scopes scopes' e1 e2 nested =
    let same = in_force_is (reverse opened) scopes nested in
    rw (e1, e2, reverse-append opened (record { name = name; numbers = [] } ∷ []), same) refl

-- a number more does no harm
more_numbers : (k number : ℕ) (numbers : List ℕ) → has_number k numbers ≡ true → has_number k (numbers ++ number ∷ []) ≡ true
more_numbers k number [] there = absurd (cc)
more_numbers k number (first ∷ numbers) there = by (first == k) there (more_numbers k number numbers)
  where
    by : (is : Bool) → (is || has_number k numbers) ≡ true → (has_number k numbers ≡ true → has_number k (numbers ++ number ∷ []) ≡ true) → (is || has_number k (numbers ++ number ∷ [])) ≡ true
    by true there next = refl
    by false there next = next there

last_number : (k : ℕ) (numbers : List ℕ) → has_number k (numbers ++ k ∷ []) ≡ true
last_number k [] = grind (arith, nat_tests)
last_number k (first ∷ numbers) = by (first == k) (last_number k numbers)
  where
    by : (is : Bool) → has_number k (numbers ++ k ∷ []) ≡ true → (is || has_number k (numbers ++ k ∷ [])) ≡ true
    by true there = refl
    by false there = there

pub noted_elements : (number : Option ℕ) (opened : List Open) (scopes : List (List Binding)) → elements_of (noted number opened) scopes ≡ elements_of opened scopes
noted_elements None opened scopes = refl
noted_elements (Some number) [] scopes = refl
noted_elements (Some number) (inner ∷ opened) [] = refl
noted_elements (Some number) (inner ∷ opened) (scope ∷ scopes) = refl

pub noted_nested : (number : Option ℕ) (opened : List Open) (scopes : List (List Binding)) → AreNested opened scopes → AreNested (noted number opened) scopes
noted_nested None opened scopes nested = nested
noted_nested (Some number) [] scopes nested = nested
noted_nested (Some number) (inner ∷ opened) [] nested = absurd nested
noted_nested (Some number) (inner ∷ opened) (scope ∷ scopes) nested = ((λ k small there. more_numbers k number inner.numbers (nested.0 k small there)), nested.1)

pub all_declared : (binding : Binding) (scopes : List (List Binding)) → all_bindings (bound_in scopes binding) ≡ binding ∷ all_bindings scopes
all_declared binding [] = refl
all_declared binding (scope ∷ scopes) = refl

has_more : (binding : Binding) (scope : List Binding) (numbers numbers' : List ℕ) → HasNumbers scope numbers → ((k : ℕ) → has_number k numbers ≡ true → has_number k numbers' ≡ true)
    → ((k : ℕ) → k < 2 ^ 64 → binding.prefix ≡ numbered k → has_number k numbers' ≡ true) → HasNumbers (binding ∷ scope) numbers'
has_more binding scope numbers numbers' has keeps itself = λ k small there. by k small (bytes_eq binding.prefix (numbered k)) refl there
  where
    by : (k : ℕ) → k < 2 ^ 64 → (is : Bool) → bytes_eq binding.prefix (numbered k) ≡ is → (is || declares (numbered k) scope) ≡ true → has_number k numbers' ≡ true
    by k small true is there = itself k small ((bytes_eq-Decides binding.prefix (numbered k)).0 is)
    by k small false is there = keeps k (has k small there)

-- one more declaration
pub declared_nested : (binding : Binding) (number : Option ℕ) (opened : List Open) (scopes : List (List Binding)) → ((k : ℕ) → k < 2 ^ 64 → binding.prefix ≡ numbered k → number ≡ Some k)
    → 0 < length (elements_of opened scopes) → AreNested opened scopes → AreNested (noted number opened) (bound_in scopes binding)
declared_nested binding number [] scopes reads some nested = absurd (omega arith)
declared_nested binding number (inner ∷ opened) [] reads some nested = absurd nested
declared_nested binding None (inner ∷ opened) (scope ∷ scopes) reads some nested =
    (has_more binding scope inner.numbers inner.numbers nested.0 (λ k there. there) (λ k small same. let no : None ≡ Some k = reads k small same in absurd (cc)), nested.1)
declared_nested binding (Some number) (inner ∷ opened) (scope ∷ scopes) reads some nested =
    (has_more binding scope inner.numbers (inner.numbers ++ number ∷ []) nested.0 (λ k there. more_numbers k number inner.numbers there) (λ k small same. by k (reads k small same)), nested.1)
  where
    by : (k : ℕ) → Some number ≡ Some k → has_number k (inner.numbers ++ number ∷ []) ≡ true
    by k same = let one : number ≡ k = cc in subst (λ (j : ℕ). has_number k (inner.numbers ++ j ∷ []) ≡ true) (sym one) (last_number k inner.numbers)

pub declared_elements : (binding : Binding) (opened : List Open) (scopes : List (List Binding)) → 0 < length (elements_of opened scopes) → AreNested opened scopes
    → elements_of opened (bound_in scopes binding) ≡ with_declared binding (elements_of opened scopes)
declared_elements binding [] scopes some nested = absurd (omega arith)
declared_elements binding (inner ∷ opened) [] some nested = absurd nested
declared_elements binding (inner ∷ opened) (scope ∷ scopes) some nested = refl

more_scopes : (inner : Open) (opened : List Open) (scopes : List (List Binding)) → AreNested (inner ∷ opened) scopes → 1 < length scopes
more_scopes inner opened [] nested = absurd nested
more_scopes inner [] (scope ∷ []) nested = absurd nested.1
more_scopes inner (next ∷ opened) (scope ∷ []) nested = absurd nested.1
more_scopes inner opened (scope ∷ next ∷ scopes) nested = omega arith

nested_last : (inner : Open) (front opened : List Open) (scopes : List (List Binding)) → opened ≡ front ++ inner ∷ [] → AreNested (reverse opened) scopes → AreNested (inner ∷ reverse front) scopes
nested_last inner front opened scopes is nested =
    let back : reverse opened ≡ inner ∷ reverse front = rw is (reverse-append front (inner ∷ [])) in
    subst (λ (all : List Open). AreNested all scopes) back nested

pub last_scopes : (inner : Open) (front opened : List Open) (scopes : List (List Binding)) → opened ≡ front ++ inner ∷ [] → AreNested (reverse opened) scopes → 1 < length scopes
last_scopes inner front opened scopes is nested = more_scopes inner (reverse front) scopes (nested_last inner front opened scopes is nested)

-- an element that is closed
pub record IsClosed (inner : Open) (front opened : List Open) (scope : List Binding) (scopes : List (List Binding)) : Type 0 where
  pub nested : AreNested (reverse front) scopes
  pub has : HasNumbers scope inner.numbers
  pub elements : elements_of (reverse opened) (scope ∷ scopes) ≡ record { name = inner.name; bound = all_bindings (scope ∷ scopes) } ∷ elements_of (reverse front) scopes

pub closed_nested : (inner : Open) (front opened : List Open) (scope : List Binding) (scopes : List (List Binding)) → opened ≡ front ++ inner ∷ []
    → AreNested (reverse opened) (scope ∷ scopes) → IsClosed inner front opened scope scopes
closed_nested inner front opened scope scopes is nested =
    let both = nested_last inner front opened (scope ∷ scopes) is nested in
    record {
      nested = both.1;
      has = both.0;
      elements = rw (is, reverse-append front (inner ∷ [])) refl;
    }

-- what is seen after one more declaration
pub declared_seen : (binding : Binding) (number : Option ℕ) (opened opened' : List Open) (scopes scopes' : List (List Binding)) → reverse opened' ≡ noted number (reverse opened)
    → scopes' ≡ bound_in scopes binding
    → 0 < length (elements_of (reverse opened) scopes) → AreNested (reverse opened) scopes → elements_of (reverse opened') scopes' ≡ with_declared binding (elements_of (reverse opened) scopes)
declared_seen binding number opened opened' scopes scopes' e1 e2 some nested =
    rw (e1, e2) (noted_elements number (reverse opened) (bound_in scopes binding) ∙ declared_elements binding (reverse opened) scopes some nested)
