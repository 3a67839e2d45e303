-- What is kept of the free numbers tells them, after each change.
use Rattle.std.proofs.Common.{◌≡◌, ℕ, ◌<◌, ◌≤◌, ◌^◌, ◌==◌, ◌||◌, List, [], ◌∷◌, ◌++◌, Bool, true, false, not, cond, IsTrue, Option, Some, None}
use Rattle.std.proofs.Common.{is_some, Result, Ok, Err, OnOk, OnErr, refl, sym, ap, ◌∙◌, subst, arith}
use Rattle.std.specs.BTreeSet.{BTreeSet, contains, IsEmpty, IsLowerBound, Updates}
use Rattle.std.specs.BTreeMap.{is_at}
use Rattle.std.specs.List.{list_any}
use Rattle.std.specs.Ordering.{nat_cmp}
use Rattle.std.specs.Str.{bytes_eq}
use Rattle.std.proofs.lemmas.Bool.{false_from_ne_true, eqb-true}
use Rattle.std.proofs.lemmas.Bool.Decides.{nat_tests}
use Rattle.std.proofs.lemmas.Map.Keys.{le_from_not_gt}
use Rattle.std.proofs.lemmas.Slice.Eq.{bytes_eq-Decides}
use Rattle.xml_names.specs.declared.scopes.Binding.{Binding}
use Rattle.xml_names.specs.Bindings.{uri_in, unless_empty}
use Rattle.pyx_output.specs.Declaring.{is_bound, declares}
use Rattle.pyx_output.specs.FreeNumbers.{IsPast, Tells, has_number}
use Rattle.pyx_output.specs.Nesting.{HasNumbers}
use Rattle.pyx_output.specs.Numbered.{numbered, first_free}
use Rattle.pyx_output.specs.declared.free_numbers.FreeNumbers.{FreeNumbers}
use Rattle.pyx_output.proofs.FirstFree.{free_is}

bound_if : (b : Bool) → false ≡ not b → b ≡ true
bound_if true is = refl
bound_if false is = absurd (cc)

free_if : (b : Bool) → true ≡ not b → b ≡ false
free_if true is = absurd (cc)
free_if false is = refl

none_there : (free : BTreeSet ℕ) (k : ℕ) → IsEmpty free → contains nat_cmp free k ≡ false
none_there free k none = ap (λ (keys : List ℕ). list_any (is_at (nat_cmp k)) keys) none

-- with an empty set all below the mark are bound
pub past_none : (numbers : FreeNumbers) (bound : List Binding) → Tells numbers [] bound → IsEmpty numbers.free → IsPast bound numbers.mark
past_none numbers bound tells none = λ k below. bound_if (is_bound bound (numbered k)) (sym (none_there numbers.free k none) ∙ tells.told k below refl)

-- and the other way round
pub told_past : (numbers : FreeNumbers) (bound : List Binding) → numbers.mark < 2 ^ 64 → IsEmpty numbers.free → IsPast bound numbers.mark → Tells numbers [] bound
told_past numbers bound small none past = record {
  small = small;
  below = λ k there. absurd (let no = none_there numbers.free k none in cc);
  told = λ k below no. none_there numbers.free k none ∙ ap not (sym (past k below));
}

pub told_nothing : (numbers : FreeNumbers) (bound : List Binding) → numbers.mark ≡ 0 → IsEmpty numbers.free → Tells numbers [] bound
told_nothing numbers bound zero none = told_past numbers bound (omega (arith, zero)) none (λ k below. absurd (omega (arith, zero)))

-- the least number of the set is the first free one
pub told_first : (numbers : FreeNumbers) (bound : List Binding) (first : ℕ) → Tells numbers [] bound → IsTrue (contains nat_cmp numbers.free first)
    → IsLowerBound nat_cmp numbers.free first → first ≡ first_free bound
told_first numbers bound first tells there least =
    let within = tells.below first there in
    free_is bound first
    (λ k below. bound_if (is_bound bound (numbered k)) (sym (none k below) ∙ tells.told k (omega arith) refl))
    (free_if (is_bound bound (numbered first)) (sym there ∙ tells.told first within refl))
  where
    none : (k : ℕ) → k < first → contains nat_cmp numbers.free k ≡ false
    none k below = false_from_ne_true (contains nat_cmp numbers.free k) (λ is. let over = le_from_not_gt first k (least k is) in omega arith)

other : (k number : ℕ) (rest : List ℕ) → (number == k) ≡ false → has_number k rest ≡ false → has_number k (number ∷ rest) ≡ false
other k number rest apart none = ap (λ (is : Bool). is || has_number k rest) apart ∙ none

-- a number from the mark on is told of nothing
pub told_beyond : (numbers : FreeNumbers) (number : ℕ) (bound : List Binding) (rest : List ℕ) → numbers.mark ≤ number → Tells numbers (number ∷ rest) bound → Tells numbers rest bound
told_beyond numbers number bound rest beyond tells = record {
  small = tells.small;
  below = tells.below;
  told = λ k below none. tells.told k below (other k number rest (grind (arith, nat_tests)) none);
}

at_number : (j k : ℕ) → is_at (nat_cmp j) k ≡ (j == k)
at_number j k = grind (arith, nat_tests)

-- a number that was looked at
pub looked : (old new : FreeNumbers) (number : ℕ) (is : Bool) (bound : List Binding) (rest : List ℕ) → new.mark ≡ old.mark → Updates nat_cmp old.free new.free number is
    → number < old.mark → is ≡ not (is_bound bound (numbered number)) → Tells old (number ∷ rest) bound → Tells new rest bound
looked old new number is bound rest same updates within free tells = record {
  small = subst (λ (mark : ℕ). mark < 2 ^ 64) (sym same) tells.small;
  below = λ k there. subst (λ (mark : ℕ). k < mark) (sym same) (below_by k (number == k) refl there);
  told = λ k below none. told_by k (number == k) refl (subst (λ (mark : ℕ). k < mark) same below) none;
}
  where
    after : (k : ℕ) → contains nat_cmp new.free k ≡ cond (number == k) is (contains nat_cmp old.free k)
    after k = updates.0 k ∙ ap (λ (there : Bool). cond there is (contains nat_cmp old.free k)) (at_number number k)

    below_by : (k : ℕ) (at : Bool) → (number == k) ≡ at → contains nat_cmp new.free k ≡ true → k < old.mark
    below_by k true at there = let one = eqb-true number k at in omega arith
    below_by k false at there = tells.below k (sym (after k ∙ ap (λ (test : Bool). cond test is (contains nat_cmp old.free k)) at) ∙ there)

    told_by : (k : ℕ) (at : Bool) → (number == k) ≡ at → k < old.mark → has_number k rest ≡ false → contains nat_cmp new.free k ≡ not (is_bound bound (numbered k))
    told_by k true at below none =
        let one = eqb-true number k at in
        after k ∙ (ap (λ (test : Bool). cond test is (contains nat_cmp old.free k)) at ∙ (free ∙ ap (λ (j : ℕ). not (is_bound bound (numbered j))) one))
    told_by k false at below none = after k ∙ (ap (λ (test : Bool). cond test is (contains nat_cmp old.free k)) at ∙ tells.told k below (other k number rest at none))

-- where nothing is in doubt some more may be
pub told_rest : (numbers : FreeNumbers) (bound : List Binding) (rest : List ℕ) → Tells numbers [] bound → Tells numbers rest bound
told_rest numbers bound rest tells = record { small = tells.small; below = tells.below; told = λ k below none. tells.told k below refl }

pub looked_added : {A E : Type 0} (result : Result A E) (old new : FreeNumbers) (number : ℕ) (bound : List Binding) (rest : List ℕ)
    → OnOk result (Updates nat_cmp old.free new.free number true) → OnOk result (new.mark ≡ old.mark)
    → OnErr result (Tells new [] bound) → number < old.mark → is_bound bound (numbered number) ≡ false → Tells old (number ∷ rest) bound → Tells new rest bound
looked_added (Ok done) old new number bound rest updates same none within free tells = looked old new number true bound rest same updates within (ap not (sym free)) tells
looked_added (Err refused) old new number bound rest updates same none within free tells = told_rest new bound rest none

-- the numbers of which a declaration of this prefix raises a doubt
abbrev pub doubtful : Option ℕ → List ℕ
doubtful None = []
doubtful (Some number) = number ∷ []

uri_by : (prefix : List ℕ) (binding : Binding) (bound : List Binding) → bytes_eq binding.prefix prefix ≡ false → uri_in prefix (binding ∷ bound) ≡ uri_in prefix bound
uri_by prefix binding bound apart = rw apart refl

bound_as : (one other : Option (List ℕ)) → one ≡ other → is_some (unless_empty one) ≡ is_some (unless_empty other)
bound_as one other same = ap (λ (uri : Option (List ℕ)). is_some (unless_empty uri)) same

-- one more declaration
pub told_declared : (numbers : FreeNumbers) (binding : Binding) (bound : List Binding) (number : Option ℕ) → ((k : ℕ) → k < 2 ^ 64 → binding.prefix ≡ numbered k → number ≡ Some k)
    → Tells numbers [] bound → Tells numbers (doubtful number) (binding ∷ bound)
told_declared numbers binding bound number reads tells = record {
  small = tells.small;
  below = tells.below;
  told = λ k below none. by k (bytes_eq binding.prefix (numbered k)) refl below none;
}
  where
    itself : (k : ℕ) → has_number k (k ∷ []) ≡ true
    itself k = grind (arith, nat_tests)

    by : (k : ℕ) (is : Bool) → bytes_eq binding.prefix (numbered k) ≡ is → k < numbers.mark → has_number k (doubtful number) ≡ false
        → contains nat_cmp numbers.free k ≡ not (is_bound (binding ∷ bound) (numbered k))
    by k true is below none =
        let small = tells.small in
        let same = reads k (omega arith) ((bytes_eq-Decides binding.prefix (numbered k)).0 is) in
        let no : has_number k (k ∷ []) ≡ false = subst (λ (number : Option ℕ). has_number k (doubtful number) ≡ false) same none in
        let yes = itself k in
        absurd (cc)
    by k false is below none = tells.told k below refl ∙ ap not (sym (bound_as (uri_in (numbered k) (binding ∷ bound)) (uri_in (numbered k) bound) (uri_by (numbered k) binding bound is)))

undeclared : (prefix : List ℕ) (inner outer : List Binding) → declares prefix inner ≡ false → uri_in prefix (inner ++ outer) ≡ uri_in prefix outer
undeclared prefix [] outer none = refl
undeclared prefix (binding ∷ inner) outer none = by (bytes_eq binding.prefix prefix) refl none (undeclared prefix inner outer)
  where
    by : (is : Bool) → bytes_eq binding.prefix prefix ≡ is → (is || declares prefix inner) ≡ false → (declares prefix inner ≡ false → uri_in prefix (inner ++ outer) ≡ uri_in prefix outer)
        → uri_in prefix (binding ∷ (inner ++ outer)) ≡ uri_in prefix outer
    by true is none next = absurd (cc)
    by false is none next = uri_by prefix binding (inner ++ outer) is ∙ next none

-- without the declarations of an element
pub told_closed : (numbers : FreeNumbers) (inner outer : List Binding) (own : List ℕ) → HasNumbers inner own → Tells numbers [] (inner ++ outer) → Tells numbers own outer
told_closed numbers inner outer own has tells = record {
  small = tells.small;
  below = tells.below;
  told = λ k below none.
      let small = tells.small in
      let not_here : declares (numbered k) inner ≡ false = false_from_ne_true (declares (numbered k) inner) (λ is. let there = has k (omega arith) is in absurd (cc)) in
      tells.told k below refl ∙ ap not (bound_as (uri_in (numbered k) (inner ++ outer)) (uri_in (numbered k) outer) (undeclared (numbered k) inner outer not_here));
}
