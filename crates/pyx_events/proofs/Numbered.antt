-- Rows that are told by the numbers of their URIs.
use Rattle.std.proofs.lemmas.List.{take_all}
use Rattle.std.proofs.Common.{◌≡◌, ◌<◌, ◌-◌, ℕ, zero, suc, List, [], ◌∷◌, ◌++◌, true, false, ◌==◌, Some, refl, arith, sym, ◌∙◌, ap, drop, take, length, get_or, ⊎_elim}
use Rattle.std.specs.Prelude.{slice_get}
use Rattle.std.specs.Str.{bytes_eq}
use Rattle.std.specs.Cmp.Lexicographic.{bytes_decides}
use Rattle.std.proofs.lemmas.Bool.{cases_Bool}
use Rattle.std.proofs.lemmas.Option.{same_Some}
use Rattle.std.proofs.Math.Bool.{true≢false}
use Rattle.std.proofs.lemmas.Grind.{common_steps}
use Rattle.std.specs.Prelude.{if◌then◌else◌}
use Rattle.std.proofs.lemmas.Grind.{flat_map-append}
use Rattle.xml_names.specs.declared.scopes.Binding.{Binding}
use Rattle.pyx_events.specs.Before.{is_declaration}
use Rattle.pyx_events.specs.Nodes.{attribute_row, attribute_rows, numbers_of}
use Rattle.pyx_events.specs.declared.pending_start.Attribute.{Attribute}
use Rattle.doc_model.specs.declared.row.Row.{Row}
use Rattle.shared_texts.specs.Numbers.{NoRepeats}
use Rattle.shared_texts.proofs.Known.{number_told}
use Rattle.pyx_events.specs.Numbered.{AreNumbered}

equal_numbers : (m n : ℕ) → (m == n) ≡ true → m ≡ n
equal_numbers m n e = grind (arith, common_steps)

itself : (m n : ℕ) → m ≡ n → (m == n) ≡ true
itself m n e = grind (arith, common_steps)

-- URIs are the same exactly where their numbers are
pub told_by_numbers : (uris : List (List ℕ)) (m n : ℕ) (a b : List ℕ) → NoRepeats uris → slice_get uris m ≡ Some a → slice_get uris n ≡ Some b → (m == n) ≡ bytes_eq a b
told_by_numbers uris m n a b tell p q =
    ⊎_elim
    (λ y. y ∙ sym ((bytes_decides a b).1 (same_Some a b (sym p ∙ ap (slice_get uris) (equal_numbers m n y) ∙ q))))
    (λ no.
    ⊎_elim
    (λ y. let e = (bytes_decides a b).0 y in absurd (true≢false (sym (itself m n (tell a m n p (q ∙ ap Some (sym e)))) ∙ no)))
    (λ f. no ∙ sym f)
    (cases_Bool (bytes_eq a b)))
    (cases_Bool (m == n))

pub as_many : (uris : List (List ℕ)) (rows : List Row) (numbers : List ℕ) → AreNumbered uris rows numbers → length numbers ≡ length rows
as_many uris [] [] are = refl
as_many uris [] (n ∷ numbers) are = absurd are
as_many uris (row ∷ rows) [] are = absurd are
as_many uris (row ∷ rows) (n ∷ numbers) are = ap suc (as_many uris rows numbers are.1)

pub numbered_at : (uris : List (List ℕ)) (rows : List Row) (numbers : List ℕ) (k : ℕ) (row : Row) (n : ℕ) → AreNumbered uris rows numbers → k < length rows
    → slice_get uris (get_or numbers k n) ≡ Some (get_or rows k row).uri
numbered_at uris [] numbers k row n are within = let no : ⊥ = omega (arith, within) in absurd no
numbered_at uris (first ∷ rows) [] k row n are within = absurd are
numbered_at uris (first ∷ rows) (m ∷ numbers) zero row n are within = are.0
numbered_at uris (first ∷ rows) (m ∷ numbers) (suc k) row n are within = numbered_at uris rows numbers k row n are.1 (omega (arith, within))

pub numbered_from : (uris : List (List ℕ)) (rows : List Row) (numbers : List ℕ) (k : ℕ) → AreNumbered uris rows numbers → AreNumbered uris (drop k rows) (drop k numbers)
numbered_from uris rows numbers zero are = are
numbered_from uris [] [] (suc k) are = tt
numbered_from uris [] (n ∷ numbers) (suc k) are = absurd are
numbered_from uris (row ∷ rows) [] (suc k) are = absurd are
numbered_from uris (row ∷ rows) (n ∷ numbers) (suc k) are = numbered_from uris rows numbers k are.1

pub numbered_more : (uris : List (List ℕ)) (rows : List Row) (numbers : List ℕ) (row : Row) (n : ℕ) → slice_get uris n ≡ Some row.uri → AreNumbered uris rows numbers
    → AreNumbered uris (rows ++ row ∷ []) (numbers ++ n ∷ [])
numbered_more uris [] [] row n here are = (here, tt)
numbered_more uris [] (m ∷ numbers) row n here are = absurd are
numbered_more uris (first ∷ rows) [] row n here are = absurd are
numbered_more uris (first ∷ rows) (m ∷ numbers) row n here are = (are.0, numbered_more uris rows numbers row n here are.1)

pub numbered_part : (uris : List (List ℕ)) (rows : List Row) (numbers : List ℕ) (count : ℕ) → AreNumbered uris rows numbers → AreNumbered uris (take count rows) (take count numbers)
numbered_part uris rows numbers zero are = tt
numbered_part uris [] [] (suc count) are = tt
numbered_part uris [] (n ∷ numbers) (suc count) are = absurd are
numbered_part uris (row ∷ rows) [] (suc count) are = absurd are
numbered_part uris (row ∷ rows) (n ∷ numbers) (suc count) are = (are.0, numbered_part uris rows numbers count are.1)

-- one more line, which declares nothing
pub rows_more : (bound : List Binding) (depth : ℕ) (lines : List Attribute) (it : Attribute) → is_declaration it.name ≡ false
    → attribute_rows bound depth (lines ++ it ∷ []) ≡ attribute_rows bound depth lines ++ attribute_row bound depth it ∷ []
rows_more bound depth lines it undeclared = rw (flat_map-append (λ it. if is_declaration it.name then [] else attribute_row bound depth it ∷ []) lines (it ∷ []), undeclared) refl

-- the numbers of rows are those of their URIs
pub numbers_are : (uris : List (List ℕ)) (rows : List Row) (numbers : List ℕ) → NoRepeats uris → AreNumbered uris rows numbers → numbers ≡ numbers_of uris rows
numbers_are uris [] [] apart are = refl
numbers_are uris [] (n ∷ numbers) apart are = absurd are
numbers_are uris (row ∷ rows) [] apart are = absurd are
numbers_are uris (row ∷ rows) (n ∷ numbers) apart are = rw (number_told uris row.uri n apart are.0, ← numbers_are uris rows numbers apart are.1) refl

-- the numbers behind the first are those of the attributes
pub of_attributes : (uris : List (List ℕ)) (row : Row) (rows : List Row) (numbers : List ℕ) → AreNumbered uris (row ∷ rows) numbers → AreNumbered uris rows (take (length numbers - 1) (drop 1 numbers))
of_attributes uris row rows [] are = absurd are
of_attributes uris row rows (n ∷ numbers) are =
    let all : take (length (n ∷ numbers) - 1) numbers ≡ numbers = take_all (length (n ∷ numbers) - 1) numbers (omega arith) in
    rw all are.1
