-- The relations of rows, one row after another.
use Rattle.std.proofs.Common.{◌≡◌, ℕ, zero, suc, ◌+◌, ◌<◌, Bool, cond, List, [], ◌∷◌, ◌++◌, length, Option, Some, None, take, filter, refl, ap, sym, ◌∙◌, arith, length-take}
use Rattle.std.proofs.lemmas.List.Elements.{filter-append}
use Rattle.doc_model.specs.declared.row.Row.{Row}
use Rattle.doc_model.specs.Relations.{numbers, is_above, last_above_from}
use Rattle.doc_model.specs.Rows.{row_at}

take_on : (k : ℕ) (rows : List Row) → k < length rows → take (suc k) rows ≡ take k rows ++ row_at rows k ∷ []
take_on k [] h = absurd (omega arith)
take_on zero (row ∷ rows) h = refl
take_on (suc k) (row ∷ rows) h = ap (λ xs. row ∷ xs) (take_on k rows (omega arith))

last_above-append : (depth n : ℕ) (xs ys : List Row) (found : Option ℕ) → last_above_from depth n (xs ++ ys) found ≡ last_above_from depth (n + length xs) ys (last_above_from depth n xs found)
last_above-append depth n [] ys found = let e : n + 0 ≡ n = omega arith in ap (λ m. last_above_from depth m ys found) (sym e)
last_above-append depth n (row ∷ xs) ys found =
    let e : suc n + length xs ≡ n + suc (length xs) = omega arith in
    last_above-append depth (suc n) xs ys (cond (is_above depth row) (Some n) found)
    ∙ ap (λ m. last_above_from depth m ys (last_above_from depth (suc n) xs (cond (is_above depth row) (Some n) found))) e

pub last_above_on : (depth k : ℕ) (rows : List Row) → k < length rows
    → last_above_from depth 0 (take (k + 1) rows) None ≡ cond (is_above depth (row_at rows k)) (Some k) (last_above_from depth 0 (take k rows) None)
last_above_on depth k rows l =
    let e : 0 + length (take k rows) ≡ k = omega (arith, length-take k rows) in
    let s : k + 1 ≡ suc k = omega arith in
    ap (λ j. last_above_from depth 0 (take j rows) None) s ∙ ap (λ xs. last_above_from depth 0 xs None) (take_on k rows l) ∙ last_above-append depth 0 (take k rows) (row_at rows k ∷ []) None
    ∙ ap (λ m. cond (is_above depth (row_at rows k)) (Some m) (last_above_from depth 0 (take k rows) None)) e

numbers_on : (a count : ℕ) → numbers a (suc count) ≡ numbers a count ++ (a + count) ∷ []
numbers_on a zero = let e : a ≡ a + 0 = omega arith in ap (λ n. n ∷ []) e
numbers_on a (suc count) = let e : suc a + count ≡ a + suc count = omega arith in ap (λ xs. a ∷ xs) (numbers_on (suc a) count ∙ ap (λ n. numbers (suc a) count ++ n ∷ []) e)

filter_one : (f : ℕ → Bool) (k : ℕ) → filter f (k ∷ []) ≡ cond (f k) (k ∷ []) []
filter_one f k = refl

pub filter_on : (f : ℕ → Bool) (k : ℕ) → filter f (numbers 0 (k + 1)) ≡ filter f (numbers 0 k) ++ cond (f k) (k ∷ []) []
filter_on f k =
    let e : 0 + k ≡ k = omega arith in
    let s : k + 1 ≡ suc k = omega arith in
    ap (λ j. filter f (numbers 0 j)) s ∙ ap (filter f) (numbers_on 0 k ∙ ap (λ n. numbers 0 k ++ n ∷ []) e) ∙ filter-append f (numbers 0 k) (k ∷ []) ∙ ap (λ xs. filter f (numbers 0 k) ++ xs) (filter_one f k)
