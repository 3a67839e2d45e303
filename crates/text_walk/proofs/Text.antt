-- The text of the rows up to a row and its attributes.
use Rattle.std.proofs.Common.{◌≡◌, ℕ, zero, suc, ◌+◌, ◌<◌, ◌≤◌, Bool, true, false, cond, not, ◌&&◌, List, [], ◌∷◌, ◌++◌, ltb, length, drop, take}
use Rattle.std.proofs.Common.{refl, ap, sym, ◌∙◌, arith, append-nil, map, filter, length-append, length-drop, inl, inr}
use Rattle.std.proofs.lemmas.Bool.{cases_Bool, lt-ltb, le-ltb, false≢true}
use Rattle.std.proofs.lemmas.List.{map-append, take_more}
use Rattle.std.proofs.lemmas.List.Elements.{filter-append}
use Rattle.std.proofs.lemmas.List.Folds.{concat-append}
use Rattle.std.specs.List.{concat}
use Rattle.doc_model.specs.declared.row.Kind.{Kind}
use Rattle.doc_model.specs.declared.row.Kind.TheVariants.{Root, Element, Attribute, Text, Instruction, Comment}
use Rattle.doc_model.specs.declared.row.Row.{Row}
use Rattle.doc_model.specs.Document.{is_attribute}
use Rattle.doc_model.specs.Legible.{is_empty}
use Rattle.doc_model.specs.Relations.{attribute_run, attr_count_of}
use Rattle.doc_model.specs.Rows.{root_row, row_at}
use Rattle.doc_model.specs.Strip.{is_text}
use Rattle.text_walk.specs.Text.{is_text_row, value_in, text_of, is_event, events_in}

pub text-append : (xs ys : List Row) → text_of (xs ++ ys) ≡ text_of xs ++ text_of ys
text-append xs ys =
    ap (λ rows. concat (map value_in rows)) (filter-append is_text_row xs ys)
    ∙ ap concat (map-append value_in (filter is_text_row xs) (filter is_text_row ys))
    ∙ concat-append (map value_in (filter is_text_row xs)) (map value_in (filter is_text_row ys))

pub events-append : (xs ys : List Row) → events_in (xs ++ ys) ≡ events_in xs + events_in ys
events-append xs ys = ap length (filter-append is_event xs ys) ∙ length-append (filter is_event xs) (filter is_event ys)

-- what one row gives
pub text_alone : (row : Row) → is_text row.kind ≡ true → text_of (row ∷ []) ≡ row.value
text_alone row h = ap (λ b. concat (map value_in (cond b (row ∷ []) []))) h ∙ append-nil row.value

pub no_text_alone : (row : Row) → is_text row.kind ≡ false → text_of (row ∷ []) ≡ []
no_text_alone row h = ap (λ b. concat (map value_in (cond b (row ∷ []) []))) h

pub event_alone : (row : Row) (b : Bool) → is_event row ≡ b → events_in (row ∷ []) ≡ cond b 1 0
event_alone row true h = ap (λ b. length (cond b (row ∷ []) [])) h
event_alone row false h = ap (λ b. length (cond b (row ∷ []) [])) h

attribute_no_text : (k : Kind) → is_attribute k ≡ true → is_text k ≡ false
attribute_no_text Root h = absurd (false≢true h)
attribute_no_text Element h = absurd (false≢true h)
attribute_no_text Attribute h = refl
attribute_no_text Text h = absurd (false≢true h)
attribute_no_text Instruction h = absurd (false≢true h)
attribute_no_text Comment h = absurd (false≢true h)

-- attributes give nothing
run_text : (xs : List Row) → (text_of (take (attribute_run xs) xs) ≡ []) × (events_in (take (attribute_run xs) xs) ≡ 0)
run_text [] = (refl, refl)
run_text (x ∷ xs) = elim (cases_Bool (is_attribute x.kind)) [
  | inr e ↦ rw e (refl, refl)
  | inl e ↦
      let r = run_text xs in
      let none : is_text x.kind ≡ false = attribute_no_text x.kind e in
      let front : List Row = take (attribute_run xs) xs in
      let count : take (attribute_run (x ∷ xs)) (x ∷ xs) ≡ x ∷ front = ap (λ b. take (cond b (suc (attribute_run xs)) 0) (x ∷ xs)) e in
      let text : text_of (x ∷ front) ≡ text_of front = ap (λ b. concat (map value_in (cond b (x ∷ filter is_text_row front) (filter is_text_row front)))) none in
      let event : is_event x ≡ false = ap (λ b. b && not (is_empty x.value)) none in
      let events : events_in (x ∷ front) ≡ events_in front = ap (λ b. length (cond b (x ∷ filter is_event front) (filter is_event front))) event in
      (ap text_of count ∙ text ∙ r.0, ap events_in count ∙ events ∙ r.1)
]

run_le : (xs : List Row) → attribute_run xs ≤ length xs
run_le [] = omega arith
run_le (x ∷ xs) = let h = run_le xs in elim (cases_Bool (is_attribute x.kind)) [ inl e ↦ rw e (omega arith) | inr e ↦ rw e (omega arith) ]

pub count_fits : (rows : List Row) (n : ℕ) → n < length rows → suc n + attr_count_of rows n ≤ length rows
count_fits rows n l = elim (cases_Bool (is_attribute (row_at rows n).kind)) [
  | inl e ↦ rw e (omega arith)
  | inr e ↦ rw e (omega (arith, run_le (drop (suc n) rows), length-drop (suc n) rows))
]

pub take_on : (a b : ℕ) (xs : List Row) → take (a + b) xs ≡ take a xs ++ take b (drop a xs)
take_on zero b xs = let z : 0 + b ≡ b = omega arith in ap (λ k. take k xs) z
take_on (suc a) b [] = take_none (suc a + b) ∙ sym (take_none b)
  where
    take_none : (b : ℕ) → ◌≡◌ {A = List Row} (take b []) []
    take_none zero = refl
    take_none (suc b) = refl
take_on (suc a) b (x ∷ xs) = let s : suc a + b ≡ suc (a + b) = omega arith in ap (λ k. take k (x ∷ xs)) s ∙ ap (λ ys. x ∷ ys) (take_on a b xs)

-- the rows up to row n, the row, and its attributes
pub text_past : (rows : List Row) (n : ℕ) → n < length rows → text_of (take (suc n + attr_count_of rows n) rows) ≡ text_of (take n rows) ++ text_of (row_at rows n ∷ [])
text_past rows n l =
    let past : text_of (take (attr_count_of rows n) (drop (suc n) rows)) ≡ [] = elim (cases_Bool (is_attribute (row_at rows n).kind)) [
      | inl e ↦ rw e refl
      | inr e ↦ rw e (run_text (drop (suc n) rows)).0
    ] in
    let on : n + 1 ≡ suc n = omega arith in
    ap text_of (take_on (suc n) (attr_count_of rows n) rows)
    ∙ text-append (take (suc n) rows) (take (attr_count_of rows n) (drop (suc n) rows))
    ∙ ap (λ xs. text_of (take (suc n) rows) ++ xs) past ∙ append-nil (text_of (take (suc n) rows))
    ∙ sym (ap (λ k. text_of (take k rows)) on) ∙ ap text_of (take_more rows n root_row l)
    ∙ text-append (take n rows) (row_at rows n ∷ [])

pub events_past : (rows : List Row) (n : ℕ) → n < length rows → events_in (take (suc n + attr_count_of rows n) rows) ≡ events_in (take n rows) + events_in (row_at rows n ∷ [])
events_past rows n l =
    let past : events_in (take (attr_count_of rows n) (drop (suc n) rows)) ≡ 0 = elim (cases_Bool (is_attribute (row_at rows n).kind)) [
      | inl e ↦ rw e refl
      | inr e ↦ rw e (run_text (drop (suc n) rows)).1
    ] in
    let on : n + 1 ≡ suc n = omega arith in
    let a = ap events_in (take_on (suc n) (attr_count_of rows n) rows) ∙ events-append (take (suc n) rows) (take (attr_count_of rows n) (drop (suc n) rows)) in
    let b = ap (λ k. events_in (take k rows)) on in
    let c = ap events_in (take_more rows n root_row l) ∙ events-append (take n rows) (row_at rows n ∷ []) in
    omega (arith, a, b, c, past)

filter_le : (xs : List Row) → events_in xs ≤ length xs
filter_le [] = omega arith
filter_le (x ∷ xs) = let h = filter_le xs in elim (cases_Bool (is_event x)) [ inl e ↦ rw e (omega arith) | inr e ↦ rw e (omega arith) ]

take_le : (k : ℕ) (xs : List Row) → length (take k xs) ≤ k
take_le zero xs = omega arith
take_le (suc k) [] = omega arith
take_le (suc k) (x ∷ xs) = let h = take_le k xs in omega arith

pub events_le : (rows : List Row) (k : ℕ) → events_in (take k rows) ≤ k
events_le rows k = omega (arith, filter_le (take k rows), take_le k rows)

-- bytes that were appended make the list longer, unless there are none
pub longer : (xs ys : List ℕ) → ltb (length xs) (length (xs ++ ys)) ≡ not (is_empty ys)
longer xs [] = le-ltb (length xs) (length (xs ++ [])) (omega (arith, length-append xs []))
longer xs (y ∷ ys) = lt-ltb (length xs) (length (xs ++ y ∷ ys)) (omega (arith, length-append xs (y ∷ ys)))
