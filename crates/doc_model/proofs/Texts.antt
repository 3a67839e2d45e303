-- The texts of rows that are gone through in their order.
use Rattle.std.proofs.Common.{◌≡◌, ℕ, zero, suc, ◌+◌, ◌-◌, ◌<◌, ◌≤◌, Bool, true, false, cond, ◌&&◌, ltb, List, [], ◌∷◌, ◌++◌, length, drop, get_or, filter, flat_map, refl, ap, sym, ◌∙◌, arith, append-nil, length-drop, get_or-drop, inl, inr}
use Rattle.std.proofs.lemmas.Bool.{cases_lt, cases_eq, lt-ltb, le-ltb, and_right}
use Rattle.std.proofs.lemmas.List.{get_or_read}
use Rattle.std.proofs.lemmas.List.Elements.{filter-append}
use Rattle.std.proofs.lemmas.List.Concat.{flat_map-append}
use Rattle.doc_model.specs.declared.row.Kind.{Kind}
use Rattle.doc_model.specs.declared.row.Kind.TheVariants.{Root, Element, Attribute, Text, Instruction, Comment}
use Rattle.doc_model.specs.declared.row.Row.{Row}
use Rattle.doc_model.specs.declared.strip_rule.StripRule.{StripRule}
use Rattle.doc_model.specs.Relations.{numbers, deeper, extent_of}
use Rattle.doc_model.specs.Rows.{root_row, row_at}
use Rattle.doc_model.specs.Strip.{is_text, is_visible}
use Rattle.doc_model.specs.Values.{is_shown_text, is_text_below, value_at, texts_below}

-- the visible texts among so many rows from a, joined
abbrev pub texts_in : List StripRule → List Row → ℕ → ℕ → List ℕ
texts_in rules rows a count = flat_map (value_at rows) (filter (is_shown_text rules rows) (numbers a count))

numbers-add : (a m n : ℕ) → numbers a (m + n) ≡ numbers a m ++ numbers (a + m) n
numbers-add a zero n = grind arith
numbers-add a (suc m) n =
    let e : suc m + n ≡ suc (m + n) = omega arith in
    let f : suc a + m ≡ a + suc m = omega arith in
    rw e (ap (λ xs. a ∷ xs) (numbers-add (suc a) m n) ∙ ap (λ k. a ∷ (numbers (suc a) m ++ numbers k n)) f)

filter-split : (f : ℕ → Bool) (a m n : ℕ) → filter f (numbers a (m + n)) ≡ filter f (numbers a m) ++ filter f (numbers (a + m) n)
filter-split f a m n = ap (filter f) (numbers-add a m n) ∙ filter-append f (numbers a m) (numbers (a + m) n)

filter_same : (f g : ℕ → Bool) (a c : ℕ) → ((k : ℕ) → a ≤ k → k < a + c → f k ≡ g k) → filter f (numbers a c) ≡ filter g (numbers a c)
filter_same f g a zero h = refl
filter_same f g a (suc c) h =
    let e : f a ≡ g a = h a (omega arith) (omega arith) in
    let r = filter_same f g (suc a) c (λ k l m. h k (omega arith) (omega arith)) in
    rw (e, r)

filter_nothing : (f : ℕ → Bool) (a c : ℕ) → ((k : ℕ) → a ≤ k → k < a + c → f k ≡ false) → filter f (numbers a c) ≡ []
filter_nothing f a zero h = refl
filter_nothing f a (suc c) h =
    let e : f a ≡ false = h a (omega arith) (omega arith) in
    rw e (filter_nothing f (suc a) c (λ k l m. h k (omega arith) (omega arith)))

-- a filter that passes nothing outside a run of numbers
filter_within : (f g : ℕ → Bool) (from to count : ℕ) → from ≤ to → to ≤ count → ((k : ℕ) → k < from → f k ≡ false) → ((k : ℕ) → from ≤ k → k < to → f k ≡ g k) → ((k : ℕ) → to ≤ k → f k ≡ false)
    → filter f (numbers 0 count) ≡ filter g (numbers from (to - from))
filter_within f g from to count l m before inside past =
    let e : count ≡ from + ((to - from) + (count - to)) = omega arith in
    let z : 0 + from ≡ from = omega arith in
    let t : from + (to - from) ≡ to = omega arith in
    ap (λ c. filter f (numbers 0 c)) e
    ∙ filter-split f 0 from ((to - from) + (count - to))
    ∙ ap (λ xs. xs ++ filter f (numbers (0 + from) ((to - from) + (count - to)))) (filter_nothing f 0 from (λ k a b. before k (omega arith)))
    ∙ ap (λ a. filter f (numbers a ((to - from) + (count - to)))) z
    ∙ filter-split f from (to - from) (count - to)
    ∙ ap (λ xs. filter f (numbers from (to - from)) ++ xs) (filter_nothing f (from + (to - from)) (count - to) (λ k a b. past k (omega arith)))
    ∙ append-nil (filter f (numbers from (to - from)))
    ∙ filter_same f g from (to - from) (λ k a b. inside k a (omega arith))

right_true : (b : Bool) → (b && true) ≡ b
right_true true = refl
right_true false = refl

-- the texts below a row are those of the run of rows up to its extent
pub texts_below_are : (rules : List StripRule) (rows : List Row) (n : ℕ) → extent_of rows n ≤ length rows → texts_below rules rows n ≡ texts_in rules rows (suc n) (extent_of rows n - suc n)
texts_below_are rules rows n l =
    let g : ℕ → Bool = is_shown_text rules rows in
    let e : ℕ = extent_of rows n in
    ap (flat_map (value_at rows)) (filter_within (is_text_below rules rows n) g (suc n) (extent_of rows n) (length rows) (omega arith) l
    (λ k h. and_right (g k) (ltb n k && ltb k (extent_of rows n)) (ap (λ b. b && ltb k (extent_of rows n)) (le-ltb n k (omega arith))))
    (λ k h m. ap (λ b. g k && (b && ltb k (extent_of rows n))) (lt-ltb n k (omega arith)) ∙ ap (λ b. g k && b) (lt-ltb k (extent_of rows n) m) ∙ right_true (g k))
    (λ k h. and_right (g k) (ltb n k && ltb k (extent_of rows n)) (and_right (ltb n k) (ltb k (extent_of rows n)) (le-ltb k (extent_of rows n) h))))

-- one row more
pub texts_push : (rules : List StripRule) (rows : List Row) (a m : ℕ) → texts_in rules rows a (m + 1) ≡ texts_in rules rows a m ++ flat_map (value_at rows) (filter (is_shown_text rules rows) ((a + m) ∷ []))
texts_push rules rows a m =
    let f : ℕ → Bool = is_shown_text rules rows in
    ap (flat_map (value_at rows)) (filter-split f a m 1) ∙ flat_map-append (value_at rows) (filter f (numbers a m)) (filter f ((a + m) ∷ []))

pub texts_more : (rules : List StripRule) (rows : List Row) (a m k : ℕ) → a + m ≡ k → is_shown_text rules rows k ≡ true → texts_in rules rows a (m + 1) ≡ texts_in rules rows a m ++ value_at rows k
texts_more rules rows a m k e h =
    texts_push rules rows a m
    ∙ ap (λ j. texts_in rules rows a m ++ flat_map (value_at rows) (filter (is_shown_text rules rows) (j ∷ []))) e
    ∙ ap (λ b. texts_in rules rows a m ++ flat_map (value_at rows) (cond b (k ∷ []) [])) h
    ∙ ap (λ xs. texts_in rules rows a m ++ xs) (append-nil (value_at rows k))

pub texts_same : (rules : List StripRule) (rows : List Row) (a m k : ℕ) → a + m ≡ k → is_shown_text rules rows k ≡ false → texts_in rules rows a (m + 1) ≡ texts_in rules rows a m
texts_same rules rows a m k e h =
    texts_push rules rows a m
    ∙ ap (λ j. texts_in rules rows a m ++ flat_map (value_at rows) (filter (is_shown_text rules rows) (j ∷ []))) e
    ∙ ap (λ b. texts_in rules rows a m ++ flat_map (value_at rows) (cond b (k ∷ []) [])) h
    ∙ append-nil (texts_in rules rows a m)

-- a run of deeper rows is as long as they are
deeper_all : (d : ℕ) (rows : List Row) (i : ℕ) → i ≤ length rows → ((j : ℕ) → j < i → d < (row_at rows j).depth) → i ≤ deeper d rows
deeper_all d rows zero l h = omega arith
deeper_all d [] (suc i) l h = absurd (omega arith)
deeper_all d (r ∷ rows) (suc i) l h =
    let s = deeper_all d rows i (omega arith) (λ j a. h (suc j) (omega arith)) in
    let first = h 0 (omega arith) in
    omega (arith, s, ap (λ b. cond b (suc (deeper d rows)) 0) (lt-ltb d r.depth first))

deeper_stops : (d : ℕ) (rows : List Row) (i : ℕ) → i < length rows → (row_at rows i).depth ≤ d → deeper d rows ≤ i
deeper_stops d [] i l h = absurd (omega arith)
deeper_stops d (r ∷ rows) zero l h = omega (arith, ap (λ b. cond b (suc (deeper d rows)) 0) (le-ltb d r.depth h))
deeper_stops d (r ∷ rows) (suc i) l h =
    let s = deeper_stops d rows i (omega arith) h in
    elim (cases_lt d r.depth) [
      | inl lt ↦ omega (arith, s, ap (λ b. cond b (suc (deeper d rows)) 0) (lt-ltb d r.depth lt))
      | inr ge ↦ omega (arith, ap (λ b. cond b (suc (deeper d rows)) 0) (le-ltb d r.depth ge))
    ]

deeper_le : (d : ℕ) (rows : List Row) → deeper d rows ≤ length rows
deeper_le d [] = omega arith
deeper_le d (r ∷ rows) =
    let s = deeper_le d rows in
    elim (cases_lt d r.depth) [
      | inl lt ↦ omega (arith, s, ap (λ b. cond b (suc (deeper d rows)) 0) (lt-ltb d r.depth lt))
      | inr ge ↦ omega (arith, ap (λ b. cond b (suc (deeper d rows)) 0) (le-ltb d r.depth ge))
    ]

-- the walk along the rows after row n stands before row k
pub record Going (rules : List StripRule) (rows : List Row) (n k : ℕ) (value : List ℕ) : Type 0 where
  pub past : n < k
  pub within : k ≤ length rows
  pub below : (j : ℕ) → n < j → j < k → (row_at rows n).depth < (row_at rows j).depth
  pub texts : value ≡ texts_in rules rows (suc n) (k - suc n)

pub going_first : (rules : List StripRule) (rows : List Row) (n k : ℕ) → k ≡ n + 1 → n < length rows → Going rules rows n k []
going_first rules rows n k e l =
    let z : k - suc n ≡ 0 = omega arith in
    record { past = omega arith; within = omega arith; below = λ j l u. absurd (omega arith); texts = sym (ap (texts_in rules rows (suc n)) z) }

-- where the run of deeper rows ends at row k
going_at : (rules : List StripRule) (rows : List Row) (n k : ℕ) (value : List ℕ) → Going rules rows n k value → deeper (row_at rows n).depth (drop (suc n) rows) ≤ k - suc n → value ≡ texts_below rules rows n
going_at rules rows n k value g u =
    let p = g.past in
    let w = g.within in
    let m = deeper_all (row_at rows n).depth (drop (suc n) rows) (k - suc n) (omega (arith, length-drop (suc n) rows)) (λ j a.
    let at = get_or-drop (suc n) rows j root_row in
    let b = g.below (suc n + j) (omega arith) (omega arith) in
    omega (arith, b, ap (λ (q : Row). q.depth) at)) in
    let e : k ≡ extent_of rows n = omega arith in
    g.texts ∙ ap (λ j. texts_in rules rows (suc n) (j - suc n)) e ∙ sym (texts_below_are rules rows n (omega arith))

pub going_done : (rules : List StripRule) (rows : List Row) (n k : ℕ) (value : List ℕ) → Going rules rows n k value → length rows ≤ k → value ≡ texts_below rules rows n
going_done rules rows n k value g l = going_at rules rows n k value g (omega (arith, deeper_le (row_at rows n).depth (drop (suc n) rows), length-drop (suc n) rows))

module _ (rules : List StripRule) (rows : List Row) (n k : ℕ) (value : List ℕ) (row : Row) (g : Going rules rows n k value) (l : k < length rows) (read : row ≡ get_or rows k row) where
  at : row ≡ row_at rows k
  at = get_or_read rows k row l read root_row

  deeper_next : (row_at rows n).depth < row.depth → (j : ℕ) → n < j → j < k + 1 → (row_at rows n).depth < (row_at rows j).depth
  deeper_next h j a b = elim (cases_eq j k) [
    | inl e ↦ omega (arith, h, ap (λ (r : Row). r.depth) at, ap (λ i. (row_at rows i).depth) e)
    | inr e ↦ g.below j a (omega arith)
  ]

  step : (k + 1) - suc n ≡ (k - suc n) + 1
  step = omega (arith, g.past)

  place : suc n + (k - suc n) ≡ k
  place = omega (arith, g.past)

  -- a deeper row that is no text
  pub going_past : (row_at rows n).depth < row.depth → (row.kind ≡ Text → ⊥) → Going rules rows n (k + 1) value
  going_past h t = record {
    past = omega (arith, g.past);
    within = omega (arith, l);
    below = deeper_next h;
    texts = g.texts ∙ sym (texts_same rules rows (suc n) (k - suc n) k place none) ∙ sym (ap (texts_in rules rows (suc n)) step);
  }
    where
      other : (kind : Kind) → (kind ≡ Text → ⊥) → is_text kind ≡ false
      other Root n = refl
      other Element n = refl
      other Attribute n = refl
      other Text n = absurd (n refl)
      other Instruction n = refl
      other Comment n = refl

      none : is_shown_text rules rows k ≡ false
      none = and_right (is_visible rules rows k) (is_text (row_at rows k).kind) (sym (ap (λ (r : Row). is_text r.kind) at) ∙ other row.kind t)

  -- a deeper text that is visible
  pub going_on : (row_at rows n).depth < row.depth → row.kind ≡ Text → is_visible rules rows k ≡ true → Going rules rows n (k + 1) (value ++ row.value)
  going_on h t v = record {
    past = omega (arith, g.past);
    within = omega (arith, l);
    below = deeper_next h;
    texts =
        ap (λ xs. value ++ xs) (ap (λ (r : Row). r.value) at) ∙ ap (λ xs. xs ++ value_at rows k) g.texts
        ∙ sym (texts_more rules rows (suc n) (k - suc n) k place (ap (λ b. b && is_text (row_at rows k).kind) v ∙ sym (ap (λ (r : Row). is_text r.kind) at) ∙ ap is_text t)) ∙ sym (ap (texts_in rules rows (suc n)) step);
  }

  -- the next row that is not deeper ends the texts
  pub going_ends : row.depth ≤ (row_at rows n).depth → value ≡ texts_below rules rows n
  going_ends h = going_at rules rows n k value g (deeper_stops (row_at rows n).depth (drop (suc n) rows) (k - suc n) (omega (arith, g.past, l, length-drop (suc n) rows)) (omega (arith, h, ap (λ (r : Row). r.depth) (at ∙ here))))
    where
      here : row_at rows k ≡ row_at (drop (suc n) rows) (k - suc n)
      here = sym (ap (row_at rows) place) ∙ sym (get_or-drop (suc n) rows (k - suc n) root_row)
