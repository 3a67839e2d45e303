-- One pass through the rows of a subtree gives the copy of its row.
use Rattle.std.proofs.Common.{◌≡◌, ℕ, zero, suc, ◌+◌, ◌-◌, ◌<◌, ◌≤◌, Bool, true, false, cond, not, ◌&&◌, List, [], ◌∷◌, ◌++◌, length, map, drop}
use Rattle.std.proofs.Common.{filter, flat_map, refl, ap, sym, ◌∙◌, arith, append_assoc, append-nil, length-drop, get_or-drop, inl, inr, ◌⊎◌}
use Rattle.std.proofs.lemmas.Bool.{cases_Bool, cases_lt, and_parts, and_right, false≢true}
use Rattle.std.proofs.lemmas.List.{replicate-append-replicate}
use Rattle.doc_model.specs.declared.row.Kind.{Kind}
use Rattle.doc_model.specs.declared.row.Kind.TheVariants.{Root, Element, Attribute, Text, Instruction, Comment}
use Rattle.doc_model.specs.declared.row.Row.{Row}
use Rattle.doc_model.specs.declared.strip_rule.StripRule.{StripRule}
use Rattle.doc_model.specs.Axes.{is_attribute_of}
use Rattle.doc_model.specs.Document.{is_attribute, is_parent}
use Rattle.doc_model.specs.Relations.{numbers, parent_of, is_child, is_some_of, extent_of, attribute_run, attr_count_of}
use Rattle.doc_model.specs.Rows.{root_row, row_at}
use Rattle.doc_model.specs.Shown.{is_shown, shown_of}
use Rattle.doc_model.specs.Strip.{is_text, is_visible, strips, row_or_root, all_white, keeps_space}
use Rattle.doc_laws.proofs.Attributes.{attribute_after, attribute_if_after}
use Rattle.doc_laws.proofs.Ends.{extent_le}
use Rattle.doc_laws.proofs.Kids.{is_some_of-true}
use Rattle.doc_laws.proofs.Numbers.{filter-split, filter_nothing, filter_yes}
use Rattle.doc_laws.proofs.Subtrees.{parent_plain, in_within}
use Rattle.result_events.specs.declared.event.ResultEvent.{ResultEvent}
use Rattle.result_events.specs.declared.event.ResultEvent.TheVariants as event
use Rattle.copy_meaning.specs.Copies.{result_name, made_of, attribute_event, attributes_of, copy_within}
use Rattle.copy_meaning.specs.Passes.{depth_at, ends, beginning_as, beginning, beginning_shown, ending_as, ending, depth_behind, pass}
use Rattle.copy_meaning.proofs.Documents.{IsDocument, is_root}
use Rattle.copy_meaning.proofs.Families.{extent_stops, parent_depth, child_parent, child_plain, child_within, child_ends, child_alone, child_next, child_first}

-- Numbers that pass a test between two places alone.

filter_window : (f : ℕ → Bool) (from to count : ℕ) → from ≤ to → to ≤ count → ((k : ℕ) → k < from → f k ≡ false) → ((k : ℕ) → to ≤ k → k < count → f k ≡ false)
    → filter f (numbers 0 count) ≡ filter f (numbers from (to - from))
filter_window f from to count l m before past =
    let e : count ≡ from + ((to - from) + (count - to)) = omega arith in
    let z : 0 + from ≡ from = omega arith in
    ap (λ c. filter f (numbers 0 c)) e
    ∙ filter-split f 0 from ((to - from) + (count - to))
    ∙ ap (λ xs. xs ++ filter f (numbers (0 + from) ((to - from) + (count - to)))) (filter_nothing f 0 from (λ k a b. before k (omega arith)))
    ∙ ap (λ a. filter f (numbers a ((to - from) + (count - to)))) z
    ∙ filter-split f from (to - from) (count - to)
    ∙ ap (λ xs. filter f (numbers from (to - from)) ++ xs) (filter_nothing f (from + (to - from)) (count - to) (λ k a b. past k (omega arith) (omega arith)))
    ∙ append-nil (filter f (numbers from (to - from)))

filter_all : (f : ℕ → Bool) (a c : ℕ) → ((k : ℕ) → a ≤ k → k < a + c → f k ≡ true) → filter f (numbers a c) ≡ numbers a c
filter_all f a zero h = refl
filter_all f a (suc c) h = filter_yes f a (numbers (suc a) c) (h a (omega arith) (omega arith)) ∙ ap (λ ks. a ∷ ks) (filter_all f (suc a) c (λ k l m. h k (omega arith) (omega arith)))

-- The run of attributes.

run_le : (rows : List Row) → attribute_run rows ≤ length rows
run_le [] = omega arith
run_le (r ∷ rows) = elim (cases_Bool (is_attribute r.kind)) [
  | inl e ↦ omega (arith, run_le rows, ap (λ b. cond b (suc (attribute_run rows)) 0) e)
  | inr e ↦ omega (arith, ap (λ b. cond b (suc (attribute_run rows)) 0) e)
]

run_stops : (rows : List Row) → attribute_run rows < length rows → is_attribute (row_at rows (attribute_run rows)).kind ≡ false
run_stops [] l = absurd (omega arith)
run_stops (r ∷ rows) l = elim (cases_Bool (is_attribute r.kind)) [
  | inl e ↦
      let more : attribute_run (r ∷ rows) ≡ suc (attribute_run rows) = ap (λ b. cond b (suc (attribute_run rows)) 0) e in
      ap (λ k. is_attribute (row_at (r ∷ rows) k).kind) more ∙ run_stops rows (omega (arith, l, more))
  | inr e ↦
      let none : attribute_run (r ∷ rows) ≡ 0 = ap (λ b. cond b (suc (attribute_run rows)) 0) e in
      ap (λ k. is_attribute (row_at (r ∷ rows) k).kind) none ∙ e
]

-- Kinds.

attribute_kind : (k : Kind) → is_attribute k ≡ true → k ≡ Attribute
attribute_kind Root h = absurd (false≢true h)
attribute_kind Element h = absurd (false≢true h)
attribute_kind Attribute h = refl
attribute_kind Text h = absurd (false≢true h)
attribute_kind Instruction h = absurd (false≢true h)
attribute_kind Comment h = absurd (false≢true h)

element_kind : (k : Kind) → is_parent k ≡ true → is_root k ≡ false → k ≡ Element
element_kind Root h n = absurd (false≢true (sym n))
element_kind Element h n = refl
element_kind Attribute h n = absurd (false≢true h)
element_kind Text h n = absurd (false≢true h)
element_kind Instruction h n = absurd (false≢true h)
element_kind Comment h n = absurd (false≢true h)

attribute_leaf : (k : Kind) → is_attribute k ≡ true → is_parent k ≡ false
attribute_leaf k h = ap is_parent (attribute_kind k h)

pub attribute_other : (k : Kind) → is_attribute k ≡ true → is_text k ≡ false
attribute_other k h = ap is_text (attribute_kind k h)

pub parent_other : (k : Kind) → is_parent k ≡ true → is_text k ≡ false
parent_other Root h = refl
parent_other Element h = refl
parent_other Attribute h = refl
parent_other Text h = absurd (false≢true h)
parent_other Instruction h = refl
parent_other Comment h = refl

-- a row without children is made of its beginning alone
leaf_made : (k : Kind) (row : Row) (attributes content : List ResultEvent) → is_parent k ≡ false → made_of k row attributes content ≡ beginning_as k row
leaf_made Root row attributes content h = absurd (false≢true (sym h))
leaf_made Element row attributes content h = absurd (false≢true (sym h))
leaf_made Attribute row attributes content h = refl
leaf_made Text row attributes content h = refl
leaf_made Instruction row attributes content h = refl
leaf_made Comment row attributes content h = refl

leaf_ending : (k : Kind) → is_parent k ≡ false → ending_as k ≡ []
leaf_ending Root h = refl
leaf_ending Element h = absurd (false≢true (sym h))
leaf_ending Attribute h = refl
leaf_ending Text h = refl
leaf_ending Instruction h = refl
leaf_ending Comment h = refl

element_joins : (xs ys ps : List ResultEvent) (s e : ResultEvent) → (xs ++ s ∷ []) ++ (ys ++ e ∷ ps) ≡ xs ++ ((s ∷ (ys ++ e ∷ [])) ++ ps)
element_joins xs ys ps s e = append_assoc xs (s ∷ []) (ys ++ e ∷ ps) ∙ ap (λ zs. xs ++ (s ∷ zs)) (sym (append_assoc ys (e ∷ []) ps))

pub ends-add : (a b : ℕ) → ends (a + b) ≡ ends a ++ ends b
ends-add a b = sym (replicate-append-replicate a b event.End)

module _ (rules : List StripRule) (rows : List Row) where
  -- only a text may be hidden
  pub other_visible : (k : ℕ) → is_text (row_at rows k).kind ≡ false → is_visible rules rows k ≡ true
  other_visible k e =
      ap (λ b. not (strips rules (row_or_root rows (parent_of rows k)) && ((b && all_white (row_at rows k).value) && not (keeps_space rows k)))) e
      ∙ ap not (and_right (strips rules (row_or_root rows (parent_of rows k))) false refl)

  -- ends that come before whatever follows
  pass_closes : (base x c d above : ℕ) → base ≤ above → above ≤ d → (0 < c → depth_at rows x ≤ suc above) → pass rules rows base x c d ≡ ends (d - above) ++ pass rules rows base x c above
  pass_closes base x zero d above l m h =
      let e : d - base ≡ (d - above) + (above - base) = omega arith in
      ap ends e ∙ ends-add (d - above) (above - base)
  pass_closes base x (suc c) d above l m h =
      let h' = h (omega arith) in
      let e : suc d - depth_at rows x ≡ (d - above) + (suc above - depth_at rows x) = omega (arith, h') in
      let rest : List ResultEvent = pass rules rows base (suc x) c (depth_behind (row_at rows x)) in
      ap (λ es. (es ++ beginning_shown rules rows x) ++ rest) (ap ends e ∙ ends-add (d - above) (suc above - depth_at rows x))
      ∙ ap (λ es. es ++ rest) (append_assoc (ends (d - above)) (ends (suc above - depth_at rows x)) (beginning_shown rules rows x))
      ∙ append_assoc (ends (d - above)) (ends (suc above - depth_at rows x) ++ beginning_shown rules rows x) rest

  -- an attribute of the innermost row that is open
  pass_attribute : (base i c d : ℕ) → is_attribute (row_at rows i).kind ≡ true → depth_at rows i ≡ suc d → pass rules rows base i (suc c) d ≡ attribute_event rows i ∷ pass rules rows base (suc i) c d
  pass_attribute base i c d a e =
      let none : suc d - depth_at rows i ≡ 0 = omega (arith, e) in
      let begins : beginning_shown rules rows i ≡ attribute_event rows i ∷ [] =
      ap (λ b. cond b (beginning (row_at rows i)) []) (other_visible i (attribute_other (row_at rows i).kind a))
      ∙ ap (λ k. beginning_as k (row_at rows i)) (attribute_kind (row_at rows i).kind a) in
      let behind : depth_behind (row_at rows i) ≡ d = ap (λ b. cond b (depth_at rows i) (depth_at rows i - 1)) (attribute_leaf (row_at rows i).kind a) ∙ omega (arith, e) in
      ap (λ k. (ends k ++ beginning_shown rules rows i) ++ pass rules rows base (suc i) c (depth_behind (row_at rows i))) none
      ∙ ap (λ xs. xs ++ pass rules rows base (suc i) c (depth_behind (row_at rows i))) begins
      ∙ ap (λ k. attribute_event rows i ∷ pass rules rows base (suc i) c k) behind

  pass_attributes : (base i a c d : ℕ) → ((j : ℕ) → i ≤ j → j < i + a → is_attribute (row_at rows j).kind ≡ true) → ((j : ℕ) → i ≤ j → j < i + a → depth_at rows j ≡ suc d)
      → pass rules rows base i (a + c) d ≡ map (attribute_event rows) (numbers i a) ++ pass rules rows base (i + a) c d
  pass_attributes base i zero c d h k =
      let e : 0 + c ≡ c = omega arith in
      let f : i ≡ i + 0 = omega arith in
      ap (λ n. pass rules rows base i n d) e ∙ ap (λ n. pass rules rows base n c d) f
  pass_attributes base i (suc a) c d h k =
      let e : suc a + c ≡ suc (a + c) = omega arith in
      let f : suc i + a ≡ i + suc a = omega arith in
      ap (λ n. pass rules rows base i n d) e
      ∙ pass_attribute base i (a + c) d (h i (omega arith) (omega arith)) (k i (omega arith) (omega arith))
      ∙ ap (λ xs. attribute_event rows i ∷ xs) (
      pass_attributes base (suc i) a c d (λ j l m. h j (omega arith) (omega arith)) (λ j l m. k j (omega arith) (omega arith))
      ∙ ap (λ n. map (attribute_event rows) (numbers (suc i) a) ++ pass rules rows base n c d) f)

module _ (rules : List StripRule) (rows : List Row) (doc : IsDocument rows) where
  -- the attributes of a row are the run of rows right after it
  count_run : (m : ℕ) → is_attribute (row_at rows m).kind ≡ false → attr_count_of rows m ≡ attribute_run (drop (suc m) rows)
  count_run m e = ap (λ b. cond b 0 (attribute_run (drop (suc m) rows))) e

  count_le : (m : ℕ) → m < length rows → is_attribute (row_at rows m).kind ≡ false → suc m + attr_count_of rows m ≤ length rows
  count_le m l e = omega (arith, count_run m e, run_le (drop (suc m) rows), length-drop (suc m) rows)

  pub attribute_at : (m k : ℕ) → m < length rows → k < length rows → m < k → k ≤ m + attr_count_of rows m → is_attribute_of rows m k ≡ true
  attribute_at m k lm lk a b = attribute_if_after rows doc.tree m k lm lk (a, b)

  attribute_part : (m k : ℕ) → is_attribute_of rows m k ≡ true → is_attribute (row_at rows k).kind ≡ true
  attribute_part m k h = (and_parts _ _ h).0

  attribute_owner : (m k : ℕ) → is_attribute_of rows m k ≡ true → is_some_of (parent_of rows k) m ≡ true
  attribute_owner m k h = (and_parts (is_attribute (row_at rows k).kind) (is_some_of (parent_of rows k) m) h).1

  attribute_depth : (m k : ℕ) → k < length rows → is_attribute_of rows m k ≡ true → depth_at rows k ≡ suc (depth_at rows m)
  attribute_depth m k lk h = (parent_depth rows doc k m lk (is_some_of-true (parent_of rows k) m (attribute_owner m k h))).1

  attributes_run : (m : ℕ) → m < length rows → is_attribute (row_at rows m).kind ≡ false → attributes_of rows m ≡ map (attribute_event rows) (numbers (suc m) (attr_count_of rows m))
  attributes_run m lm e =
      let a : ℕ = attr_count_of rows m in
      let le = count_le m lm e in
      let w : (suc m + attr_count_of rows m) - suc m ≡ attr_count_of rows m = omega arith in
      ap (map (attribute_event rows)) (
      filter_window (is_attribute_of rows m) (suc m) (suc m + attr_count_of rows m) (length rows) (omega arith) le
      (λ k h. elim (cases_Bool (is_attribute_of rows m k)) [
        | inr f ↦ f
        | inl f ↦ absurd (let r = attribute_after rows doc.tree m k lm (omega (arith, h, lm)) f in omega (arith, r.0, h))
      ])
      (λ k h l. elim (cases_Bool (is_attribute_of rows m k)) [
        | inr f ↦ f
        | inl f ↦ absurd (let r = attribute_after rows doc.tree m k lm l f in omega (arith, r.1, h))
      ])
      ∙ ap (λ c. filter (is_attribute_of rows m) (numbers (suc m) c)) w
      ∙ filter_all (is_attribute_of rows m) (suc m) (attr_count_of rows m) (λ k l h. attribute_at m k lm (omega (arith, h, le)) (omega arith) (omega arith)))

  -- they are in its subtree
  count_within : (m : ℕ) → m < length rows → is_attribute (row_at rows m).kind ≡ false → suc m + attr_count_of rows m ≤ extent_of rows m
  count_within m lm e = elim (cases_lt 0 (attr_count_of rows m)) [
    | inr none ↦ omega arith
    | inl some ↦
        let k : ℕ = m + attr_count_of rows m in
        let lk : m + attr_count_of rows m < length rows = omega (arith, count_le m lm e) in
        let h = attribute_at m (m + attr_count_of rows m) lm lk (omega arith) (omega arith) in
        let up = is_some_of-true (parent_of rows (m + attr_count_of rows m)) m (attribute_owner m (m + attr_count_of rows m) h) in
        let w = in_within rows doc.tree m (m + attr_count_of rows m) lm lk (inr (m, inl refl, record { attribute = attribute_part m (m + attr_count_of rows m) h; parent = up })) in
        omega (arith, w.1)
  ]

  -- the copy of a row, where it is visible
  abbrev shown_copy : ℕ → ℕ → List ResultEvent
  shown_copy levels m = cond (is_visible rules rows m) (copy_within rules rows levels m) []

  -- a pass through the rows of a subtree gives its copy, behind the ends of what it is not in
  abbrev PassesSubtrees : ℕ → Type 0
  PassesSubtrees levels = (m w c d base : ℕ) → m < length rows → is_attribute (row_at rows m).kind ≡ false → 0 < m → length rows ≤ m + levels → extent_of rows m ≡ suc m + w
      → base < depth_at rows m → (0 < c → extent_of rows m < length rows)
      → pass rules rows base m (suc (w + c)) d ≡ ends (suc d - depth_at rows m) ++ (shown_copy levels m ++ pass rules rows base (extent_of rows m) c (depth_at rows m - 1))

  -- from one child on
  module _ (levels : ℕ) (sub : PassesSubtrees levels) (m base : ℕ) (lm : m < length rows) (low : base ≤ depth_at rows m) (enough : length rows ≤ m + suc levels) where
    no_child : (j s c : ℕ) → s ≡ 0
        → pass rules rows base j (s + c) (depth_at rows m) ≡ flat_map (copy_within rules rows levels) (filter (is_shown rules rows m) (numbers j s)) ++ pass rules rows base (j + s) c (depth_at rows m)
    no_child j s c e =
        let f : s + c ≡ c = omega arith in
        let g : j ≡ j + s = omega arith in
        ap (λ n. pass rules rows base j n (depth_at rows m)) f
        ∙ ap (λ n. pass rules rows base n c (depth_at rows m)) g
        ∙ ap (λ n. flat_map (copy_within rules rows levels) (filter (is_shown rules rows m) (numbers j n)) ++ pass rules rows base (j + s) c (depth_at rows m)) (sym e)

    -- the copies of the first child and of those behind it
    first_apart : (j w s : ℕ) → is_child rows m j ≡ true → j < length rows → extent_of rows j ≡ suc j + w
        → flat_map (copy_within rules rows levels) (filter (is_shown rules rows m) (numbers j (suc (w + s))))
        ≡ shown_copy levels j ++ flat_map (copy_within rules rows levels) (filter (is_shown rules rows m) (numbers (extent_of rows j) s))
    first_apart j w s h lj e =
        let f : ℕ → Bool = is_shown rules rows m in
        let copies : List ℕ → List ResultEvent = flat_map (copy_within rules rows levels) in
        let rest : filter (is_shown rules rows m) (numbers (suc j) (w + s)) ≡ filter (is_shown rules rows m) (numbers (extent_of rows j) s) =
        filter-split (is_shown rules rows m) (suc j) w s
        ∙ ap (λ xs. xs ++ filter (is_shown rules rows m) (numbers (suc j + w) s))
        (filter_nothing (is_shown rules rows m) (suc j) w (λ k l u. and_right (is_visible rules rows k) (is_child rows m k) (child_alone rows doc m j k lj h (omega arith) (omega (arith, e, u)))))
        ∙ ap (λ n. filter (is_shown rules rows m) (numbers n s)) (sym e) in
        ap (λ xs. flat_map (copy_within rules rows levels) (cond (is_visible rules rows j && is_child rows m j) (j ∷ xs) xs)) rest
        ∙ ap (λ b. flat_map (copy_within rules rows levels)
        (cond (is_visible rules rows j && b) (j ∷ filter (is_shown rules rows m) (numbers (extent_of rows j) s)) (filter (is_shown rules rows m) (numbers (extent_of rows j) s)))) h
        ∙ seen (is_visible rules rows j) j (filter (is_shown rules rows m) (numbers (extent_of rows j) s))
      where
        seen : (b : Bool) (j : ℕ) (ks : List ℕ)
            → flat_map (copy_within rules rows levels) (cond (b && true) (j ∷ ks) ks) ≡ cond b (copy_within rules rows levels j) [] ++ flat_map (copy_within rules rows levels) ks
        seen true j ks = refl
        seen false j ks = refl

    children_from : (most j s c : ℕ) → s ≤ most → j + s ≡ extent_of rows m → (s ≡ 0) ⊎ ((0 < s) × (is_child rows m j ≡ true)) → (0 < c → extent_of rows m < length rows)
        → pass rules rows base j (s + c) (depth_at rows m) ≡ flat_map (copy_within rules rows levels) (filter (is_shown rules rows m) (numbers j s)) ++ pass rules rows base (j + s) c (depth_at rows m)
    children_from zero j s c l e x past = no_child j s c (omega arith)
    children_from (suc most) j s c l e x past = elim x [
      | inl none ↦ no_child j s c none
      | inr some ↦
          let h = some.1 in
          let le = extent_le rows m lm in
          let lj : j < length rows = omega (arith, some.0, e, le) in
          let up = parent_depth rows doc j m lj (child_parent rows doc m j h) in
          let y : ℕ = extent_of rows j in
          let ends_in = child_ends rows doc m j lm lj h in
          let w : ℕ = extent_of rows j - suc j in
          let t : ℕ = extent_of rows m - extent_of rows j in
          let ey : extent_of rows j ≡ suc j + (extent_of rows j - suc j) = omega arith in
          let es : s ≡ suc ((extent_of rows j - suc j) + (extent_of rows m - extent_of rows j)) = omega (arith, e, ends_in) in
          let ec : s + c ≡ suc ((extent_of rows j - suc j) + ((extent_of rows m - extent_of rows j) + c)) = omega (arith, es) in
          let one = sub j (extent_of rows j - suc j) ((extent_of rows m - extent_of rows j) + c) (depth_at rows m) base lj (child_plain rows doc m j h) (omega (arith, up.0))
          (omega (arith, up.0, enough)) ey (omega (arith, up.1, low)) (λ p. further p (past) ends_in le) in
          let more = children_from most (extent_of rows j) (extent_of rows m - extent_of rows j) c (omega (arith, es, l)) (omega (arith, ends_in))
          (elim (cases_lt (extent_of rows j) (extent_of rows m)) [
            | inl lt ↦ inr (omega arith, child_next rows doc m j lm lj h lt)
            | inr ge ↦ inl (omega arith)
          ]) past in
          let flat : suc (depth_at rows m) - depth_at rows j ≡ 0 = omega (arith, up.1) in
          let level : depth_at rows j - 1 ≡ depth_at rows m = omega (arith, up.1) in
          let end : extent_of rows j + (extent_of rows m - extent_of rows j) ≡ j + s = omega (arith, e, ends_in) in
          ap (λ n. pass rules rows base j n (depth_at rows m)) ec
          ∙ one
          ∙ ap (λ n. ends n ++ (shown_copy levels j ++ pass rules rows base (extent_of rows j) ((extent_of rows m - extent_of rows j) + c) (depth_at rows j - 1))) flat
          ∙ ap (λ n. shown_copy levels j ++ pass rules rows base (extent_of rows j) ((extent_of rows m - extent_of rows j) + c) n) level
          ∙ ap (λ xs. shown_copy levels j ++ xs) more
          ∙ sym (append_assoc (shown_copy levels j)
          (flat_map (copy_within rules rows levels) (filter (is_shown rules rows m) (numbers (extent_of rows j) (extent_of rows m - extent_of rows j))))
          (pass rules rows base (extent_of rows j + (extent_of rows m - extent_of rows j)) c (depth_at rows m)))
          ∙ ap (λ xs. xs ++ pass rules rows base (extent_of rows j + (extent_of rows m - extent_of rows j)) c (depth_at rows m))
          (sym (first_apart j (extent_of rows j - suc j) (extent_of rows m - extent_of rows j) h lj ey))
          ∙ ap (λ n. flat_map (copy_within rules rows levels)
          (filter (is_shown rules rows m) (numbers j (suc ((extent_of rows j - suc j) + (extent_of rows m - extent_of rows j))))) ++ pass rules rows base n c (depth_at rows m)) end
          ∙ ap (λ n. flat_map (copy_within rules rows levels) (filter (is_shown rules rows m) (numbers j n)) ++ pass rules rows base (j + s) c (depth_at rows m)) (sym es)
    ]
      where
        further : 0 < (extent_of rows m - extent_of rows j) + c → (0 < c → extent_of rows m < length rows) → extent_of rows j ≤ extent_of rows m → extent_of rows m ≤ length rows
            → extent_of rows j < length rows
        further p past a b = elim (cases_lt (extent_of rows j) (extent_of rows m)) [
          | inl lt ↦ omega arith
          | inr ge ↦ let q = past (omega arith) in omega arith
        ]

    -- all that is in a row: its attributes, and the copies of its visible children
    inner : (w c : ℕ) → is_parent (row_at rows m).kind ≡ true → extent_of rows m ≡ suc m + w → (0 < c → extent_of rows m < length rows)
        → pass rules rows base (suc m) (w + c) (depth_at rows m)
        ≡ (attributes_of rows m ++ flat_map (copy_within rules rows levels) (shown_of rules rows m)) ++ pass rules rows base (extent_of rows m) c (depth_at rows m)
    inner w c par e past =
        let plain = parent_plain (row_at rows m).kind par in
        let a : ℕ = attr_count_of rows m in
        let within = count_within m lm plain in
        let le = extent_le rows m lm in
        let j : ℕ = suc m + attr_count_of rows m in
        let ec : w + c ≡ attr_count_of rows m + ((w - attr_count_of rows m) + c) = omega (arith, within, e) in
        let ej : (suc m + attr_count_of rows m) + (w - attr_count_of rows m) ≡ extent_of rows m = omega (arith, within, e) in
        let ew : extent_of rows m - (suc m + attr_count_of rows m) ≡ w - attr_count_of rows m = omega (arith, within, e) in
        let is : (k : ℕ) → suc m ≤ k → k < suc m + attr_count_of rows m → is_attribute_of rows m k ≡ true =
        λ (k : ℕ) (l : suc m ≤ k) (u : k < suc m + attr_count_of rows m). attribute_at m k lm (omega (arith, u, within, le)) (omega arith) (omega arith) in
        let attrs = pass_attributes rules rows base (suc m) (attr_count_of rows m) ((w - attr_count_of rows m) + c) (depth_at rows m)
        (λ k l u. attribute_part m k (is k l u)) (λ k l u. attribute_depth m k (omega (arith, u, within, le)) (is k l u)) in
        let kids = children_from (w - attr_count_of rows m) (suc m + attr_count_of rows m) (w - attr_count_of rows m) c (omega arith) ej (elim (cases_lt 0 (w - attr_count_of rows m)) [
          | inr none ↦ inl (omega arith)
          | inl some ↦ inr (
            some,
            child_first rows doc m (suc m + attr_count_of rows m) lm par (omega arith) (omega (arith, some, e))
                (λ i l u. attribute_part m i (is i (omega arith) u)) (behind plain (omega (arith, some, e, le))),
          )
        ]) past in
        let shown : shown_of rules rows m ≡ filter (is_shown rules rows m) (numbers (suc m + attr_count_of rows m) (w - attr_count_of rows m)) =
        filter_window (is_shown rules rows m) (suc m + attr_count_of rows m) (extent_of rows m) (length rows) within le
        (λ k h. and_right (is_visible rules rows k) (is_child rows m k) (none_before k h is))
        (λ k h l. and_right (is_visible rules rows k) (is_child rows m k) (none_past k h l))
        ∙ ap (λ n. filter (is_shown rules rows m) (numbers (suc m + attr_count_of rows m) n)) ew in
        ap (λ n. pass rules rows base (suc m) n (depth_at rows m)) ec
        ∙ attrs
        ∙ ap (λ xs. map (attribute_event rows) (numbers (suc m) (attr_count_of rows m)) ++ xs) kids
        ∙ ap (λ n. map (attribute_event rows) (numbers (suc m) (attr_count_of rows m))
        ++ (flat_map (copy_within rules rows levels) (filter (is_shown rules rows m) (numbers (suc m + attr_count_of rows m) (w - attr_count_of rows m)))
        ++ pass rules rows base n c (depth_at rows m))) ej
        ∙ sym (append_assoc (map (attribute_event rows) (numbers (suc m) (attr_count_of rows m)))
        (flat_map (copy_within rules rows levels) (filter (is_shown rules rows m) (numbers (suc m + attr_count_of rows m) (w - attr_count_of rows m))))
        (pass rules rows base (extent_of rows m) c (depth_at rows m)))
        ∙ ap (λ xs. (xs ++ flat_map (copy_within rules rows levels) (filter (is_shown rules rows m) (numbers (suc m + attr_count_of rows m) (w - attr_count_of rows m))))
        ++ pass rules rows base (extent_of rows m) c (depth_at rows m)) (sym (attributes_run m lm plain))
        ∙ ap (λ ks. (attributes_of rows m ++ flat_map (copy_within rules rows levels) ks) ++ pass rules rows base (extent_of rows m) c (depth_at rows m)) (sym shown)
      where
        behind : is_attribute (row_at rows m).kind ≡ false → suc m + attr_count_of rows m < length rows → is_attribute (row_at rows (suc m + attr_count_of rows m)).kind ≡ false
        behind plain l =
            let run = count_run m plain in
            ap (λ n. is_attribute (row_at rows (suc m + n)).kind) run
            ∙ ap (λ (r : Row). is_attribute r.kind) (sym (get_or-drop (suc m) rows (attribute_run (drop (suc m) rows)) root_row))
            ∙ run_stops (drop (suc m) rows) (omega (arith, l, run, length-drop (suc m) rows))

        none_before : (k : ℕ) → k < suc m + attr_count_of rows m → ((i : ℕ) → suc m ≤ i → i < suc m + attr_count_of rows m → is_attribute_of rows m i ≡ true) → is_child rows m k ≡ false
        none_before k h is = elim (cases_Bool (is_child rows m k)) [
          | inr f ↦ f
          | inl f ↦
              let lk : k < length rows = omega (arith, h, extent_le rows m lm, count_within m lm (parent_plain (row_at rows m).kind par)) in
              let up = parent_depth rows doc k m lk (child_parent rows doc m k f) in
              absurd (false≢true (sym (child_plain rows doc m k f) ∙ attribute_part m k (is k (omega (arith, up.0)) h)))
        ]

        none_past : (k : ℕ) → extent_of rows m ≤ k → k < length rows → is_child rows m k ≡ false
        none_past k h l = elim (cases_Bool (is_child rows m k)) [
          | inr f ↦ f
          | inl f ↦ absurd (omega (arith, h, child_within rows doc m k lm l f))
        ]

  pub passes_subtrees : (levels : ℕ) → PassesSubtrees levels
  passes_subtrees zero m w c d base lm plain some enough e low past = absurd (omega arith)
  passes_subtrees (suc levels) m w c d base lm plain some enough e low past = elim (cases_Bool (is_parent (row_at rows m).kind)) [
    | inr leaf ↦
        let z : w ≡ 0 = omega (arith, e, doc.tree.leaves m lm leaf) in
        let zc : w + c ≡ c = omega (arith, z) in
        let behind : depth_behind (row_at rows m) ≡ depth_at rows m - 1 = ap (λ b. cond b (depth_at rows m) (depth_at rows m - 1)) leaf in
        let made : beginning_shown rules rows m ≡ shown_copy (suc levels) m =
        ap (λ xs. cond (is_visible rules rows m) xs [])
        (sym (leaf_made (row_at rows m).kind (row_at rows m) (attributes_of rows m) (flat_map (copy_within rules rows levels) (shown_of rules rows m)) leaf)) in
        ap (λ n. (ends (suc d - depth_at rows m) ++ beginning_shown rules rows m) ++ pass rules rows base (suc m) n (depth_behind (row_at rows m))) zc
        ∙ ap (λ n. (ends (suc d - depth_at rows m) ++ beginning_shown rules rows m) ++ pass rules rows base (suc m) c n) behind
        ∙ ap (λ n. (ends (suc d - depth_at rows m) ++ beginning_shown rules rows m) ++ pass rules rows base n c (depth_at rows m - 1)) (sym (doc.tree.leaves m lm leaf))
        ∙ append_assoc (ends (suc d - depth_at rows m)) (beginning_shown rules rows m) (pass rules rows base (extent_of rows m) c (depth_at rows m - 1))
        ∙ ap (λ xs. ends (suc d - depth_at rows m) ++ (xs ++ pass rules rows base (extent_of rows m) c (depth_at rows m - 1))) made
    | inl par ↦
        let is = element_kind (row_at rows m).kind par (doc.others m some lm) in
        let seen = other_visible rules rows m (parent_other (row_at rows m).kind par) in
        let name : ResultEvent = event.Start (result_name (row_at rows m)) in
        let begins : beginning_shown rules rows m ≡ event.Start (result_name (row_at rows m)) ∷ [] =
        ap (λ b. cond b (beginning (row_at rows m)) []) seen ∙ ap (λ k. beginning_as k (row_at rows m)) is in
        let behind : depth_behind (row_at rows m) ≡ depth_at rows m = ap (λ b. cond b (depth_at rows m) (depth_at rows m - 1)) par in
        let within : List ResultEvent = attributes_of rows m ++ flat_map (copy_within rules rows levels) (shown_of rules rows m) in
        let rest : List ResultEvent = pass rules rows base (extent_of rows m) c (depth_at rows m - 1) in
        let body = inner levels (passes_subtrees levels) m base lm (omega (arith, low)) (omega (arith, enough)) w c par e past in
        let one : depth_at rows m - (depth_at rows m - 1) ≡ 1 = omega (arith, low) in
        let closed = pass_closes rules rows base (extent_of rows m) c (depth_at rows m) (depth_at rows m - 1) (omega (arith, low)) (omega arith)
        (λ p. let q = flat (past p) in omega (arith, q, low)) in
        let copied : shown_copy (suc levels) m ≡ event.Start (result_name (row_at rows m)) ∷ (within ++ event.End ∷ []) =
        ap (λ b. cond b (copy_within rules rows (suc levels) m) []) seen
        ∙ ap (λ k. made_of k (row_at rows m) (attributes_of rows m) (flat_map (copy_within rules rows levels) (shown_of rules rows m))) is in
        ap (λ xs. (ends (suc d - depth_at rows m) ++ xs) ++ pass rules rows base (suc m) (w + c) (depth_behind (row_at rows m))) begins
        ∙ ap (λ n. (ends (suc d - depth_at rows m) ++ name ∷ []) ++ pass rules rows base (suc m) (w + c) n) behind
        ∙ ap (λ xs. (ends (suc d - depth_at rows m) ++ name ∷ []) ++ xs) body
        ∙ ap (λ xs. (ends (suc d - depth_at rows m) ++ name ∷ []) ++ (within ++ xs)) (closed ∙ ap (λ n. ends n ++ rest) one)
        ∙ element_joins (ends (suc d - depth_at rows m)) within rest name event.End
        ∙ ap (λ xs. ends (suc d - depth_at rows m) ++ (xs ++ rest)) (sym copied)
  ]
    where
      flat : extent_of rows m < length rows → depth_at rows (extent_of rows m) ≤ depth_at rows m
      flat l = extent_stops rows m l

  -- the copy of any row
  pub copy_passes : (levels n : ℕ) → n < length rows → length rows ≤ n + levels
      → copy_within rules rows levels n ≡ beginning (row_at rows n) ++ pass rules rows (depth_at rows n) (suc n) (extent_of rows n - suc n) (depth_at rows n) ++ ending (row_at rows n)
  copy_passes zero n ln enough = absurd (omega arith)
  copy_passes (suc levels) n ln enough = elim (cases_Bool (is_parent (row_at rows n).kind)) [
    | inr leaf ↦
        let z : extent_of rows n - suc n ≡ 0 = omega (arith, doc.tree.leaves n ln leaf) in
        let none : depth_at rows n - depth_at rows n ≡ 0 = omega arith in
        leaf_made (row_at rows n).kind (row_at rows n) (attributes_of rows n) (flat_map (copy_within rules rows levels) (shown_of rules rows n)) leaf
        ∙ sym (append-nil (beginning (row_at rows n)))
        ∙ ap (λ k. beginning (row_at rows n) ++ ends k) (sym none)
        ∙ ap (λ k. beginning (row_at rows n) ++ pass rules rows (depth_at rows n) (suc n) k (depth_at rows n)) (sym z)
        ∙ sym (append-nil (beginning (row_at rows n) ++ pass rules rows (depth_at rows n) (suc n) (extent_of rows n - suc n) (depth_at rows n)))
        ∙ ap (λ xs. (beginning (row_at rows n) ++ pass rules rows (depth_at rows n) (suc n) (extent_of rows n - suc n) (depth_at rows n)) ++ xs) (sym (leaf_ending (row_at rows n).kind leaf))
    | inl par ↦
        let w : ℕ = extent_of rows n - suc n in
        let e : extent_of rows n ≡ suc n + (extent_of rows n - suc n) = omega arith in
        let zero_more : extent_of rows n - suc n ≡ (extent_of rows n - suc n) + 0 = omega arith in
        let none : depth_at rows n - depth_at rows n ≡ 0 = omega arith in
        let within : List ResultEvent = attributes_of rows n ++ flat_map (copy_within rules rows levels) (shown_of rules rows n) in
        let body : pass rules rows (depth_at rows n) (suc n) (extent_of rows n - suc n) (depth_at rows n) ≡ within =
        ap (λ k. pass rules rows (depth_at rows n) (suc n) k (depth_at rows n)) zero_more
        ∙ inner levels (passes_subtrees levels) n (depth_at rows n) ln (omega arith) enough (extent_of rows n - suc n) 0 par e (λ p. absurd (omega arith))
        ∙ ap (λ k. within ++ ends k) none
        ∙ append-nil within in
        kind_made (row_at rows n).kind par refl body
  ]
    where
      root_attributes : is_root (row_at rows n).kind ≡ true → is_attribute (row_at rows n).kind ≡ false → attributes_of rows n ≡ []
      root_attributes r plain = elim (cases_lt 0 n) [
        | inl some ↦ absurd (false≢true (sym (doc.others n some ln) ∙ r))
        | inr none ↦
            let z : n ≡ 0 = omega arith in
            attributes_run n ln plain ∙ ap (λ c. map (attribute_event rows) (numbers (suc n) c)) (count_run n plain ∙ ap (λ i. attribute_run (drop (suc i) rows)) z ∙ doc.bare)
      ]

      kind_made : (k : Kind) → is_parent k ≡ true → (row_at rows n).kind ≡ k
          → pass rules rows (depth_at rows n) (suc n) (extent_of rows n - suc n) (depth_at rows n) ≡ attributes_of rows n ++ flat_map (copy_within rules rows levels) (shown_of rules rows n)
          → copy_within rules rows (suc levels) n ≡ beginning (row_at rows n) ++ pass rules rows (depth_at rows n) (suc n) (extent_of rows n - suc n) (depth_at rows n) ++ ending (row_at rows n)
      kind_made Root p is body =
          let content : List ResultEvent = flat_map (copy_within rules rows levels) (shown_of rules rows n) in
          let whole : List ResultEvent = pass rules rows (depth_at rows n) (suc n) (extent_of rows n - suc n) (depth_at rows n) in
          ap (λ k. made_of k (row_at rows n) (attributes_of rows n) content) is
          ∙ sym (ap (λ xs. xs ++ content) (root_attributes (ap is_root is) (ap is_attribute is)))
          ∙ sym body
          ∙ sym (append-nil whole)
          ∙ sym (ap (λ k. beginning_as k (row_at rows n) ++ whole ++ ending_as k) is)
      kind_made Element p is body =
          let content : List ResultEvent = flat_map (copy_within rules rows levels) (shown_of rules rows n) in
          let whole : List ResultEvent = pass rules rows (depth_at rows n) (suc n) (extent_of rows n - suc n) (depth_at rows n) in
          ap (λ k. made_of k (row_at rows n) (attributes_of rows n) content) is
          ∙ sym (ap (λ xs. event.Start (result_name (row_at rows n)) ∷ (xs ++ event.End ∷ [])) body)
          ∙ sym (ap (λ k. beginning_as k (row_at rows n) ++ whole ++ ending_as k) is)
      kind_made Attribute p is body = absurd (false≢true p)
      kind_made Text p is body = absurd (false≢true p)
      kind_made Instruction p is body = absurd (false≢true p)
      kind_made Comment p is body = absurd (false≢true p)
