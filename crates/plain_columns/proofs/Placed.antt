-- What a join does to the rows at their places.
use Rattle.std.proofs.Common.{◌≡◌, ℕ, zero, suc, ◌+◌, ◌-◌, ◌<◌, List, [], ◌∷◌, ◌++◌, length, Some, None, drop, get_or, map, ap, sym, ◌∙◌, subst}
use Rattle.std.proofs.Common.{arith, length-append, length-take, length-drop, get_or-take, get_or-drop, inl, inr}
use Rattle.std.proofs.lemmas.Bool.{cases_lt, cases_eq}
use Rattle.std.proofs.lemmas.List.{length-map, get_or-map}
use Rattle.doc_model.specs.declared.row.Row.{Row}
use Rattle.doc_model.specs.declared.step.Step.{Step}
use Rattle.doc_model.specs.declared.places.Join.{Join as How}
use Rattle.doc_model.specs.declared.places.RowPlace.{RowPlace}
use Rattle.doc_model.specs.Cells.{Columns, place_at, row_of, node_at, root_place, attributes_at}
use Rattle.doc_model.specs.Document.{Document, start, after, document_of}
use Rattle.doc_model.specs.Lawful.{CanJoin, LawfulFrom}
use Rattle.doc_model.specs.Legal.{JoinFits, AreOf, IsOf, IsInnermost}
use Rattle.doc_model.specs.Relations.{parent_of, attr_count_of, last_of, children_of}
use Rattle.doc_model.specs.Rows.{rows_of, root_row, row_at}
use Rattle.doc_model.specs.Shown.{prev_shown}
use Rattle.doc_laws.proofs.Prevs.{prev_old, prev_new, prev_attribute, count_old, count_new, count_attribute}
use Rattle.doc_laws.proofs.Growth.{document_of-push, row_at_grows, parent_grows}
use Rattle.doc_laws.proofs.Stack.{StackOf, stack_of, row_at_seam, row_at_past}
use Rattle.doc_laws.proofs.Links.{new_parent, attribute_parent}
use Rattle.plain_columns.specs.Spelled.{Placed}

are_of : (n : ℕ) (places : List RowPlace) (i : ℕ) → AreOf n places → i < length places → IsOf n (get_or places i root_place)
are_of n [] i a l = absurd (omega arith)
are_of n (p ∷ ps) zero a l = a.0
are_of n (p ∷ ps) (suc i) a l = are_of n ps i a.1 (omega arith)

new_parents : (rows : List Row) (opened : List ℕ) (row : Row) (attributes : List Row) (parent : ℕ) → StackOf rows opened → CanJoin opened row attributes → IsInnermost opened parent
    → (parent_of (rows ++ row ∷ attributes) (length rows) ≡ Some parent) × ((i : ℕ) → i < length attributes → parent_of (rows ++ row ∷ attributes) (length rows + suc i) ≡ Some (length rows))
new_parents rows [] row attributes parent s j i = absurd i
new_parents rows (o ∷ os) row attributes parent s j i = (new_parent rows o os row attributes s j ∙ ap (λ k. Some k) i, attribute_parent rows o os row attributes s j)

-- earlier siblings and counts of attributes, of old and of new rows
record JoinedData (rows more : List Row) (parent : ℕ) : Type 0 where
  pub prev_old : (k : ℕ) → k < length rows → prev_shown [] (rows ++ more) k ≡ prev_shown [] rows k
  pub prev_new : prev_shown [] (rows ++ more) (length rows) ≡ last_of (children_of rows parent)
  pub prev_attribute : (i : ℕ) → suc i < length more → prev_shown [] (rows ++ more) (length rows + suc i) ≡ None
  pub count_old : (k : ℕ) → k < length rows → attr_count_of (rows ++ more) k ≡ attr_count_of rows k
  pub count_new : suc (attr_count_of (rows ++ more) (length rows)) ≡ length more
  pub count_attribute : (i : ℕ) → suc i < length more → attr_count_of (rows ++ more) (length rows + suc i) ≡ 0

joined_data : (rows : List Row) (opened : List ℕ) (row : Row) (attributes : List Row) (parent : ℕ) → StackOf rows opened → CanJoin opened row attributes → IsInnermost opened parent
    → JoinedData rows (row ∷ attributes) parent
joined_data rows [] row attributes parent s j i = absurd i
joined_data rows (o ∷ os) row attributes parent s j i = record {
  prev_old = prev_old rows o os row attributes s j;
  prev_new = prev_new rows o os row attributes s j ∙ ap (λ k. last_of (children_of rows k)) i;
  prev_attribute = λ k l. prev_attribute rows o os row attributes s j k (omega arith);
  count_old = count_old rows o os row attributes s j;
  count_new = ap suc (count_new rows o os row attributes s j);
  count_attribute = λ k l. count_attribute rows o os row attributes s j k (omega arith);
}

-- the rows of the steps with row n and its attributes
abbrev all_of : Columns → List Step → ℕ → List Row
all_of c steps n = rows_of steps ++ row_of c (place_at c n) ∷ map (row_of c) (attributes_at c n)

module _ (c : Columns) (steps : List Step) (n : ℕ) (how : How) (lawful : LawfulFrom start steps) (placed : Placed c steps n) (fits : JoinFits (record { columns = c; steps = steps }) n how) where
  count_is : length (attributes_at c n) ≡ (place_at c n).attr_count
  count_is = length-take _ (drop (suc n) c.places) ∙ omega (arith, length-drop (suc n) c.places, fits.filled)

  attributes_are : length (map (row_of c) (attributes_at c n)) ≡ (place_at c n).attr_count
  attributes_are = length-map (attributes_at c n) (row_of c) ∙ count_is

  place_of : (i : ℕ) → i < (place_at c n).attr_count → get_or (attributes_at c n) i root_place ≡ place_at c (suc n + i)
  place_of i l = get_or-take _ (drop (suc n) c.places) i root_place l ∙ get_or-drop (suc n) c.places i root_place

  all_len : length (all_of c steps n) ≡ n + suc (place_at c n).attr_count
  all_len = length-append (rows_of steps) _ ∙ omega (arith, fits.next, attributes_are)

  all_rows : (k : ℕ) → k < n + suc (place_at c n).attr_count → row_at (all_of c steps n) k ≡ row_of c (place_at c k)
  all_rows k l = elim (cases_lt k n) [
    | inl lt ↦ row_at_grows (rows_of steps) _ k (omega (arith, fits.next)) ∙ placed.rows k (omega (arith, fits.next))
    | inr ge ↦ elim (cases_eq k n) [
      | inl e ↦ ap (row_at (all_of c steps n)) (e ∙ fits.next) ∙ row_at_seam (rows_of steps) (row_of c (place_at c n)) (map (row_of c) (attributes_at c n)) ∙ ap (λ j. row_of c (place_at c j)) (sym e)
      | inr ne ↦
          let i : ℕ = k - suc n in
          let li : i < (place_at c n).attr_count = omega arith in
          let e : k - length (rows_of steps) ≡ suc i = omega (arith, fits.next) in
          let s : suc n + i ≡ k = omega arith in
          row_at_past (rows_of steps) (row_of c (place_at c n) ∷ (map (row_of c) (attributes_at c n))) k (omega (arith, fits.next))
          ∙ ap (row_at (row_of c (place_at c n) ∷ (map (row_of c) (attributes_at c n)))) e
          ∙ get_or-map (row_of c) (attributes_at c n) i root_place root_row (omega (arith, count_is))
          ∙ ap (row_of c) (place_of i li) ∙ ap (λ j. row_of c (place_at c j)) s
    ]
  ]

  all_parents : (k : ℕ) → 0 < k → k < n + suc (place_at c n).attr_count → parent_of (all_of c steps n) k ≡ Some (place_at c k).parent
  all_parents k p l =
      let news = new_parents (rows_of steps) (document_of steps).opened (row_of c (place_at c n)) _ (place_at c n).parent (stack_of steps lawful) fits.may fits.innermost in
      elim (cases_lt k n) [
        | inl lt ↦ parent_grows (rows_of steps) _ k (omega (arith, fits.next)) ∙ placed.parents k p (omega (arith, fits.next))
        | inr ge ↦ elim (cases_eq k n) [
          | inl e ↦ ap (parent_of (all_of c steps n)) (e ∙ fits.next) ∙ news.0 ∙ ap (λ j. Some (place_at c j).parent) (sym e)
          | inr ne ↦
              let i : ℕ = k - suc n in
              let li : i < (place_at c n).attr_count = omega arith in
              let e : k ≡ length (rows_of steps) + suc i = omega (arith, fits.next) in
              let s : suc n + i ≡ k = omega arith in
              let a : (place_at c k).parent ≡ n = sym (ap (λ (q : RowPlace). q.parent) (place_of i li ∙ ap (place_at c) s)) ∙ (are_of n _ i fits.attributes (omega (arith, count_is))).parent in
              ap (parent_of (all_of c steps n)) e ∙ news.1 i (omega (arith, attributes_are)) ∙ ap (λ j. Some j) (sym (a ∙ fits.next))
        ]
      ]

  all_data : (k : ℕ) → k < n + suc (place_at c n).attr_count →
      (prev_shown [] (all_of c steps n) k ≡ (place_at c k).prev)
      × (attr_count_of (all_of c steps n) k ≡ (place_at c k).attr_count)
  all_data k l =
      let d = joined_data (rows_of steps) (document_of steps).opened (row_of c (place_at c n)) _ (place_at c n).parent (stack_of steps lawful) fits.may fits.innermost in
      elim (cases_lt k n) [
        | inl lt ↦
            let m : k < length (rows_of steps) = omega (arith, fits.next) in
            (d.prev_old k m ∙ placed.prevs k m, d.count_old k m ∙ placed.counts k m)
        | inr ge ↦ elim (cases_eq k n) [
          | inl e ↦
              let a : place_at c k ≡ place_at c n = ap (place_at c) e in
              let z : attr_count_of (all_of c steps n) (length (rows_of steps)) ≡ (place_at c n).attr_count = omega (arith, d.count_new, attributes_are) in (
                ap (prev_shown [] (all_of c steps n)) (e ∙ fits.next) ∙ d.prev_new ∙ sym fits.prev ∙ ap (λ (q : RowPlace). q.prev) (sym a),
                ap (attr_count_of (all_of c steps n)) (e ∙ fits.next) ∙ z ∙ ap (λ (q : RowPlace). q.attr_count) (sym a),
              )
          | inr ne ↦
              let i : ℕ = k - suc n in
              let li : i < (place_at c n).attr_count = omega arith in
              let e : k ≡ length (rows_of steps) + suc i = omega (arith, fits.next) in
              let s : suc n + i ≡ k = omega arith in
              let q : get_or (attributes_at c n) i root_place ≡ place_at c k = place_of i li ∙ ap (place_at c) s in
              let of = are_of n _ i fits.attributes (omega (arith, count_is)) in (
                ap (prev_shown [] (all_of c steps n)) e ∙ d.prev_attribute i (omega (arith, attributes_are)) ∙ sym of.prev ∙ ap (λ (q : RowPlace). q.prev) q,
                ap (attr_count_of (all_of c steps n)) e ∙ d.count_attribute i (omega (arith, attributes_are)) ∙ sym of.count ∙ ap (λ (q : RowPlace). q.attr_count) q,
              )
        ]
      ]

  pub placed_join : Placed c (steps ++ node_at c n ∷ []) (n + suc (place_at c n).attr_count)
  placed_join =
      let r : document_of (steps ++ node_at c n ∷ []) ≡ after (document_of steps) (node_at c n) = document_of-push steps (node_at c n) in
      let P : Document → Type 0 = λ q. (n + suc (place_at c n).attr_count ≡ length q.rows) × ((k : ℕ) → k < length q.rows → row_at q.rows k ≡ row_of c (place_at c k))
      × ((k : ℕ) → 0 < k → k < length q.rows → parent_of q.rows k ≡ Some (place_at c k).parent) × ((k : ℕ) → k < length q.rows → prev_shown [] q.rows k ≡ (place_at c k).prev)
      × ((k : ℕ) → k < length q.rows → attr_count_of q.rows k ≡ (place_at c k).attr_count) in
      let t = subst P (sym r) (
        sym all_len,
        λ k l. all_rows k (omega (arith, all_len)),
        λ k p l. all_parents k p (omega (arith, all_len)),
        λ k l.
            (all_data k (omega (arith, all_len))).0,
        λ k l. (all_data k (omega (arith, all_len))).1,
      ) in
      record { joined = t.0; within = omega (arith, fits.filled); rows = t.1; parents = t.2; prevs = t.3; counts = t.4 }
