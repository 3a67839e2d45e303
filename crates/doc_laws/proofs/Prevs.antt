-- What one more Node step does to the earlier siblings and the counts of attributes.
use Rattle.std.proofs.Common.{◌≡◌, ℕ, suc, ◌+◌, ◌<◌, false, cond, List, [], ◌∷◌, ◌++◌, length, Option, Some, None, drop, refl, ap, ◌∙◌, arith}
use Rattle.std.proofs.lemmas.Bool.{eq-eqb}
use Rattle.std.proofs.lemmas.List.{drop-append-le}
use Rattle.doc_laws.proofs.Standing.{standing_plain}
use Rattle.doc_model.specs.declared.row.Row.{Row}
use Rattle.doc_model.specs.Document.{is_attribute}
use Rattle.doc_model.specs.Lawful.{CanJoin, AllAttributes}
use Rattle.doc_model.specs.Relations.{parent_of, sibling_parent, attribute_run, attr_count_of, last_of, children_of}
use Rattle.doc_model.specs.Rows.{row_at}
use Rattle.doc_model.specs.Shown.{prev_shown, prev_shown_in}
use Rattle.doc_laws.proofs.Growth.{row_at_grows, children_below_grows}
use Rattle.doc_laws.proofs.Stack.{StackOf, row_at_seam}
use Rattle.doc_laws.proofs.Kids.{child_decider}
use Rattle.doc_laws.proofs.Links.{attribute_at, is_child_new, sibling_parent_grows}

pub run_stops : (xs : List Row) (row : Row) (more : List Row) → is_attribute row.kind ≡ false → attribute_run (xs ++ row ∷ more) ≡ attribute_run xs
run_stops [] row more a = ap (λ b. cond b (suc (attribute_run more)) 0) a
run_stops (x ∷ xs) row more a = ap (λ k. cond (is_attribute x.kind) (suc k) 0) (run_stops xs row more a)

run_all : (d : ℕ) (xs : List Row) → AllAttributes d xs → attribute_run xs ≡ length xs
run_all d [] a = refl
run_all d (x ∷ xs) a = ap (λ k. cond (is_attribute k) (suc (attribute_run xs)) 0) (a.0.0) ∙ ap suc (run_all d xs a.1)

drop_seam : (rows : List Row) (row : Row) (more : List Row) → drop (suc (length rows)) (rows ++ row ∷ more) ≡ more
drop_seam [] row more = refl
drop_seam (x ∷ rows) row more = drop_seam rows row more

module _ (rows : List Row) (o : ℕ) (os : List ℕ) (row : Row) (attributes : List Row) (stack : StackOf rows (o ∷ os)) (joins : CanJoin (o ∷ os) row attributes) where
  plain : is_attribute row.kind ≡ false
  plain = standing_plain row.kind joins.kind

  pub count_old : (k : ℕ) → k < length rows → attr_count_of (rows ++ row ∷ attributes) k ≡ attr_count_of rows k
  count_old k l =
      ap (λ (r : Row). cond (is_attribute r.kind) 0 (attribute_run (drop (suc k) (rows ++ row ∷ attributes)))) (row_at_grows rows (row ∷ attributes) k l)
      ∙ ap (λ n. cond (is_attribute (row_at rows k).kind) 0 n) (ap attribute_run (drop-append-le (suc k) rows (row ∷ attributes) (omega arith)) ∙ run_stops (drop (suc k) rows) row attributes plain)

  pub count_new : attr_count_of (rows ++ row ∷ attributes) (length rows) ≡ length attributes
  count_new =
      ap (λ (r : Row). cond (is_attribute r.kind) 0 (attribute_run (drop (suc (length rows)) (rows ++ row ∷ attributes)))) (row_at_seam rows row attributes)
      ∙ ap (λ b. cond b 0 (attribute_run (drop (suc (length rows)) (rows ++ row ∷ attributes)))) plain
      ∙ ap attribute_run (drop_seam rows row attributes) ∙ run_all row.depth attributes joins.carried

  pub count_attribute : (i : ℕ) → i < length attributes → attr_count_of (rows ++ row ∷ attributes) (length rows + suc i) ≡ 0
  count_attribute i l = ap (λ k. cond (is_attribute k) 0 (attribute_run (drop (suc (length rows + suc i)) (rows ++ row ∷ attributes)))) (attribute_at rows o os row attributes stack joins i l).0

  prev_among : (k : ℕ) → k < length rows → (p : Option ℕ) → prev_shown_in [] (rows ++ row ∷ attributes) k p ≡ prev_shown_in [] rows k p
  prev_among k l None = refl
  prev_among k l (Some n) = ap last_of (children_below_grows rows (row ∷ attributes) n k (omega arith))

  pub prev_old : (k : ℕ) → k < length rows → prev_shown [] (rows ++ row ∷ attributes) k ≡ prev_shown [] rows k
  prev_old k l = ap (prev_shown_in [] (rows ++ row ∷ attributes) k) (sibling_parent_grows rows o os row attributes stack joins k l) ∙ prev_among k l (sibling_parent rows k)

  pub prev_new : prev_shown [] (rows ++ row ∷ attributes) (length rows) ≡ last_of (children_of rows o)
  prev_new =
      ap (prev_shown_in [] (rows ++ row ∷ attributes) (length rows)) (child_decider (rows ++ row ∷ attributes) o (length rows) (is_child_new rows o os row attributes stack joins o ∙ eq-eqb o o refl))
      ∙ ap last_of (children_below_grows rows (row ∷ attributes) o (length rows) (omega arith))

  pub prev_attribute : (i : ℕ) → i < length attributes → prev_shown [] (rows ++ row ∷ attributes) (length rows + suc i) ≡ None
  prev_attribute i l =
      let n : ℕ = length rows + suc i in
      ap (λ k. prev_shown_in [] (rows ++ row ∷ attributes) n (cond (is_attribute k) None (parent_of (rows ++ row ∷ attributes) n))) (attribute_at rows o os row attributes stack joins i l).0
