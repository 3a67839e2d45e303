-- How rows and links behave as steps are added.
use Rattle.std.proofs.Common.{◌≡◌, ℕ, ◌<◌, ◌≤◌, not, ◌&&◌, List, [], ◌∷◌, ◌++◌, length, None, take, refl, ap, sym, ◌∙◌, arith, append-nil, append_assoc, length-append}
use Rattle.std.proofs.lemmas.List.{get_or_append_left, take-append-le}
use Rattle.doc_model.specs.declared.row.Row.{Row}
use Rattle.doc_model.specs.declared.step.Step.{Step}
use Rattle.doc_model.specs.declared.step.Step.TheVariants.{Node, Shut, End}
use Rattle.doc_model.specs.Document.{Document, start, after, document_from, document_of, is_attribute}
use Rattle.doc_model.specs.Lawful.{Grows, IsJoined}
use Rattle.doc_model.specs.Relations.{parent_of, is_child, children_below, last_above_from, is_some_of}
use Rattle.doc_model.specs.Rows.{rows_of, rows_given, rows_of_step, root_row, row_at}
use Rattle.doc_laws.proofs.Numbers.{filter_same}

pub document_from-append : (s : Document) (p q : List Step) → document_from s (p ++ q) ≡ document_from (document_from s p) q
document_from-append s [] q = refl
document_from-append s (x ∷ p) q = document_from-append (after s x) p q

pub rows_given-append : (p q : List Step) → rows_given (p ++ q) ≡ rows_given p ++ rows_given q
rows_given-append [] q = refl
rows_given-append (x ∷ p) q = ap (λ rows. rows_of_step x ++ rows) (rows_given-append p q) ∙ sym (append_assoc (rows_of_step x) (rows_given p) (rows_given q))

pub rows-append : (p q : List Step) → rows_of (p ++ q) ≡ rows_of p ++ rows_given q
rows-append p q = ap (λ rows. root_row ∷ rows) (rows_given-append p q)

rows-document_from : (s : Document) (p : List Step) → (document_from s p).rows ≡ s.rows ++ rows_given p
rows-document_from s [] = sym (append-nil _)
rows-document_from s (Node row attributes ∷ p) = rows-document_from (after s (Node row attributes)) p ∙ append_assoc s.rows (row ∷ attributes) (rows_given p)
rows-document_from s (Shut ∷ p) = rows-document_from (after s Shut) p
rows-document_from s (End v ∷ p) = rows-document_from (after s (End v)) p

-- the rows that going through the steps gathers are those of the steps
pub document_is : (p : List Step) → document_from start p ≡ document_of p
document_is p = ap (λ rows. record (document_from start p) { rows = rows }) (rows-document_from start p)

pub document_of-append : (p q : List Step) → document_of (p ++ q) ≡ document_from (document_of p) q
document_of-append p q = sym (document_is (p ++ q)) ∙ document_from-append start p q ∙ ap (λ s. document_from s q) (document_is p)

pub document_of-push : (p : List Step) (x : Step) → document_of (p ++ x ∷ []) ≡ after (document_of p) x
document_of-push p x = document_of-append p (x ∷ [])

pub prefix_rows : (p q : List Step) → Grows p q → (more : List Row) × (rows_of q ≡ rows_of p ++ more)
prefix_rows p q g = (rows_given g.0, ap rows_of (sym g.1) ∙ rows-append p g.0)

pub Grows-trans : (p q r : List Step) → Grows p q → Grows q r → Grows p r
Grows-trans p q r g h = (g.0 ++ h.0, sym (append_assoc p g.0 h.0) ∙ ap (λ xs. xs ++ h.0) g.1 ∙ h.1)

pub Grows-refl : (p : List Step) → Grows p p
Grows-refl p = ([], append-nil p)

pub joined_grows : (p q : List Step) (n : ℕ) → Grows p q → IsJoined p n → IsJoined q n
joined_grows p q n g h = let r = prefix_rows p q g in omega (arith, h, ap length r.1, length-append (rows_of p) r.0)

pub row_at_grows : (rows more : List Row) (n : ℕ) → n < length rows → row_at (rows ++ more) n ≡ row_at rows n
row_at_grows rows more n h = get_or_append_left rows more root_row n h

pub parent_grows : (rows more : List Row) (n : ℕ) → n < length rows → parent_of (rows ++ more) n ≡ parent_of rows n
parent_grows rows more n h =
    ap (λ (r : Row). last_above_from r.depth 0 (take n (rows ++ more)) None) (row_at_grows rows more n h)
    ∙ ap (λ xs. last_above_from (row_at rows n).depth 0 xs None) (take-append-le n rows more (omega arith))

pub child_grows : (rows more : List Row) (n k : ℕ) → k < length rows → is_child (rows ++ more) n k ≡ is_child rows n k
child_grows rows more n k h =
    ap (λ (r : Row). not (is_attribute r.kind) && is_some_of (parent_of (rows ++ more) k) n) (row_at_grows rows more k h)
    ∙ ap (λ o. not (is_attribute (row_at rows k).kind) && is_some_of o n) (parent_grows rows more k h)

pub children_below_grows : (rows more : List Row) (n count : ℕ) → count ≤ length rows → children_below (rows ++ more) n count ≡ children_below rows n count
children_below_grows rows more n count h = filter_same (is_child (rows ++ more) n) (is_child rows n) 0 count (λ k l m. child_grows rows more n k (omega arith))
