-- What was read of a row is so of later steps.
use Rattle.std.proofs.Common.{◌≡◌, ℕ, suc, true, false, cond, List, [], ◌∷◌, ◌++◌, None, drop, ap, sym, ◌∙◌, subst, refl, arith, append-nil}
use Rattle.std.proofs.lemmas.Bool.{false≢true}
use Rattle.std.proofs.lemmas.List.{drop-append-le}
use Rattle.doc_laws.proofs.Standing.{standing_plain}
use Rattle.doc_model.specs.declared.row.Kind.{Kind}
use Rattle.doc_model.specs.declared.row.Kind.TheVariants.{Root, Element, Attribute, Text, Instruction, Comment, Comment}
use Rattle.doc_model.specs.declared.row.Row.{Row}
use Rattle.doc_model.specs.declared.step.Step.{Step}
use Rattle.doc_model.specs.declared.step.Step.TheVariants.{Node, Shut, End}
use Rattle.doc_model.specs.declared.strip_rule.StripRule.{StripRule}
use Rattle.doc_model.specs.Document.{Document, start, after, document_of, is_attribute, is_parent}
use Rattle.doc_model.specs.Lawful.{CanJoin, LawfulFrom, IsLawful, Grows, IsJoined}
use Rattle.doc_model.specs.Relations.{parent_of, attribute_run}
use Rattle.doc_model.specs.Rows.{rows_of, rows_given, row_at}
use Rattle.doc_model.specs.Strip.{is_visible, space_in, says_space, or_else}
use Rattle.doc_laws.proofs.Growth.{prefix_rows, rows-append, row_at_grows, parent_grows}
use Rattle.doc_laws.proofs.Ends.{lawful_split}
use Rattle.doc_laws.proofs.Prevs.{run_stops}
use Rattle.doc_laws.proofs.Visible.{visible_grows}

pub row_later : (p q : List Step) (n : ℕ) → Grows p q → IsJoined p n → row_at (rows_of q) n ≡ row_at (rows_of p) n
row_later p q n g j = let r = prefix_rows p q g in ap (λ rows. row_at rows n) r.1 ∙ row_at_grows (rows_of p) r.0 n j

pub parent_later : (p q : List Step) (n : ℕ) → Grows p q → IsJoined p n → parent_of (rows_of q) n ≡ parent_of (rows_of p) n
parent_later p q n g j = let r = prefix_rows p q g in ap (λ rows. parent_of rows n) r.1 ∙ parent_grows (rows_of p) r.0 n j

pub visible_later : (rules : List StripRule) (p q : List Step) (n : ℕ) → Grows p q → IsJoined p n → is_visible rules (rows_of q) n ≡ is_visible rules (rows_of p) n
visible_later rules p q n g j = let r = prefix_rows p q g in ap (λ rows. is_visible rules rows n) r.1 ∙ visible_grows rules (rows_of p) r.0 n j

pub plain_later : (p q : List Step) (n : ℕ) → Grows p q → IsJoined p n → is_attribute (row_at (rows_of p) n).kind ≡ false → is_attribute (row_at (rows_of q) n).kind ≡ false
plain_later p q n g j a = ap (λ (r : Row). is_attribute r.kind) (row_later p q n g j) ∙ a

space_stops : (xs : List Row) (row : Row) (more : List Row) → is_attribute row.kind ≡ false → space_in (xs ++ row ∷ more) ≡ space_in xs
space_stops [] row more a = ap (λ b. cond b (or_else (says_space row) (space_in more)) None) a
space_stops (x ∷ xs) row more a = ap (λ k. cond (is_attribute x.kind) (or_else (says_space x) k) None) (space_stops xs row more a)

plain_node : (opened : List ℕ) (row : Row) (attributes : List Row) → CanJoin opened row attributes → is_attribute row.kind ≡ false
plain_node opened row attributes j = standing_plain row.kind j.kind

runs_past : (s : Document) (steps : List Step) (xs : List Row) → LawfulFrom s steps → (attribute_run (xs ++ rows_given steps) ≡ attribute_run xs) × (space_in (xs ++ rows_given steps) ≡ space_in xs)
runs_past s [] xs l = (ap attribute_run (append-nil xs), ap space_in (append-nil xs))
runs_past s (Node row attributes ∷ steps) xs l =
    let a = plain_node s.opened row attributes l.1 in
    (run_stops xs row (attributes ++ rows_given steps) a, space_stops xs row (attributes ++ rows_given steps) a)
runs_past s (Shut ∷ steps) xs l = runs_past (after s Shut) steps xs l.2
runs_past s (End v ∷ steps) xs l = runs_past (after s (End v)) steps xs l.2

-- the attributes right after a row that is there are there too
pub runs_later : (p q : List Step) (n : ℕ) → Grows p q → IsLawful q → IsJoined p n
    → (attribute_run (drop (suc n) (rows_of q)) ≡ attribute_run (drop (suc n) (rows_of p))) × (space_in (drop (suc n) (rows_of q)) ≡ space_in (drop (suc n) (rows_of p)))
runs_later p q n g l j =
    let split = lawful_split p (g.0) (subst (λ xs. LawfulFrom start xs) (sym (g.1)) l.each) in
    let e : rows_of q ≡ rows_of p ++ rows_given (g.0) = ap rows_of (sym (g.1)) ∙ rows-append p (g.0) in
    let d : drop (suc n) (rows_of q) ≡ drop (suc n) (rows_of p) ++ rows_given (g.0) = ap (drop (suc n)) e ∙ drop-append-le (suc n) (rows_of p) (rows_given (g.0)) (omega arith) in
    let r = runs_past (document_of p) (g.0) (drop (suc n) (rows_of p)) (split.1) in
    (ap attribute_run d ∙ r.0, ap space_in d ∙ r.1)

pub parent_plain : (k : Kind) → is_parent k ≡ true → is_attribute k ≡ false
parent_plain Root h = refl
parent_plain Element h = refl
parent_plain Attribute h = absurd (false≢true h)
parent_plain Text h = refl
parent_plain Instruction h = refl
parent_plain Comment h = refl
