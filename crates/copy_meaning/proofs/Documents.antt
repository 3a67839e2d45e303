-- What holds of the rows of every lawful list of steps.
use Rattle.std.proofs.Common.{◌≡◌, ℕ, zero, suc, ◌-◌, ◌<◌, Bool, true, false, cond, List, [], ◌∷◌, ◌++◌, length, drop, refl, ap, ◌∙◌, arith, length-append, inl, inr}
use Rattle.std.proofs.lemmas.Bool.{cases_lt, false≢true}
use Rattle.doc_model.specs.declared.row.Kind.{Kind}
use Rattle.doc_model.specs.declared.row.Kind.TheVariants.{Root, Element, Attribute, Text, Instruction, Comment}
use Rattle.doc_model.specs.declared.row.Row.{Row}
use Rattle.doc_model.specs.declared.step.Step.{Step}
use Rattle.doc_model.specs.declared.step.Step.TheVariants.{Node, Shut, End}
use Rattle.doc_model.specs.Document.{Document, start, after, is_parent, is_open, document_of}
use Rattle.doc_model.specs.Lawful.{IsLawful, LawfulFrom, may_stand}
use Rattle.doc_model.specs.Relations.{attribute_run}
use Rattle.doc_model.specs.Rows.{row_at, rows_of, rows_given}
use Rattle.doc_laws.proofs.Growth.{row_at_grows}
use Rattle.doc_laws.proofs.Rooted.{IsRooted, lawful_rooted}
use Rattle.doc_laws.proofs.Sound.{TreeHolds, lawful_tree}
use Rattle.doc_laws.proofs.Stack.{stack_of, attribute_depths, row_at_past}
use Rattle.doc_laws.proofs.Staying.{given_begins}
use Rattle.doc_laws.proofs.Words.{member_parent}

abbrev pub is_root : Kind → Bool
is_root Root = true
is_root Element = false
is_root Attribute = false
is_root Text = false
is_root Instruction = false
is_root Comment = false

-- the rows are a tree, whose root is the first row, has no attributes, and is the only row of its kind
pub record IsDocument (rows : List Row) : Type 0 where
  pub tree : TreeHolds rows
  pub rooted : IsRooted rows
  pub others : (k : ℕ) → 0 < k → k < length rows → is_root (row_at rows k).kind ≡ false
  pub bare : attribute_run (drop 1 rows) ≡ 0

standing_other : (k : Kind) → may_stand k ≡ true → is_root k ≡ false
standing_other Root h = absurd (false≢true h)
standing_other Element h = refl
standing_other Attribute h = absurd (false≢true h)
standing_other Text h = refl
standing_other Instruction h = refl
standing_other Comment h = refl

step_other : (row : Row) (attributes more : List Row) (k : ℕ) → is_root row.kind ≡ false → ((j : ℕ) → j < length attributes → is_root (row_at attributes j).kind ≡ false)
    → ((j : ℕ) → j < length more → is_root (row_at more j).kind ≡ false) → k < length (row ∷ (attributes ++ more)) → is_root (row_at (row ∷ (attributes ++ more)) k).kind ≡ false
step_other row attributes more zero a b c l = a
step_other row attributes more (suc k) a b c l = elim (cases_lt k (length attributes)) [
  | inl lt ↦ ap (λ (r : Row). is_root r.kind) (row_at_grows attributes more k lt) ∙ b k lt
  | inr ge ↦ ap (λ (r : Row). is_root r.kind) (row_at_past attributes more k ge) ∙ c (k - length attributes) (omega (arith, l, length-append attributes more))
]

given_other : (s : Document) (p : List Step) → LawfulFrom s p → (k : ℕ) → k < length (rows_given p) → is_root (row_at (rows_given p) k).kind ≡ false
given_other s [] l k h = absurd (omega arith)
given_other s (Node row attributes ∷ p) l k h =
    step_other row attributes (rows_given p) k (standing_other row.kind l.1.kind) (λ j m. ap is_root (attribute_depths row.depth attributes j l.1.carried m).0)
    (given_other (after s (Node row attributes)) p l.2) h
given_other s (Shut ∷ p) l k h = given_other (after s Shut) p l.2 k h
given_other s (End v ∷ p) l k h = given_other (after s (End v)) p l.2 k h

pub lawful_document : (p : List Step) → IsLawful p → IsDocument (rows_of p)
lawful_document p l = record {
  tree = lawful_tree p l.each;
  rooted = lawful_rooted p l.each;
  others = λ k a b. at k a b;
  bare = elim (given_begins start p l.each) [
    | inl e ↦ ap attribute_run e
    | inr b ↦ ap attribute_run b.is ∙ ap (λ c. cond c (suc (attribute_run b.rest)) 0) b.plain
  ];
}
  where
    at : (k : ℕ) → 0 < k → k < length (rows_of p) → is_root (row_at (rows_of p) k).kind ≡ false
    at zero a b = absurd (omega arith)
    at (suc k) a b = given_other start p l.each k (omega arith)

-- what is open may have children
pub open_parent : (p : List Step) (k : ℕ) → IsLawful p → is_open p k ≡ true → is_parent (row_at (rows_of p) k).kind ≡ true
open_parent p k l o = member_parent (rows_of p) (document_of p).opened k (stack_of p l.each) o
