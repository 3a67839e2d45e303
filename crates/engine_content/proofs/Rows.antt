-- Rows that are there stay as they are.
use Rattle.std.proofs.Common.{◌≡◌, ℕ, List, ap, ◌∙◌}
use Rattle.doc_model.specs.declared.row.Row.{Row}
use Rattle.doc_model.specs.declared.step.Step.{Step}
use Rattle.doc_model.specs.Lawful.{Grows, IsJoined}
use Rattle.doc_model.specs.Rows.{rows_of, row_at}
use Rattle.doc_laws.proofs.Growth.{prefix_rows, row_at_grows}
use Rattle.copy_meaning.specs.Passes.{depth_at}

pub row_later : (p q : List Step) (n : ℕ) → Grows p q → IsJoined p n → row_at (rows_of q) n ≡ row_at (rows_of p) n
row_later p q n g j = let r = prefix_rows p q g in ap (λ rows. row_at rows n) r.1 ∙ row_at_grows (rows_of p) r.0 n j

pub depth_later : (p q : List Step) (n : ℕ) → Grows p q → IsJoined p n → depth_at (rows_of q) n ≡ depth_at (rows_of p) n
depth_later p q n g j = ap (λ (r : Row). r.depth) (row_later p q n g j)
