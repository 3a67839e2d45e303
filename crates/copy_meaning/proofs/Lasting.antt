-- A copy that is known stays, and levels more than there are rows make no difference.
use Rattle.std.proofs.Common.{◌≡◌, ℕ, zero, suc, ◌+◌, ◌-◌, ◌≤◌, true, false, cond, ltb, List, [], ◌++◌, length, Some, None, refl, ap, sym, ◌∙◌, subst, arith, inl, inr}
use Rattle.std.proofs.lemmas.Bool.{cases_Bool, ltb-true, lt-ltb}
use Rattle.doc_model.specs.declared.row.Row.{Row}
use Rattle.doc_model.specs.declared.step.Step.{Step}
use Rattle.doc_model.specs.declared.strip_rule.StripRule.{StripRule}
use Rattle.doc_model.specs.Answers.{Answer, Known, Open, Stays, Lasts, once_shut}
use Rattle.doc_model.specs.Document.{is_parent, is_open}
use Rattle.doc_model.specs.Lawful.{IsLawful, Grows, IsJoined}
use Rattle.doc_model.specs.Relations.{extent_of}
use Rattle.doc_model.specs.Rows.{rows_of, row_at}
use Rattle.doc_model.specs.Strip.{is_visible}
use Rattle.doc_laws.proofs.Ends.{shut_grows, extent_le}
use Rattle.doc_laws.proofs.Growth.{joined_grows, prefix_rows, row_at_grows}
use Rattle.doc_laws.proofs.Root.{lawful_before}
use Rattle.doc_laws.proofs.Visible.{visible_grows}
use Rattle.result_events.specs.declared.event.ResultEvent.{ResultEvent}
use Rattle.copy_meaning.specs.Copies.{copy_in, copy_need, copy_of}
use Rattle.copy_meaning.specs.Passes.{depth_at, ends, beginning, beginning_shown, ending, depth_behind, pass}
use Rattle.copy_meaning.proofs.Documents.{lawful_document, open_parent}
use Rattle.copy_meaning.proofs.Subtrees.{copy_passes}

-- the copy of a row as one pass
pub copy_is_pass : (rules : List StripRule) (p : List Step) (n : ℕ) → IsLawful p → IsJoined p n
    → copy_in rules (rows_of p) n ≡ beginning (row_at (rows_of p) n)
    ++ pass rules (rows_of p) (depth_at (rows_of p) n) (suc n) (extent_of (rows_of p) n - suc n) (depth_at (rows_of p) n) ++ ending (row_at (rows_of p) n)
unfolding copy_in
copy_is_pass rules p n l j = copy_passes rules (rows_of p) (lawful_document p l) (length (rows_of p)) n j (omega arith)

-- a pass through rows that are there stays
pub pass_stays : (rules : List StripRule) (rows more : List Row) (base k count d : ℕ) → k + count ≤ length rows → pass rules (rows ++ more) base k count d ≡ pass rules rows base k count d
pass_stays rules rows more base k zero d l = refl
pass_stays rules rows more base k (suc count) d l =
    let at = row_at_grows rows more k (omega arith) in
    let seen = visible_grows rules rows more k (omega arith) in
    ap (λ (r : Row). (ends (suc d - r.depth) ++ cond (is_visible rules (rows ++ more) k) (beginning r) []) ++ pass rules (rows ++ more) base (suc k) count (depth_behind r)) at
    ∙ ap (λ b. (ends (suc d - depth_at rows k) ++ cond b (beginning (row_at rows k)) []) ++ pass rules (rows ++ more) base (suc k) count (depth_behind (row_at rows k))) seen
    ∙ ap (λ xs. (ends (suc d - depth_at rows k) ++ beginning_shown rules rows k) ++ xs) (pass_stays rules rows more base (suc k) count (depth_behind (row_at rows k)) (omega arith))

-- so the copy of a row that is shut stays
pub copy_stays : (rules : List StripRule) (p q : List Step) (n : ℕ) → Grows p q → IsLawful q → IsJoined p n → is_open p n ≡ false → copy_in rules (rows_of q) n ≡ copy_in rules (rows_of p) n
copy_stays rules p q n g l j o =
    let w = prefix_rows p q g in
    let s = shut_grows p q n g l j o in
    let le = extent_le (rows_of p) n j in
    let more : List Row = w.0 in
    let rows : List Row = rows_of p in
    copy_is_pass rules q n l (joined_grows p q n g j)
    ∙ ap (λ e. beginning (row_at (rows_of q) n) ++ pass rules (rows_of q) (depth_at (rows_of q) n) (suc n) (e - suc n) (depth_at (rows_of q) n) ++ ending (row_at (rows_of q) n)) s.1
    ∙ ap (λ rs. beginning (row_at rs n) ++ pass rules rs (depth_at rs n) (suc n) (extent_of rows n - suc n) (depth_at rs n) ++ ending (row_at rs n)) w.1
    ∙ ap (λ (r : Row). beginning r ++ pass rules (rows ++ more) r.depth (suc n) (extent_of rows n - suc n) r.depth ++ ending r) (row_at_grows rows more n j)
    ∙ ap (λ xs. beginning (row_at rows n) ++ xs ++ ending (row_at rows n)) (pass_stays rules rows more (depth_at rows n) (suc n) (extent_of rows n - suc n) (depth_at rows n) (omega arith))
    ∙ sym (copy_is_pass rules p n (lawful_before p q g l) j)

joined_answer : (rules : List StripRule) (p : List Step) (n : ℕ) → IsJoined p n → copy_of rules p n ≡ once_shut p (copy_need (rows_of p) n) (copy_in rules (rows_of p) n)
joined_answer rules p n j = ap (λ b. cond b (once_shut p (copy_need (rows_of p) n) (copy_in rules (rows_of p) n)) (Open n)) (lt-ltb n (length (rows_of p)) j)

-- of a row that is not open, and of one that is
pub shut_copy : (rules : List StripRule) (p : List Step) (n : ℕ) → IsJoined p n → is_open p n ≡ false → copy_of rules p n ≡ Known (copy_in rules (rows_of p) n)
shut_copy rules p n j o = joined_answer rules p n j ∙ elim (cases_Bool (is_parent (row_at (rows_of p) n).kind)) [
  | inl par ↦
      ap (λ b. once_shut p (cond b (Some n) None) (copy_in rules (rows_of p) n)) par
      ∙ ap (λ b. cond b (Open n) (Known (copy_in rules (rows_of p) n))) o
  | inr leaf ↦ ap (λ b. once_shut p (cond b (Some n) None) (copy_in rules (rows_of p) n)) leaf
]

pub open_copy : (rules : List StripRule) (p : List Step) (n : ℕ) → IsLawful p → IsJoined p n → is_open p n ≡ true → copy_of rules p n ≡ Open n
open_copy rules p n l j o =
    joined_answer rules p n j
    ∙ ap (λ b. once_shut p (cond b (Some n) None) (copy_in rules (rows_of p) n)) (open_parent p n l o)
    ∙ ap (λ b. cond b (Open n) (Known (copy_in rules (rows_of p) n))) o

known_stays : (a b : Answer ⊥ (List ResultEvent)) (x : List ResultEvent) → a ≡ Known x → b ≡ Known x → Stays a b
known_stays a b x e f = subst (λ c. Stays c b) (sym e) f

open_stays : (a b : Answer ⊥ (List ResultEvent)) (m : ℕ) → a ≡ Open m → Stays a b
open_stays a b m e = subst (λ c. Stays c b) (sym e) tt

joined_stays : (rules : List StripRule) (n : ℕ) (p q : List Step) → Grows p q → IsLawful q → IsJoined p n → Stays (copy_of rules p n) (copy_of rules q n)
joined_stays rules n p q g l j = elim (cases_Bool (is_open p n)) [
  | inl o ↦ open_stays (copy_of rules p n) (copy_of rules q n) n (open_copy rules p n (lawful_before p q g l) j o)
  | inr o ↦ known_stays (copy_of rules p n) (copy_of rules q n) (copy_in rules (rows_of p) n) (shut_copy rules p n j o)
      (shut_copy rules q n (joined_grows p q n g j) (shut_grows p q n g l j o).0 ∙ ap (λ xs. Known xs) (copy_stays rules p q n g l j o))
]

pub copy_lasts : (rules : List StripRule) (n : ℕ) → Lasts (λ steps. copy_of rules steps n)
copy_lasts rules n = record {
  stays = λ p q g l. elim (cases_Bool (ltb n (length (rows_of p)))) [
    | inl j ↦ joined_stays rules n p q g l (ltb-true n (length (rows_of p)) j)
    | inr j ↦ open_stays (copy_of rules p n) (copy_of rules q n) n (ap (λ b. cond b (once_shut p (copy_need (rows_of p) n) (copy_in rules (rows_of p) n)) (Open n)) j)
  ];
}
