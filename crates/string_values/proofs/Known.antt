-- When a string-value is known.
use Rattle.std.proofs.Common.{◌≡◌, ℕ, Bool, true, false, cond, List, ◌++◌, length, Some, None, take, ap, ◌∙◌, arith}
use Rattle.std.proofs.lemmas.Bool.{lt-ltb}
use Rattle.std.proofs.lemmas.List.{take-append-le, take_all}
use Rattle.doc_model.specs.declared.row.Row.{Row}
use Rattle.doc_model.specs.declared.step.Step.{Step}
use Rattle.doc_model.specs.declared.strip_rule.StripRule.{StripRule}
use Rattle.doc_model.specs.Answers.{Known, Open, once_shut}
use Rattle.doc_model.specs.Document.{is_parent, is_open}
use Rattle.doc_model.specs.Lawful.{Grows, IsJoined, AtStep}
use Rattle.doc_model.specs.Rows.{rows_of, row_at}
use Rattle.doc_model.specs.Values.{value_at, texts_below, value_in}
use Rattle.doc_model.specs.Values.{value_need, string_value_of}
use Rattle.doc_laws.proofs.Growth.{joined_grows, prefix_rows, row_at_grows}
use Rattle.string_values.specs.Appended.{appended_to}

joined_answer : (rules : List StripRule) (steps : List Step) (n : ℕ) → IsJoined steps n
    → string_value_of rules steps n ≡ once_shut steps (value_need (rows_of steps) n) (value_in rules (rows_of steps) n)
joined_answer rules steps n j = ap (λ b. cond b (once_shut steps (value_need (rows_of steps) n) (value_in rules (rows_of steps) n)) (Open n)) (lt-ltb n (length (rows_of steps)) j)

-- of the root or an element that is shut, of one that is open, and of another row
pub shut_value : (rules : List StripRule) (steps : List Step) (n : ℕ) → IsJoined steps n → is_parent (row_at (rows_of steps) n).kind ≡ true → is_open steps n ≡ false
    → string_value_of rules steps n ≡ Known (texts_below rules (rows_of steps) n)
shut_value rules steps n j p o =
    joined_answer rules steps n j
    ∙ ap (λ b. once_shut steps (cond b (Some n) None) (cond b (texts_below rules (rows_of steps) n) (value_at (rows_of steps) n))) p
    ∙ ap (λ b. cond b (Open n) (Known (texts_below rules (rows_of steps) n))) o

pub open_value : (rules : List StripRule) (steps : List Step) (n : ℕ) → IsJoined steps n → is_parent (row_at (rows_of steps) n).kind ≡ true → is_open steps n ≡ true
    → string_value_of rules steps n ≡ Open n
open_value rules steps n j p o =
    joined_answer rules steps n j
    ∙ ap (λ b. once_shut steps (cond b (Some n) None) (cond b (texts_below rules (rows_of steps) n) (value_at (rows_of steps) n))) p
    ∙ ap (λ b. cond b (Open n) (Known (texts_below rules (rows_of steps) n))) o

pub own_value : (rules : List StripRule) (steps : List Step) (n : ℕ) → IsJoined steps n → is_parent (row_at (rows_of steps) n).kind ≡ false
    → string_value_of rules steps n ≡ Known (value_at (rows_of steps) n)
own_value rules steps n j p =
    joined_answer rules steps n j ∙ ap (λ b. once_shut steps (cond b (Some n) None) (cond b (texts_below rules (rows_of steps) n) (value_at (rows_of steps) n))) p

pub row_later : (p q : List Step) (n : ℕ) → Grows p q → IsJoined p n → row_at (rows_of q) n ≡ row_at (rows_of p) n
row_later p q n g j = let r = prefix_rows p q g in ap (λ rows. row_at rows n) r.1 ∙ row_at_grows (rows_of p) r.0 n j

pub parent_later : (p q : List Step) (n : ℕ) (b : Bool) → Grows p q → IsJoined p n → is_parent (row_at (rows_of p) n).kind ≡ b → is_parent (row_at (rows_of q) n).kind ≡ b
parent_later p q n b g j h = ap (λ (r : Row). is_parent r.kind) (row_later p q n g j) ∙ h

-- a row that was open at a step
pub was_open : (rules : List StripRule) (p q : List Step) (n : ℕ) (front : List ℕ) → IsJoined p n → is_parent (row_at (rows_of p) n).kind ≡ true → AtStep p q (λ steps. is_open steps n ≡ true)
    → AtStep p q (λ steps. appended_to front (string_value_of rules steps n) ≡ Open n)
was_open rules p q n front j k a = (a.0, a.1, a.2, ap (appended_to front) (open_value rules (a.0) n (joined_grows p (a.0) n a.1 j) (parent_later p (a.0) n true a.1 j k) a.3))

-- cut back to where it began, what stood in front is left
pub cut_back : (front more all cut : List ℕ) (start : ℕ) → cut ≡ take start all → all ≡ front ++ more → start ≡ length front → cut ≡ front
cut_back front more all cut start c a s =
    c ∙ ap (take start) a ∙ ap (λ k. take k (front ++ more)) s ∙ take-append-le (length front) front more (omega arith) ∙ take_all (length front) front (omega arith)
