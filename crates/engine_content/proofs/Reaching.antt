-- How far the rows of a subtree have been gone through.
use Rattle.std.proofs.Common.{◌≡◌, ℕ, suc, ◌+◌, ◌-◌, ◌<◌, ◌≤◌, true, false, List, [], ◌++◌, length, ap, sym, ◌∙◌, subst, arith, append_assoc, inl, inr}
use Rattle.std.proofs.lemmas.Bool.{cases_lt}
use Rattle.doc_model.specs.declared.row.Kind.{Kind}
use Rattle.doc_model.specs.declared.row.Row.{Row}
use Rattle.doc_model.specs.declared.step.Step.{Step}
use Rattle.doc_model.specs.declared.strip_rule.StripRule.{StripRule}
use Rattle.doc_model.specs.Document.{is_open}
use Rattle.doc_model.specs.Answers.{Open}
use Rattle.doc_model.specs.Lawful.{Grows, IsJoined, IsLawful, AtStep}
use Rattle.doc_model.specs.Relations.{extent_of}
use Rattle.doc_model.specs.Rows.{rows_of, row_at}
use Rattle.doc_laws.proofs.Ends.{shut_grows, extent_le}
use Rattle.doc_laws.proofs.Growth.{joined_grows, prefix_rows}
use Rattle.doc_laws.proofs.Root.{lawful_before}
use Rattle.doc_laws.proofs.Subtrees.{extent_deeper}
use Rattle.result_events.specs.declared.event.ResultEvent.{ResultEvent}
use Rattle.copy_meaning.specs.Copies.{copy_in, copy_of}
use Rattle.copy_meaning.specs.Passes.{depth_at, ends, beginning, beginning_shown, ending, ending_as, depth_behind, pass}
use Rattle.copy_meaning.proofs.Lasting.{pass_stays, copy_is_pass, open_copy}
use Rattle.engine_content.specs.Climbing.{IsAround, IsInnermost}
use Rattle.engine_content.proofs.Chains.{innermost_itself, innermost_later}
use Rattle.engine_content.proofs.Rows.{depth_later}

-- all events that the rows in row n give
abbrev pub whole_pass : List StripRule → List Row → ℕ → ℕ → List ResultEvent
whole_pass rules rows n end = pass rules rows (depth_at rows n) (suc n) (end - suc n) (depth_at rows n)

-- row n is shut and ends there; the rows up to row k were gone through, behind which row `at` is the innermost that is open
pub record Reached (rules : List StripRule) (steps : List Step) (n at k end : ℕ) (front made : List ResultEvent) : Type 0 where
  pub joined : IsJoined steps n
  pub shut : is_open steps n ≡ false
  pub ends_at : end ≡ extent_of (rows_of steps) n
  pub from : n ≤ at
  pub before : at < k
  pub within : k ≤ end
  pub innermost : IsInnermost (rows_of steps) at (k - 1)
  pub rest : made ++ pass rules (rows_of steps) (depth_at (rows_of steps) n) k (end - k) (depth_at (rows_of steps) at) ≡ front ++ whole_pass rules (rows_of steps) n end

pub reached_first : (rules : List StripRule) (steps : List Step) (n k end : ℕ) (front : List ResultEvent) → IsJoined steps n → k ≡ n + 1 → is_open steps n ≡ false
    → end ≡ extent_of (rows_of steps) n → Reached rules steps n n k end front front
reached_first rules steps n k end front j e o h =
    let s : k ≡ suc n = omega arith in
    let b : n ≡ k - 1 = omega arith in
    record {
      joined = j;
      shut = o;
      ends_at = h;
      from = omega arith;
      before = omega arith;
      within = omega (arith, h);
      innermost = let P : ℕ → Type 0 = λ i. IsInnermost (rows_of steps) n i in subst P b (innermost_itself (rows_of steps) n);
      rest = ap (λ i. front ++ pass rules (rows_of steps) (depth_at (rows_of steps) n) i (end - i) (depth_at (rows_of steps) n)) s;
    }

pub reached_joined : (rules : List StripRule) (steps : List Step) (n at k end : ℕ) (front made : List ResultEvent) → Reached rules steps n at k end front made → k < end → IsJoined steps k
reached_joined rules steps n at k end front made r l = omega (arith, l, r.ends_at, extent_le (rows_of steps) n r.joined)

pass_later : (rules : List StripRule) (p q : List Step) (n at k count : ℕ) → Grows p q → IsJoined p n → IsJoined p at → k + count ≤ length (rows_of p)
    → pass rules (rows_of q) (depth_at (rows_of q) n) k count (depth_at (rows_of q) at) ≡ pass rules (rows_of p) (depth_at (rows_of p) n) k count (depth_at (rows_of p) at)
pass_later rules p q n at k count g jn ja l =
    let w = prefix_rows p q g in
    ap (λ d. pass rules (rows_of q) d k count (depth_at (rows_of q) at)) (depth_later p q n g jn)
    ∙ ap (λ d. pass rules (rows_of q) (depth_at (rows_of p) n) k count d) (depth_later p q at g ja)
    ∙ ap (λ rows. pass rules rows (depth_at (rows_of p) n) k count (depth_at (rows_of p) at)) w.1
    ∙ pass_stays rules (rows_of p) w.0 (depth_at (rows_of p) n) k count (depth_at (rows_of p) at) l

pub reached_later : (rules : List StripRule) (p q : List Step) (n at k end : ℕ) (front made : List ResultEvent) → Grows p q → IsLawful q → Reached rules p n at k end front made
    → Reached rules q n at k end front made
reached_later rules p q n at k end front made g l r =
    let s = shut_grows p q n g l r.joined r.shut in
    let le = extent_le (rows_of p) n r.joined in
    let ja : at < length (rows_of p) = omega (arith, r.before, r.within, r.ends_at, le) in
    let fits : k + (end - k) ≤ length (rows_of p) = omega (arith, r.within, r.ends_at, le) in
    let all : suc n + (end - suc n) ≤ length (rows_of p) = omega (arith, r.from, r.before, r.within, r.ends_at, le) in
    record {
      joined = joined_grows p q n g r.joined;
      shut = s.0;
      ends_at = r.ends_at ∙ sym s.1;
      from = r.from;
      before = r.before;
      within = r.within;
      innermost = innermost_later p q at (k - 1) g (omega (arith, r.before, r.within, r.ends_at, le)) r.innermost;
      rest =
          ap (λ xs. made ++ xs) (pass_later rules p q n at k (end - k) g r.joined ja fits) ∙ r.rest
          ∙ ap (λ xs. front ++ xs) (sym (pass_later rules p q n n (suc n) (end - suc n) g r.joined r.joined all));
    }

regrouped : (made es bs rest : List ResultEvent) → ((made ++ es) ++ bs) ++ rest ≡ made ++ ((es ++ bs) ++ rest)
regrouped made es bs rest = ap (λ xs. xs ++ rest) (append_assoc made es bs) ∙ append_assoc made (es ++ bs) rest

pub reached_on : (rules : List StripRule) (steps : List Step) (n at k end next : ℕ) (front made more : List ResultEvent) → Reached rules steps n at k end front made → k < end
    → more ≡ (made ++ ends (suc (depth_at (rows_of steps) at) - depth_at (rows_of steps) k)) ++ beginning_shown rules (rows_of steps) k
    → depth_at (rows_of steps) next ≡ depth_behind (row_at (rows_of steps) k) → IsInnermost (rows_of steps) next k → Reached rules steps n next (k + 1) end front more
reached_on rules steps n at k end next front made more r l h d i =
    let rows : List Row = rows_of steps in
    let c : end - k ≡ suc (end - (k + 1)) = omega arith in
    let s : suc k ≡ k + 1 = omega arith in
    let back : k ≡ (k + 1) - 1 = omega arith in
    let ahead : List ResultEvent = pass rules (rows_of steps) (depth_at (rows_of steps) n) (k + 1) (end - (k + 1)) (depth_at (rows_of steps) next) in
    let deep = extent_deeper (rows_of steps) n k (omega (arith, r.from, r.before)) (omega (arith, l, r.ends_at)) in
    record {
      joined = r.joined;
      shut = r.shut;
      ends_at = r.ends_at;
      from = elim i.last [
        | inl e ↦ omega (arith, e, r.from, r.before)
        | inr leaf ↦ elim (cases_lt next n) [
          | inr ge ↦ ge
          | inl lt ↦ absurd (omega (arith, leaf.1, deep, i.deeper n lt (omega (arith, r.from, r.before))))
        ]
      ];
      before = omega (arith, i.before);
      within = omega arith;
      innermost = let P : ℕ → Type 0 = λ j. IsInnermost (rows_of steps) next j in subst P back i;
      rest =
          ap (λ xs. xs ++ ahead) h
          ∙ regrouped made (ends (suc (depth_at (rows_of steps) at) - depth_at (rows_of steps) k)) (beginning_shown rules (rows_of steps) k) ahead
          ∙ ap (λ e. made ++ ((ends (suc (depth_at (rows_of steps) at) - depth_at (rows_of steps) k) ++ beginning_shown rules (rows_of steps) k)
          ++ pass rules (rows_of steps) (depth_at (rows_of steps) n) (k + 1) (end - (k + 1)) e)) d
          ∙ ap (λ j. made ++ ((ends (suc (depth_at (rows_of steps) at) - depth_at (rows_of steps) k) ++ beginning_shown rules (rows_of steps) k)
          ++ pass rules (rows_of steps) (depth_at (rows_of steps) n) j (end - (k + 1)) (depth_behind (row_at (rows_of steps) k)))) (sym s)
          ∙ ap (λ j. made ++ pass rules (rows_of steps) (depth_at (rows_of steps) n) k j (depth_at (rows_of steps) at)) (sym c)
          ∙ r.rest;
    }

-- at the end row n is around, and what is still to come are ends
pub reached_around : (rules : List StripRule) (steps : List Step) (n at k end : ℕ) (front made : List ResultEvent) → Reached rules steps n at k end front made → IsAround (rows_of steps) at n
reached_around rules steps n at k end front made r = record {
  before = r.from;
  deeper = λ j a b. extent_deeper (rows_of steps) n j a (omega (arith, b, r.before, r.within, r.ends_at));
}

pub reached_at : (rules : List StripRule) (steps : List Step) (n at k end : ℕ) (front made : List ResultEvent) → Reached rules steps n at k end front made → IsJoined steps at
reached_at rules steps n at k end front made r = omega (arith, r.before, r.within, r.ends_at, extent_le (rows_of steps) n r.joined)

pub reached_end : (rules : List StripRule) (steps : List Step) (n at k end : ℕ) (front made : List ResultEvent) → Reached rules steps n at k end front made → end ≤ k
    → made ++ ends (depth_at (rows_of steps) at - depth_at (rows_of steps) n) ≡ front ++ whole_pass rules (rows_of steps) n end
reached_end rules steps n at k end front made r l =
    let z : end - k ≡ 0 = omega arith in
    ap (λ c. made ++ pass rules (rows_of steps) (depth_at (rows_of steps) n) k c (depth_at (rows_of steps) at)) (sym z) ∙ r.rest

-- the copy of a row that is shut, by its parts
pub copy_whole : (rules : List StripRule) (q : List Step) (n end : ℕ) (row : Row) (kind : Kind) (start begun inner made : List ResultEvent) → IsLawful q → IsJoined q n → start ≡ []
    → begun ≡ start ++ beginning row → row ≡ row_at (rows_of q) n
    → end ≡ extent_of (rows_of q) n → inner ≡ begun ++ whole_pass rules (rows_of q) n end → kind ≡ (row_at (rows_of q) n).kind → made ≡ inner ++ ending_as kind → made ≡ copy_in rules (rows_of q) n
copy_whole rules q n end row kind start begun inner made l j none first same e rest k last =
    last ∙ ap (λ xs. xs ++ ending_as kind) (rest ∙ ap (λ xs. xs ++ whole_pass rules (rows_of q) n end) (first ∙ ap (λ xs. xs ++ beginning row) none ∙ ap beginning same))
    ∙ ap (λ x. (beginning (row_at (rows_of q) n) ++ whole_pass rules (rows_of q) n end) ++ ending_as x) k
    ∙ ap (λ x. (beginning (row_at (rows_of q) n) ++ whole_pass rules (rows_of q) n x) ++ ending (row_at (rows_of q) n)) e
    ∙ sym (copy_is_pass rules q n l j)

-- a row that was open at a step of a call
pub was_open : (rules : List StripRule) (p q : List Step) (n : ℕ) → IsLawful q → IsJoined p n → AtStep p q (λ steps. is_open steps n ≡ true) → AtStep p q (λ steps. copy_of rules steps n ≡ Open n)
was_open rules p q n l j a = (a.0, a.1, a.2, open_copy rules a.0 n (lawful_before a.0 q a.2 l) (joined_grows p a.0 n a.1 j) a.3)
