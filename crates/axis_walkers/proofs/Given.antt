-- What a stream of children gives.
use Rattle.std.proofs.Common.{◌≡◌, ℕ, suc, Bool, true, false, List, [], ◌∷◌, ◌++◌, length, Option, Some, None, refl, ap, sym, ◌∙◌, subst}
use Rattle.std.proofs.lemmas.Bool.{and_parts, and_from, not-false}
use Rattle.doc_model.specs.declared.row.Row.{Row}
use Rattle.doc_model.specs.declared.step.Step.{Step}
use Rattle.doc_model.specs.declared.strip_rule.StripRule.{StripRule}
use Rattle.doc_model.specs.Document.{is_open}
use Rattle.doc_model.specs.Lawful.{Grows, IsJoined}
use Rattle.doc_model.specs.Relations.{sibling_parent}
use Rattle.doc_model.specs.Rows.{rows_of}
use Rattle.doc_model.specs.Shown.{is_shown, shown_below, shown_of, first_shown, next_shown}
use Rattle.doc_model.specs.View.{Seen, Moves, is_settled}
use Rattle.doc_laws.proofs.Growth.{prefix_rows, joined_grows}
use Rattle.doc_laws.proofs.Kids.{child_decider}
use Rattle.doc_laws.proofs.Numbers.{one_more, first_none}
use Rattle.doc_laws.proofs.Visible.{shown_grows, shown_below_grows}
use Rattle.axis_walkers.specs.Streams.{given_to, StandsTo}
use Rattle.axis_walkers.proofs.Facts.{first_is, next_is, next_none_is}
use Rattle.axis_walkers.proofs.Walking.{filter_skip}

pub stands_moves : (rules : List StripRule) (p q : List Step) (n : ℕ) (o : Option ℕ) → Grows p q → StandsTo rules (rows_of p) n o → StandsTo rules (rows_of q) n o
stands_moves rules p q n None g s = tt
stands_moves rules p q n (Some k) g s = let r = prefix_rows p q g in (joined_grows p q k g s.0, ap (λ rows. is_shown rules rows n k) r.1 ∙ shown_grows rules (rows_of p) r.0 n k s.0 ∙ s.1)

pub first_given : (rules : List StripRule) (rows : List Row) (n k : ℕ) → first_shown rules rows n ≡ Some k → (given_to rules rows n (Some k) ≡ k ∷ []) × StandsTo rules rows n (Some k)
first_given rules rows n k h =
    let f : ℕ → Bool = is_shown rules rows n in
    let r = first_is rules rows n k h in
    let on = and_from _ _ r.visible r.child in
    (one_more f k on ∙ ap (λ xs. xs ++ k ∷ []) (filter_skip f 0 k r.above (λ i a b. r.gap i a b)), (r.within, on))

pub first_all : (rules : List StripRule) (rows : List Row) (n : ℕ) → first_shown rules rows n ≡ None → given_to rules rows n None ≡ shown_of rules rows n
first_all rules rows n h = sym (first_none (shown_of rules rows n) h)

pub next_given : (rules : List StripRule) (rows : List Row) (n k j : ℕ) → StandsTo rules rows n (Some k) → next_shown rules rows k ≡ Some j
    → (given_to rules rows n (Some j) ≡ given_to rules rows n (Some k) ++ j ∷ []) × StandsTo rules rows n (Some j)
next_given rules rows n k j s h =
    let f : ℕ → Bool = is_shown rules rows n in
    let r = next_is rules rows (Some n) k j s.0 (child_decider rows n k (and_parts _ _ s.1).1) h in
    let on = and_from _ _ r.visible r.child in
    (one_more f j on ∙ ap (λ xs. xs ++ j ∷ []) (filter_skip f (suc k) j r.above (λ i a b. r.gap i a b)), (r.within, on))

pub next_all : (rules : List StripRule) (rows : List Row) (n k : ℕ) → StandsTo rules rows n (Some k) → next_shown rules rows k ≡ None → given_to rules rows n (Some k) ≡ shown_of rules rows n
next_all rules rows n k s h =
    let f : ℕ → Bool = is_shown rules rows n in
    sym (filter_skip f (suc k) (length rows) s.0 (λ i a b. next_none_is rules rows (Some n) k s.0 (child_decider rows n k (and_parts _ _ s.1).1) h i a b))

pub next_decides : (rules : List StripRule) (p : List Step) (n k : ℕ) (b : Bool) → StandsTo rules (rows_of p) n (Some k) → is_settled p (sibling_parent (rows_of p) k) ≡ b → is_settled p (Some n) ≡ b
next_decides rules p n k b s h = ap (is_settled p) (sym (child_decider (rows_of p) n k (and_parts _ _ s.1).1)) ∙ h

-- what a stream stands at, at a later step
pub stands_later : {M : Type 0} (s t : Seen M) (n k : ℕ) (o : Option ℕ) → Moves s t → o ≡ Some k → StandsTo s.rules (rows_of s.steps) n o → StandsTo t.rules (rows_of t.steps) n (Some k)
stands_later s t n k o m e h =
    subst (λ rules. StandsTo rules (rows_of t.steps) n (Some k)) (sym m.rules_stay) (stands_moves s.rules s.steps t.steps n (Some k) m.grows (subst (λ x. StandsTo s.rules (rows_of s.steps) n x) e h))

pub stream_later : {M : Type 0} (s t : Seen M) (n : ℕ) (o : Option ℕ) → Moves s t → IsJoined s.steps n × StandsTo s.rules (rows_of s.steps) n o
    → IsJoined t.steps n × StandsTo t.rules (rows_of t.steps) n o
stream_later s t n o m h = (joined_grows s.steps t.steps n m.grows h.0, subst (λ rules. StandsTo rules (rows_of t.steps) n o) (sym m.rules_stay) (stands_moves s.rules s.steps t.steps n o m.grows h.1))

-- at a step of a call, under the rules of its end
pub next_all_at : {M : Type 0} (s t : Seen M) (p : List Step) (n k : ℕ) (o : Option ℕ) → Moves s t → o ≡ Some k → StandsTo s.rules (rows_of s.steps) n o → Grows s.steps p
    → (next_shown t.rules (rows_of p) k ≡ None) × (is_settled p (sibling_parent (rows_of p) k) ≡ false) → (given_to t.rules (rows_of p) n o ≡ shown_of t.rules (rows_of p) n) × (is_open p n ≡ true)
next_all_at s t p n k o m e h g w =
    let at = stands_moves t.rules s.steps p n (Some k) g (subst (λ rules. StandsTo rules (rows_of s.steps) n (Some k)) (sym m.rules_stay) (subst (λ x. StandsTo s.rules (rows_of s.steps) n x) e h)) in
    (ap (given_to t.rules (rows_of p) n) e ∙ next_all t.rules (rows_of p) n k at w.0, not-false (is_open p n) (next_decides t.rules p n k false at w.1))

pub given_stays : (rules : List StripRule) (p q : List Step) (n : ℕ) (o : Option ℕ) → Grows p q → StandsTo rules (rows_of p) n o → given_to rules (rows_of q) n o ≡ given_to rules (rows_of p) n o
given_stays rules p q n None g s = refl
given_stays rules p q n (Some k) g s = let r = prefix_rows p q g in ap (λ rows. shown_below rules rows n (suc k)) r.1 ∙ shown_below_grows rules (rows_of p) r.0 n (suc k) s.0
