-- A turn of the walks over hidden siblings: a call for the link, and a judgement.
use Rattle.std.proofs.Common.{◌≡◌, ℕ, ◌<◌, Bool, true, false, List, [], Option, Some, None, ap, sym, ◌∙◌, subst, arith}
use Rattle.doc_model.specs.declared.look.Look.{Look}
use Rattle.doc_model.specs.declared.look.Look.TheVariants.{Node, Nothing, NotYet}
use Rattle.doc_model.specs.declared.step.Step.{Step}
use Rattle.doc_model.specs.declared.strip_rule.StripRule.{StripRule}
use Rattle.doc_model.specs.Lawful.{IsLawful, Grows, IsJoined, AtStep}
use Rattle.doc_model.specs.Relations.{sibling_parent}
use Rattle.doc_model.specs.Rows.{rows_of}
use Rattle.doc_model.specs.Strip.{is_visible}
use Rattle.doc_model.specs.Shown.{first_shown, next_shown, prev_shown}
use Rattle.doc_model.specs.View.{Seen, Moves, is_settled}
use Rattle.doc_laws.proofs.Growth.{joined_grows, Grows-trans}
use Rattle.doc_laws.proofs.Root.{lawful_before}
use Rattle.doc_laws.proofs.Staying.{data_stay, links_stay}
use Rattle.strip_rules.specs.Stripped.{IsFirstUnder, IsNextUnder}
use Rattle.strip_rules.proofs.Earlier.{Returns, prev_kid, returns_later, returns_on, returns_found, returns_end}
use Rattle.strip_rules.proofs.Later.{visible_later}
use Rattle.strip_rules.proofs.Passing.{Passes, next_kid, passes_later, passes_on, passes_found, passes_end, passes_not_yet, first_kid, first_found, first_hidden, first_none_left}

module _ {M : Type 0} (rules : List StripRule) (r s t : Seen M) (n at : ℕ) (so_far : Moves r s) (plain : r.rules ≡ []) (passes : Passes rules (rows_of s.steps) n at) (moves : Moves s t) where
  no_rules : t.rules ≡ []
  no_rules = moves.rules_stay ∙ so_far.rules_stay ∙ plain

  here : Passes rules (rows_of t.steps) n at
  here = passes_later rules s.steps t.steps n at moves.grows passes

  bare : (o : Option ℕ) → next_shown t.rules (rows_of t.steps) at ≡ o → next_shown [] (rows_of t.steps) at ≡ o
  bare o h = ap (λ rs. next_shown rs (rows_of t.steps) at) (sym no_rules) ∙ h

  pub skip_within : (k : ℕ) → next_shown t.rules (rows_of t.steps) at ≡ Some k → IsJoined t.steps k
  skip_within k h = (next_kid (rows_of t.steps) at k here.within (bare (Some k) h)).1.within

  seen_before : (u : Seen M) (k : ℕ) (b : Bool) → Moves t u → IsJoined t.steps k → b ≡ is_visible rules (rows_of u.steps) k → is_visible rules (rows_of t.steps) k ≡ b
  seen_before u k b m j v = sym (v ∙ visible_later rules t.steps u.steps k m.grows j)

  pub skip_found : (u : Seen M) (k : ℕ) → Moves t u → next_shown t.rules (rows_of t.steps) at ≡ Some k → true ≡ is_visible rules (rows_of u.steps) k → next_shown rules (rows_of u.steps) n ≡ Some k
  skip_found u k m h v =
      let w : IsJoined t.steps n = omega (arith, here.within, here.order) in
      (links_stay rules t.steps u.steps n m.grows m.seen.lawful w).next.node k (passes_found rules (rows_of t.steps) n at k here (bare (Some k) h) (seen_before u k true m (skip_within k h) v))

  pub skip_on : (u : Seen M) (k : ℕ) → Moves t u → next_shown t.rules (rows_of t.steps) at ≡ Some k → false ≡ is_visible rules (rows_of u.steps) k → Passes rules (rows_of u.steps) n k × (at < k)
  skip_on u k m h v =
      let on = passes_on rules (rows_of t.steps) n at k here (bare (Some k) h) (seen_before u k false m (skip_within k h) v) in
      (passes_later rules t.steps u.steps n k m.grows on.0, on.1)

  pub skip_end : next_shown t.rules (rows_of t.steps) at ≡ None → is_settled t.steps (sibling_parent (rows_of t.steps) at) ≡ true
      → (next_shown rules (rows_of t.steps) n ≡ None) × (is_settled t.steps (sibling_parent (rows_of t.steps) n) ≡ true)
  skip_end h e = (passes_end rules (rows_of t.steps) n at here (bare None h), ap (is_settled t.steps) (sym here.parent) ∙ e)

  pub skip_not_yet : AtStep s.steps t.steps (λ p. (next_shown t.rules (rows_of p) at ≡ None) × (is_settled p (sibling_parent (rows_of p) at) ≡ false))
      → AtStep r.steps t.steps (λ p. (next_shown rules (rows_of p) n ≡ None) × (is_settled p (sibling_parent (rows_of p) n) ≡ false))
  skip_not_yet a = passes_not_yet rules r.steps s.steps t.steps n at so_far.grows passes
      (subst (λ rs. AtStep s.steps t.steps (λ p. (next_shown rs (rows_of p) at ≡ None) × (is_settled p (sibling_parent (rows_of p) at) ≡ false))) no_rules a)

module _ {M : Type 0} (rules : List StripRule) (r s t : Seen M) (n at : ℕ) (so_far : Moves r s) (plain : r.rules ≡ []) (returning : Returns rules (rows_of s.steps) n at) (moves : Moves s t) where
  none_there : t.rules ≡ []
  none_there = moves.rules_stay ∙ so_far.rules_stay ∙ plain

  there : Returns rules (rows_of t.steps) n at
  there = returns_later rules s.steps t.steps n at moves.grows returning

  prev_bare : (o : Option ℕ) → prev_shown t.rules (rows_of t.steps) at ≡ o → prev_shown [] (rows_of t.steps) at ≡ o
  prev_bare o h = ap (λ rs. prev_shown rs (rows_of t.steps) at) (sym none_there) ∙ h

  pub back_within : (k : ℕ) → prev_shown t.rules (rows_of t.steps) at ≡ Some k → IsJoined t.steps k
  back_within k h = let p = prev_kid (rows_of t.steps) at k (prev_bare (Some k) h) in omega (arith, p.1.under, there.order, there.within)

  seen_there : (u : Seen M) (k : ℕ) (b : Bool) → Moves t u → IsJoined t.steps k → b ≡ is_visible rules (rows_of u.steps) k → is_visible rules (rows_of t.steps) k ≡ b
  seen_there u k b m j v = sym (v ∙ visible_later rules t.steps u.steps k m.grows j)

  pub back_found : (u : Seen M) (k : ℕ) → Moves t u → prev_shown t.rules (rows_of t.steps) at ≡ Some k → true ≡ is_visible rules (rows_of u.steps) k → prev_shown rules (rows_of u.steps) n ≡ Some k
  back_found u k m h v =
      (data_stay rules t.steps u.steps n m.grows m.seen.lawful there.within).prev
      ∙ returns_found rules (rows_of t.steps) n at k there (prev_bare (Some k) h) (seen_there u k true m (back_within k h) v)

  pub back_on : (u : Seen M) (k : ℕ) → Moves t u → prev_shown t.rules (rows_of t.steps) at ≡ Some k → false ≡ is_visible rules (rows_of u.steps) k → Returns rules (rows_of u.steps) n k × (k < at)
  back_on u k m h v =
      let on = returns_on rules (rows_of t.steps) n at k there (prev_bare (Some k) h) (seen_there u k false m (back_within k h) v) in
      (returns_later rules t.steps u.steps n k m.grows on.0, on.1)

  pub back_end : prev_shown t.rules (rows_of t.steps) at ≡ None → prev_shown rules (rows_of t.steps) n ≡ None
  back_end h = returns_end rules (rows_of t.steps) n at there (prev_bare None h)

-- the first child is there
pub enter_joined : {M : Type 0} (rules : List StripRule) (s t : Seen M) (n k : ℕ) → s.rules ≡ [] → Moves s t → first_shown t.rules (rows_of t.steps) n ≡ Some k → IsJoined t.steps k
enter_joined rules s t n k plain moves h = (first_kid (rows_of t.steps) n k (ap (λ rs. first_shown rs (rows_of t.steps) n) (sym (moves.rules_stay ∙ plain)) ∙ h)).within

-- the call for the first child, and a judgement
module _ {M : Type 0} (rules : List StripRule) (s t u : Seen M) (n k : ℕ) (plain : s.rules ≡ []) (joined : IsJoined s.steps n) (moves : Moves s t) (judged : Moves t u) where
  bare_first : (o : Option ℕ) (p : List Step) → first_shown t.rules (rows_of p) n ≡ o → first_shown [] (rows_of p) n ≡ o
  bare_first o p h = ap (λ rs. first_shown rs (rows_of p) n) (sym (moves.rules_stay ∙ plain)) ∙ h

  enter_within : first_shown t.rules (rows_of t.steps) n ≡ Some k → IsJoined t.steps k
  enter_within h = enter_joined rules s t n k plain moves h

  here_is : (b : Bool) → first_shown t.rules (rows_of t.steps) n ≡ Some k → b ≡ is_visible rules (rows_of u.steps) k → is_visible rules (rows_of t.steps) k ≡ b
  here_is b h v = sym (v ∙ visible_later rules t.steps u.steps k judged.grows (enter_within h))

  pub enter_found : first_shown t.rules (rows_of t.steps) n ≡ Some k → true ≡ is_visible rules (rows_of u.steps) k → first_shown rules (rows_of u.steps) n ≡ Some k
  enter_found h v =
      (links_stay rules t.steps u.steps n judged.grows judged.seen.lawful (joined_grows s.steps t.steps n moves.grows joined)).first.node k
      (first_found rules (rows_of t.steps) n k (bare_first (Some k) t.steps h) (here_is true h v))

  -- the first child is hidden, on all later steps
  pub enter_on : first_shown t.rules (rows_of t.steps) n ≡ Some k → false ≡ is_visible rules (rows_of u.steps) k → (p : List Step) → Grows t.steps p → IsLawful p
      → (first_shown rules (rows_of p) n ≡ next_shown rules (rows_of p) k) × (sibling_parent (rows_of p) k ≡ Some n)
  enter_on h v p g l =
      let kept = (links_stay [] t.steps p n g l (joined_grows s.steps t.steps n moves.grows joined)).first.node k (bare_first (Some k) t.steps h) in
      first_hidden rules (rows_of p) n k kept (visible_later rules t.steps p k g (enter_within h) ∙ here_is false h v)

pub enter_nothing : {M : Type 0} (rules : List StripRule) (s t : Seen M) (n : ℕ) → s.rules ≡ [] → Moves s t → (p : List Step) → first_shown t.rules (rows_of p) n ≡ None
    → first_shown rules (rows_of p) n ≡ None
enter_nothing rules s t n plain moves p h = first_none_left rules (rows_of p) n (ap (λ rs. first_shown rs (rows_of p) n) (sym (moves.rules_stay ∙ plain)) ∙ h)

-- what the walk from the hidden first child answers is answered of the first child
pub enter_is : {M : Type 0} (rules : List StripRule) (s t u v : Seen M) (n k : ℕ) (look : Look) → s.rules ≡ [] → IsJoined s.steps n → Moves s t → Moves t u → Moves u v
    → first_shown t.rules (rows_of t.steps) n ≡ Some k → false ≡ is_visible rules (rows_of u.steps) k → IsNextUnder rules u.steps v.steps k look → IsFirstUnder rules s.steps v.steps n look
enter_is rules s t u v n k (Node j) plain joined moves judged walked h hidden is =
    (enter_on rules s t u n k plain joined moves judged h hidden v.steps (Grows-trans t.steps u.steps v.steps judged.grows walked.grows) walked.seen.lawful).0 ∙ is
enter_is rules s t u v n k Nothing plain joined moves judged walked h hidden is =
    let e = enter_on rules s t u n k plain joined moves judged h hidden v.steps (Grows-trans t.steps u.steps v.steps judged.grows walked.grows) walked.seen.lawful in
    (e.0 ∙ is.0, sym (ap (is_settled v.steps) e.1) ∙ is.1)
enter_is rules s t u v n k NotYet plain joined moves judged walked h hidden is =
    let e = enter_on rules s t u n k plain joined moves judged h hidden (is.0) (Grows-trans t.steps u.steps (is.0) judged.grows is.1) (lawful_before (is.0) v.steps is.2 walked.seen.lawful) in
    (is.0, Grows-trans s.steps u.steps (is.0) (Grows-trans s.steps t.steps u.steps moves.grows judged.grows) is.1, is.2, (e.0 ∙ is.3.0, sym (ap (is_settled (is.0)) e.1) ∙ is.3.1))
