-- The rule that is chosen is the first that matches.
use Rattle.std.proofs.Common.{◌≡◌, refl, sym, ap, ◌∙◌, subst, ℕ, zero, suc, ◌<◌, ◌+◌, ℤ, ◌<ℤ◌, T, arith, Bool, true, false, cond, List, [], ◌∷◌, filter, Option, Some, None, inl, inr}
use Rattle.std.specs.Prelude.{slice_get, ◌==◌, option_map, int_lt}
use Rattle.std.specs.Cmp.{IsTotalOrder, partial_order_from_total, total, then_po, then_agrees, on_total, back_total}
use Rattle.std.specs.Ordering.{int_cmp, nat_cmp, ordering_then, ordering_reverse}
use Rattle.std.specs.declared.cmp.Ordering.{Ordering}
use Rattle.std.specs.declared.cmp.Ordering.TheVariants.{Less, Equal, Greater}
use Rattle.std.proofs.lemmas.Bool.{lt-ltb, eq-eqb, eqb-true}
use Rattle.std.proofs.lemmas.Cmp.{int_cmp_total, nat_cmp_total}
use Rattle.doc_model.specs.Answers.{Known, Fault, Open, and_then}
use Rattle.sheet_ast.specs.declared.sheet.Rule.{Rule}
use Rattle.xpath_meaning.specs.Outcome.{Outcome}
use Rattle.xpath_meaning.specs.Reading.{Reading}
use Rattle.xpath_laws.specs.Sound.{Each}
use Rattle.rule_choice.specs.Choice.{Candidate, candidates_from, trial_cmp, is_of_mode, tried, first_that, matches, choice_of}
use Rattle.engine_laws.specs.Rules.{StandsOver, IsChoice, IsBuiltIn}
use Rattle.engine_laws.proofs.Insertion.{NoneBefore, Ascends, each_sorted, of_sorted, not_before_itself, sorted_ascends}

pub then_total : {K : Type 0} {R S : K → K → Ordering} → IsTotalOrder R → IsTotalOrder S → IsTotalOrder (λ x y. ordering_then (R x y) (S x y))
then_total r s = total (then_po (partial_order_from_total r) (partial_order_from_total s)) (then_agrees (λ x y. refl) (λ x y. refl))

trial_total : IsTotalOrder trial_cmp
trial_total = then_total (back_total (on_total (λ (c : Candidate). c.rule.precedence) nat_cmp_total))
    (then_total (back_total (on_total (λ (c : Candidate). c.rule.priority) int_cmp_total)) (back_total (on_total (λ (c : Candidate). c.place) nat_cmp_total)))

abbrev candidate : ℕ → Rule → Candidate
candidate k rule = record { place = k; rule = rule }

-- ---- an order of trial in words

not_less : (o : Ordering) → o ≡ ordering_reverse o → o ≡ Equal
not_less Less e = cc
not_less Equal e = refl
not_less Greater e = cc

tied : {K : Type 0} (R : K → K → Ordering) → IsTotalOrder R → (x y : K) → x ≡ y → R x y ≡ Equal
tied R o x y e = subst (λ z. R x z ≡ Equal) e (not_less (R x x) (o.antisymm x x))

true_of : (b : Bool) → T b → b ≡ true
true_of true t = refl
true_of false t = absurd t

nat_less : (x y : ℕ) → x < y → nat_cmp x y ≡ Less
nat_less x y l = ap (λ b. cond b Less (cond (x == y) Equal Greater)) (lt-ltb x y l)

int_less : (x y : ℤ) → x <ℤ y → int_cmp x y ≡ Less
int_less x y l = ap (λ b. cond b Less (cond (int_lt y x) Greater Equal)) (true_of (int_lt x y) l.lt)

over_first : (j : ℕ) (a : Rule) (k : ℕ) (b : Rule) → StandsOver j a k b → trial_cmp (candidate j a) (candidate k b) ≡ Less
over_first j a k b (inl l) = ap (λ o. ordering_then o (ordering_then (int_cmp b.priority a.priority) (nat_cmp k j))) (nat_less b.precedence a.precedence l)
over_first j a k b (inr (e, inl l)) =
    ap (λ o. ordering_then o (ordering_then (int_cmp b.priority a.priority) (nat_cmp k j))) (tied nat_cmp nat_cmp_total b.precedence a.precedence e)
    ∙ ap (λ o. ordering_then o (nat_cmp k j)) (int_less b.priority a.priority l)
over_first j a k b (inr (e, inr (f, l))) =
    ap (λ o. ordering_then o (ordering_then (int_cmp b.priority a.priority) (nat_cmp k j))) (tied nat_cmp nat_cmp_total b.precedence a.precedence e)
    ∙ ap (λ o. ordering_then o (nat_cmp k j)) (tied int_cmp int_cmp_total b.priority a.priority f) ∙ nat_less k j l

-- ---- what all candidates have

module _ (P : Candidate → Type 0) (mode : ℕ) where
  kept : (c : Candidate) (cs : List Candidate) (b : Bool) → is_of_mode mode c ≡ b → (is_of_mode mode c ≡ true → P c) → Each P (filter (is_of_mode mode) cs)
      → Each P (cond b (c ∷ filter (is_of_mode mode) cs) (filter (is_of_mode mode) cs))
  kept c cs true e p a = (p e, a)
  kept c cs false e p a = a

  pub all_candidates : (at : ℕ) (rules : List Rule) → ((k : ℕ) (rule : Rule) → slice_get rules k ≡ Some rule → rule.mode ≡ mode → P (candidate (at + k) rule))
      → Each P (filter (is_of_mode mode) (candidates_from at rules))
  all_candidates at [] h = tt
  all_candidates at (rule ∷ rules) h =
      kept (candidate at rule) (candidates_from (suc at) rules) (is_of_mode mode (candidate at rule)) refl
      (λ m. subst (λ z. P (candidate z rule)) (omega arith) (h 0 rule refl (eqb-true rule.mode mode m)))
      (all_candidates (suc at) rules (λ k r e m. subst (λ z. P (candidate z r)) (omega arith) (h (suc k) r e m)))

  first_kept : (c : Candidate) (cs : List Candidate) (b : Bool) → is_of_mode mode c ≡ b → is_of_mode mode c ≡ true
      → Each P (cond b (c ∷ filter (is_of_mode mode) cs) (filter (is_of_mode mode) cs)) → P c
  first_kept c cs true e m a = a.0
  first_kept c cs false e m a = cc

  later_kept : (c : Candidate) (cs : List Candidate) (b : Bool) → Each P (cond b (c ∷ filter (is_of_mode mode) cs) (filter (is_of_mode mode) cs)) → Each P (filter (is_of_mode mode) cs)
  later_kept c cs true a = a.1
  later_kept c cs false a = a

  at_candidate : (at : ℕ) (rules : List Rule) → Each P (filter (is_of_mode mode) (candidates_from at rules)) → (k : ℕ) (rule : Rule) → slice_get rules k ≡ Some rule
      → rule.mode ≡ mode → P (candidate (at + k) rule)
  at_candidate at [] a k rule e m = cc
  at_candidate at (r ∷ rules) a zero rule e m =
      let same : r ≡ rule = cc in
      subst (λ z. P (candidate z rule)) (omega arith)
      (subst (λ (z : Rule). P (candidate at z)) same
      (first_kept (candidate at r) (candidates_from (suc at) rules) (is_of_mode mode (candidate at r)) refl (eq-eqb r.mode mode (ap (λ (z : Rule). z.mode) same ∙ m)) a))
  at_candidate at (r ∷ rules) a (suc k) rule e m =
      subst (λ z. P (candidate z rule)) (omega arith)
      (at_candidate (suc at) rules (later_kept (candidate at r) (candidates_from (suc at) rules) (is_of_mode mode (candidate at r)) a) k rule e m)

  pub each_tried : (rules : List Rule) → ((k : ℕ) (rule : Rule) → slice_get rules k ≡ Some rule → rule.mode ≡ mode → P (candidate k rule)) → Each P (tried rules mode)
  unfolding tried
  each_tried rules h = each_sorted trial_cmp P (filter (is_of_mode mode) (candidates_from 0 rules)) (all_candidates 0 rules (λ k r e m. subst (λ z. P (candidate z r)) (omega arith) (h k r e m)))

  at_tried : (rules : List Rule) → Each P (tried rules mode) → (k : ℕ) (rule : Rule) → slice_get rules k ≡ Some rule → rule.mode ≡ mode → P (candidate k rule)
  unfolding tried
  at_tried rules a k rule e m =
      subst (λ z. P (candidate z rule)) (omega arith) (at_candidate 0 rules (of_sorted trial_cmp P (filter (is_of_mode mode) (candidates_from 0 rules)) a) k rule e m)

tried_ascends : (rules : List Rule) (mode : ℕ) → Ascends trial_cmp (tried rules mode)
unfolding tried
tried_ascends rules mode = sorted_ascends trial_cmp trial_total (filter (is_of_mode mode) (candidates_from 0 rules))

-- ---- the first that matches

module _ (R : Reading) (n : ℕ) where
  -- what is found has what all have, and matches; and none that comes before it does
  record IsFirst (P : Candidate → Type 0) (cs : List Candidate) (c : Candidate) : Type 0 where
    has : P c
    holds : matches R n c ≡ Known true
    before : Each (λ (d : Candidate). trial_cmp d c ≡ Less → matches R n d ≡ Known false) cs

  vacuous : (c : Candidate) (cs : List Candidate) → NoneBefore trial_cmp c cs → Each (λ (d : Candidate). trial_cmp d c ≡ Less → matches R n d ≡ Known false) cs
  vacuous c [] a = tt
  vacuous c (d ∷ ds) a = ((λ l. absurd (a.0 l)), vacuous c ds a.1)

  -- what is answered of the first, and of those behind it
  abbrev answered : Outcome Bool → Candidate → List Candidate → Outcome (Option Candidate)
  answered o d ds = and_then o (λ here. cond here (Known (Some d)) (first_that (matches R n) ds))

  first_by : (P : Candidate → Type 0) (d : Candidate) (ds : List Candidate) (c : Candidate) (o : Outcome Bool) → matches R n d ≡ o → NoneBefore trial_cmp d ds → P d
      → answered o d ds ≡ Known (Some c) → (first_that (matches R n) ds ≡ Known (Some c) → IsFirst P ds c)
      → IsFirst P (d ∷ ds) c
  first_by P d ds c (Known true) m s p f h =
      let same : d ≡ c = cc in
      subst (λ z. IsFirst P (d ∷ ds) z) same (record { has = p; holds = m; before = ((λ l. absurd (not_before_itself trial_cmp trial_total d l)), vacuous d ds s) })
  first_by P d ds c (Known false) m s p f h = let r = h f in record { has = r.has; holds = r.holds; before = ((λ l. m), r.before) }
  first_by P d ds c (Fault x) m s p f h = cc
  first_by P d ds c (Open x) m s p f h = cc

  first_of_all : (P : Candidate → Type 0) (cs : List Candidate) (c : Candidate) → Ascends trial_cmp cs → Each P cs → first_that (matches R n) cs ≡ Known (Some c) → IsFirst P cs c
  first_of_all P [] c s a e = cc
  first_of_all P (d ∷ ds) c s a e = first_by P d ds c (matches R n d) refl s.0 a.0 e (first_of_all P ds c s.1 a.1)

  none_in : (d : Candidate) (ds : List Candidate) (o : Outcome Bool) → matches R n d ≡ o → answered o d ds ≡ Known None
      → (first_that (matches R n) ds ≡ Known None → Each (λ (d : Candidate). matches R n d ≡ Known false) ds) → Each (λ (d : Candidate). matches R n d ≡ Known false) (d ∷ ds)
  none_in d ds (Known true) m f h = cc
  none_in d ds (Known false) m f h = (m, h f)
  none_in d ds (Fault x) m f h = cc
  none_in d ds (Open x) m f h = cc

  none_of_all : (cs : List Candidate) → first_that (matches R n) cs ≡ Known None → Each (λ (d : Candidate). matches R n d ≡ Known false) cs
  none_of_all [] e = tt
  none_of_all (d ∷ ds) e = none_in d ds (matches R n d) refl e (none_of_all ds)

-- a candidate is a rule of the mode at its place
pub record IsRule (rules : List Rule) (mode : ℕ) (c : Candidate) : Type 0 where
  pub there : slice_get rules c.place ≡ Some c.rule
  pub of_mode : c.rule.mode ≡ mode

found_by : (o : Outcome (Option Candidate)) (place : ℕ) → and_then o (λ found. Known (option_map (λ (c : Candidate). c.place) found)) ≡ Known (Some place)
    → (c : Candidate) × (o ≡ Known (Some c)) × (c.place ≡ place)
found_by (Known None) place e = cc
found_by (Known (Some c)) place e = (c, refl, cc)
found_by (Fault x) place e = cc
found_by (Open x) place e = cc

none_by : (o : Outcome (Option Candidate)) → and_then o (λ found. Known (option_map (λ (c : Candidate). c.place) found)) ≡ Known None → o ≡ Known None
none_by (Known None) e = refl
none_by (Known (Some c)) e = cc
none_by (Fault x) e = cc
none_by (Open x) e = cc

pub chosen_first : (R : Reading) (rules : List Rule) (mode n place : ℕ) → choice_of R rules mode n ≡ Known (Some place) → IsChoice R rules mode n place
chosen_first R rules mode n place e =
    let f = found_by (first_that (matches R n) (tried rules mode)) place e in
    let w = first_of_all R n (IsRule rules mode) (tried rules mode) (f.0) (tried_ascends rules mode)
    (each_tried (IsRule rules mode) mode rules (λ k rule i m. record { there = i; of_mode = m })) f.1 in
    record {
      rule = f.0.rule;
      there = subst (λ z. slice_get rules z ≡ Some f.0.rule) f.2 w.has.there;
      of_mode = w.has.of_mode;
      matches = w.holds;
      over = λ k other i m s. at_tried (λ (d : Candidate). trial_cmp d (f.0) ≡ Less → matches R n d ≡ Known false) mode rules w.before k other i m
          (subst (λ z. trial_cmp (candidate k other) (candidate z f.0.rule) ≡ Less) (sym f.2) (over_first k other place f.0.rule s));
    }

pub none_chosen : (R : Reading) (rules : List Rule) (mode n : ℕ) → choice_of R rules mode n ≡ Known None → IsBuiltIn R rules mode n
none_chosen R rules mode n e = record {
  none = λ k rule i m. at_tried (λ (d : Candidate). matches R n d ≡ Known false) mode rules (none_of_all R n (tried rules mode) (none_by (first_that (matches R n) (tried rules mode)) e)) k rule i m;
}
