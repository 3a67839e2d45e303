-- The first rule of the index that applies is the node's.
use Rattle.std.proofs.Common.{◌≡◌, refl, sym, ap, ◌∙◌, ℕ, ◌+◌, ◌<◌, ◌≤◌, List, [], ◌∷◌, length, get_or, drop, filter, Bool, true, false, cond, Option, Some, None}
use Rattle.std.specs.Prelude.{slice_get, option_map, ◌==◌}
use Rattle.std.proofs.lemmas.Bool.{eq-eqb}
use Rattle.doc_model.specs.Answers.{Known, Fault, Open, Stays}
use Rattle.key_sources.proofs.Saying.{Keeps}
use Rattle.sheet_ast.specs.declared.sheet.Rule.{Rule}
use Rattle.xpath_laws.proofs.Matching.{path_match_stays}
use Rattle.xpath_laws.proofs.Staying.{if_stays}
use Rattle.xpath_laws.specs.Sound.{Each}
use Rattle.xpath_meaning.specs.Match.{match_path}
use Rattle.xpath_meaning.specs.Outcome.{Outcome, ◌>>=◌}
use Rattle.xpath_meaning.specs.Reading.{Reading, Extends}
use Rattle.xpath_nodes.proofs.Turning.{rest_of, no_rest}
use Rattle.rule_choice.specs.Choice.{Candidate, tried, first_that, matches, choice_of}
use Rattle.engine_laws.proofs.Trials.{IsRule}
use Rattle.rule_index.specs.declared.index.RuleIndex.{RuleIndex}
use Rattle.rule_index.specs.Applying.{some_applies, applies, in_mode, some_of_mode}
use Rattle.rule_index.specs.Order.{IsIndexOf}
use Rattle.rule_index.proofs.Tried.{places, all_rules}

-- ---- items that are left out

abbrev after : {A : Type 0} → Outcome Bool → A → Outcome (Option A) → Outcome (Option A)
after here x rest = here >>= λ here. cond here (Known (Some x)) rest

-- those of which it is known not to hold may be left out
pub first_kept : (holds : ℕ → Outcome Bool) (keep : ℕ → Bool) (xs : List ℕ) → ((x : ℕ) → keep x ≡ false → holds x ≡ Known false) → first_that holds (filter keep xs) ≡ first_that holds xs
first_kept holds keep [] h = refl
first_kept holds keep (x ∷ xs) h = by_test (keep x) refl (first_kept holds keep xs h)
  where
    by_test : (b : Bool) → keep x ≡ b → first_that holds (filter keep xs) ≡ first_that holds xs → first_that holds (cond b (x ∷ filter keep xs) (filter keep xs)) ≡ first_that holds (x ∷ xs)
    by_test true e r = ap (after (holds x) x) r
    by_test false e r = r ∙ ap (λ here. after here x (first_that holds xs)) (sym (h x e))

-- ---- rules by their places

module _ (R : Reading) (rules : List Rule) (mode n : ℕ) where
  left_out : (place : ℕ) → in_mode rules mode place ≡ false → applies R rules mode n place ≡ Known false
  left_out place e = by (slice_get rules place) e
    where
      by : (o : Option Rule) → some_of_mode mode o ≡ false → some_applies R mode n o ≡ Known false
      by None f = refl
      by (Some rule) f = ap (λ b. cond b (match_path R rule.pattern n) (Known false)) f

  applies_is : (c : Candidate) → IsRule rules mode c → applies R rules mode n c.place ≡ matches R n c
  applies_is c r = ap (some_applies R mode n) r.there ∙ ap (λ b. cond b (match_path R c.rule.pattern n) (Known false)) (eq-eqb c.rule.mode mode r.of_mode)

  abbrev placed_of : Option Candidate → Outcome (Option ℕ)
  placed_of found = Known (option_map (λ (c : Candidate). c.place) found)

  first_placed : (cs : List Candidate) → Each (IsRule rules mode) cs → (first_that (matches R n) cs >>= placed_of) ≡ first_that (applies R rules mode n) (places rules mode cs)
  first_placed [] a = refl
  first_placed (c ∷ cs) a = by (matches R n c) (first_placed cs a.1) ∙ ap (λ here. after here c.place (first_that (applies R rules mode n) (places rules mode cs))) (sym (applies_is c a.0))
    where
      by : (o : Outcome Bool) → (first_that (matches R n) cs >>= placed_of) ≡ first_that (applies R rules mode n) (places rules mode cs)
          → ((o >>= λ here. cond here (Known (Some c)) (first_that (matches R n) cs)) >>= placed_of) ≡ after o c.place (first_that (applies R rules mode n) (places rules mode cs))
      by (Known true) r = refl
      by (Known false) r = r
      by (Fault x) r = refl
      by (Open m) r = refl

  pub choice_is : (index : RuleIndex) → IsIndexOf rules index → choice_of R rules mode n ≡ first_that (applies R rules mode n) index.order
  choice_is index i =
      first_placed (tried rules mode) (all_rules rules mode) ∙ ap (first_that (applies R rules mode n)) (sym (i mode))
      ∙ first_kept (applies R rules mode n) (in_mode rules mode) index.order left_out

-- ---- the loop over places

pub first_at : (holds : ℕ → Outcome Bool) (xs : List ℕ) (i : ℕ) → i < length xs
    → first_that holds (drop i xs) ≡ (holds (get_or xs i 0) >>= λ here. cond here (Known (Some (get_or xs i 0))) (first_that holds (drop (i + 1) xs)))
first_at holds xs i l = ap (first_that holds) (rest_of xs i 0 l)

pub first_end : (holds : ℕ → Outcome Bool) (xs : List ℕ) (i : ℕ) → length xs ≤ i → first_that holds (drop i xs) ≡ Known None
first_end holds xs i l = ap (first_that holds) (no_rest xs i l)

applied_stays : (R Q : Reading) → Extends R Q → (mode n : ℕ) (o : Option Rule) → Stays (some_applies R mode n o) (some_applies Q mode n o)
applied_stays R Q x mode n None = refl
applied_stays R Q x mode n (Some rule) = if_stays (rule.mode == mode) _ _ _ _ (path_match_stays R Q x rule.pattern n) refl

pub keeps_applies : (rules : List Rule) (mode n place : ℕ) → Keeps (λ R. applies R rules mode n place)
keeps_applies rules mode n place = record { stays = λ R Q x. applied_stays R Q x mode n (slice_get rules place) }
