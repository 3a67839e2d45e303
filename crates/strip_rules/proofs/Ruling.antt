-- Which rule decides of an element's name.
use Rattle.std.proofs.Common.{◌≡◌, ℕ, zero, suc, ◌+◌, ◌<◌, ◌≤◌, Bool, true, false, cond, ◌&&◌, leb, List, [], ◌∷◌, length, Option, Some, None, drop, get_or, refl, ap, sym, ◌∙◌, subst, arith}
use Rattle.std.proofs.lemmas.Bool.{and_parts, and_right, lt-leb, le-leb}
use Rattle.std.proofs.lemmas.List.{drop_more, drop_all}
use Rattle.doc_model.specs.declared.row.Row.{Row}
use Rattle.doc_model.specs.declared.strip_rule.StripRule.{StripRule}
use Rattle.doc_model.specs.Strip.{is_spelled, all_spelled, says_strip, best_from, rule_fits, holds_over}
use Rattle.strip_rules.proofs.Weighing.{outranks_is}
use Rattle.strip_rules.specs.Deciding.{weight}

abbrev pub weight_of : Option StripRule → ℕ
weight_of None = 0
weight_of (Some rule) = weight rule

-- the first rules were judged, and this is what the best of them says, and its weight
pub record Ruled (rules : List StripRule) (row : Row) (i : ℕ) (strip : Bool) (best : ℕ) : Type 0 where
  pub chosen : Option StripRule
  pub says : says_strip chosen ≡ strip
  pub weights : weight_of chosen ≡ best
  pub left : best_from chosen (drop i rules) row ≡ best_from None rules row

pub ruled_first : (rules : List StripRule) (element : Row) → Ruled rules element 0 false 0
ruled_first rules row = record { chosen = None; says = refl; weights = refl; left = refl }

over : (rule : StripRule) (o : Option StripRule) → holds_over rule o ≡ leb (weight_of o) (weight rule)
over rule None = sym (le-leb 0 (weight rule) (omega arith))
over rule (Some best) = outranks_is rule best

module _ (rules : List StripRule) (row : Row) (i : ℕ) (strip : Bool) (best : ℕ) (rule : StripRule) (l : i < length rules) (e : get_or rules i rule ≡ rule) (j : Ruled rules row i strip best) where
  cut : drop i rules ≡ rule ∷ drop (i + 1) rules
  cut = drop_more rules i rule l ∙ ap (λ x. x ∷ drop (i + 1) rules) e

  left : best_from (cond (rule_fits rule row && holds_over rule j.chosen) (Some rule) j.chosen) (drop (i + 1) rules) row ≡ best_from None rules row
  left = sym (ap (λ xs. best_from j.chosen xs row) cut) ∙ j.left

  passed : (rule_fits rule row && holds_over rule j.chosen) ≡ false → Ruled rules row (i + 1) strip best
  passed z = record { chosen = j.chosen; says = j.says; weights = j.weights; left = sym (ap (λ b. best_from (cond b (Some rule) j.chosen) (drop (i + 1) rules) row) z) ∙ left }

  -- a rule of lower weight
  pub ruled_lower : weight rule < best → Ruled rules row (i + 1) strip best
  ruled_lower h = passed (and_right (rule_fits rule row) (holds_over rule j.chosen) (over rule j.chosen ∙ lt-leb (weight_of j.chosen) (weight rule) (omega (arith, h, j.weights))))

  -- a rule of other names
  pub ruled_other : rule_fits rule row ≡ false → Ruled rules row (i + 1) strip best
  ruled_other h = passed (ap (λ b. b && holds_over rule j.chosen) h)

  -- a rule that holds over those before
  pub ruled_better : rule_fits rule row ≡ true → best ≤ weight rule → Ruled rules row (i + 1) rule.strip (weight rule)
  ruled_better f h =
      let z : (rule_fits rule row && holds_over rule j.chosen) ≡ true =
      ap (λ b. b && holds_over rule j.chosen) f ∙ over rule j.chosen ∙ le-leb (weight_of j.chosen) (weight rule) (omega (arith, h, j.weights)) in
      record { chosen = Some rule; says = refl; weights = refl; left = sym (ap (λ b. best_from (cond b (Some rule) j.chosen) (drop (i + 1) rules) row) z) ∙ left }

pub ruled_end : (rules : List StripRule) (row : Row) (i : ℕ) (strip : Bool) (best : ℕ) → i ≡ length rules → Ruled rules row i strip best → strip ≡ says_strip (best_from None rules row)
ruled_end rules row i strip best e j = sym j.says ∙ ap says_strip (sym (ap (λ xs. best_from j.chosen xs row) (drop_all i rules (omega arith))) ∙ j.left)

pub ruled_row : (rules : List StripRule) (a b : Row) (i : ℕ) (strip : Bool) (best : ℕ) → b ≡ a → Ruled rules a i strip best → Ruled rules b i strip best
ruled_row rules a b i strip best e j = subst (λ x. Ruled rules x i strip best) (sym e) j

pub spelled_at : (rules : List StripRule) (i : ℕ) (d : StripRule) → all_spelled rules ≡ true → i < length rules → is_spelled (get_or rules i d) ≡ true
spelled_at [] i d h l = absurd (omega arith)
spelled_at (rule ∷ rules) zero d h l = (and_parts _ _ h).0
spelled_at (rule ∷ rules) (suc i) d h l = spelled_at rules i d (and_parts _ _ h).1 (omega arith)
