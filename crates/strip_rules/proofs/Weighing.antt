-- Import precedence and rank compared as one number.
use Rattle.std.proofs.Common.{◌≡◌, ℕ, ◌+◌, ◌*◌, ◌≤◌, ◌&&◌, ◌||◌, leb, ltb, eqb, List, Option, Some, None, ap, sym, ◌∙◌, arith, inl, inr}
use Rattle.std.proofs.lemmas.Bool.{cases_lt, cases_eq, lt-ltb, le-ltb, lt-leb, le-leb, eq-eqb, ne_eqb}
use Rattle.doc_model.specs.declared.strip_rule.StripRule.{StripRule}
use Rattle.doc_model.specs.Strip.{outranks, part_count, rank}
use Rattle.strip_rules.specs.Deciding.{weight}

part_small : (part : Option (List ℕ)) → part_count part ≤ 1
part_small None = omega arith
part_small (Some part) = omega arith

rank_small : (rule : StripRule) → rank rule ≤ 2
rank_small rule = let u = part_small rule.uri in let l = part_small rule.local in omega (arith, u, l)

-- a, p and b, q are the precedence and the rank of the rule that stands later and of the best before
weighed : (a p b q : ℕ) → p ≤ 2 → q ≤ 2 → (ltb b a || (eqb b a && leb q p)) ≡ leb (3 * b + q) (3 * a + p)
weighed a p b q small less = elim (cases_lt b a) [
  | inl above ↦
      ap (λ c. c || (eqb b a && leb q p)) (lt-ltb b a above) ∙ sym (le-leb (3 * b + q) (3 * a + p) (omega (arith, above, small, less)))
  | inr not_above ↦
      ap (λ c. c || (eqb b a && leb q p)) (le-ltb b a not_above)
      ∙ elim (cases_eq b a) [
        | inl same ↦
            ap (λ c. c && leb q p) (eq-eqb b a same)
            ∙ elim (cases_lt p q) [
              | inl lower ↦ lt-leb q p lower ∙ sym (lt-leb (3 * b + q) (3 * a + p) (omega (arith, same, lower)))
              | inr higher ↦ le-leb q p higher ∙ sym (le-leb (3 * b + q) (3 * a + p) (omega (arith, same, higher)))
            ]
        | inr other ↦
            ap (λ c. c && leb q p) (ne_eqb b a other) ∙ sym (lt-leb (3 * b + q) (3 * a + p) (omega (arith, not_above, other, small, less)))
      ]
]

pub outranks_is : (rule best : StripRule) → outranks rule best ≡ leb (weight best) (weight rule)
outranks_is rule best = weighed rule.precedence (rank rule) best.precedence (rank best) (rank_small rule) (rank_small best)
