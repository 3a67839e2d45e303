-- The places of rules in the order in which the rules are tried.
use Rattle.std.specs.Prelude.{◌≡◌, ℕ, ℤ, pos, List, filter, map, Option, Some, None, slice_get}
use Rattle.std.specs.Ordering.{int_cmp, nat_cmp, ordering_then}
use Rattle.std.specs.declared.cmp.Ordering.{Ordering}
use Rattle.sheet_ast.specs.declared.sheet.Rule.{Rule}
use Rattle.rule_choice.specs.Choice.{Candidate, tried}
use Rattle.rule_index.specs.Applying.{in_mode}
use Rattle.rule_index.specs.declared.index.RuleIndex.{RuleIndex}

abbrev pub precedence_of : Option Rule → ℕ
precedence_of None = 0
precedence_of (Some rule) = rule.precedence

abbrev pub priority_of : Option Rule → ℤ
priority_of None = pos 0
priority_of (Some rule) = rule.priority

-- of two places that of the higher priority comes first, of equals the later one
abbrev pub priority_at_cmp : List Rule → ℕ → ℕ → Ordering
priority_at_cmp rules a b = ordering_then (int_cmp (priority_of (slice_get rules b)) (priority_of (slice_get rules a))) (nat_cmp b a)

-- before that, that of the higher import precedence
abbrev pub trial_at : List Rule → ℕ → ℕ → Ordering
trial_at rules a b = ordering_then (nat_cmp (precedence_of (slice_get rules b)) (precedence_of (slice_get rules a))) (priority_at_cmp rules a b)

-- of each mode it has the places of the rules, in the order in which they are tried
abbrev pub IsIndexOf : List Rule → RuleIndex → Type 0
IsIndexOf rules index = (mode : ℕ) → filter (in_mode rules mode) index.order ≡ map (λ (c : Candidate). c.place) (tried rules mode)
