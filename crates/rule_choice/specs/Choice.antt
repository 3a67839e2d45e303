-- The template rule that a node has in a mode (XSLT 1.0, sections 2.6.2, 5.5 and 5.7).
use Rattle.std.specs.Prelude.{ℕ, suc, List, [], ◌∷◌, Bool, ◌==◌, if◌then◌else◌, filter, Option, Some, None, option_map}
use Rattle.std.specs.Ordering.{int_cmp, nat_cmp, ordering_then}
use Rattle.std.specs.declared.cmp.Ordering.{Ordering}
use Rattle.doc_model.specs.Answers.{Known}
use Rattle.sheet_ast.specs.declared.sheet.Rule.{Rule}
use Rattle.xpath_meaning.specs.Match.{match_path}
use Rattle.xpath_meaning.specs.Outcome.{Outcome, ◌>>=◌}
use Rattle.xpath_meaning.specs.Reading.{Reading}
use Rattle.rule_choice.specs.Sorting.{sorted_by}

-- a rule, and its place in the sheet. The alternatives of one pattern are rules of their own.
pub record Candidate : Type 0 where
  pub place : ℕ
  pub rule : Rule

-- the rules with their places, of which the first has this one
abbrev pub candidates_from : ℕ → List Rule → List Candidate
candidates_from place [] = []
candidates_from place (rule ∷ rules) = record { place = place; rule = rule } ∷ candidates_from (suc place) rules

-- what is tried first is less: the higher import precedence, of equals the higher priority, of equals the later in the sheet
abbrev pub trial_cmp : Candidate → Candidate → Ordering
trial_cmp a b = ordering_then (nat_cmp b.rule.precedence a.rule.precedence) (ordering_then (int_cmp b.rule.priority a.rule.priority) (nat_cmp b.place a.place))

abbrev pub is_of_mode : ℕ → Candidate → Bool
is_of_mode mode c = c.rule.mode == mode

-- the rules of a mode, in the order in which they are tried
unfoldable pub tried : List Rule → ℕ → List Candidate
tried rules mode = sorted_by trial_cmp (filter (is_of_mode mode) (candidates_from 0 rules))

-- the first item of which it holds: the items in order, up to that one
abbrev pub first_that : {A : Type 0} → (A → Outcome Bool) → List A → Outcome (Option A)
first_that holds [] = Known None
first_that holds (x ∷ xs) = holds x >>= λ here. if here then Known (Some x) else first_that holds xs

abbrev pub matches : Reading → ℕ → Candidate → Outcome Bool
matches R n c = match_path R c.rule.pattern n

-- The place of the rule whose template is that of node n in a mode: the first that is tried and matches; none, where no rule matches and the built-in rule is meant. A rule that is tried before and is open or has a fault is the answer.
abbrev pub choice_of : Reading → List Rule → ℕ → ℕ → Outcome (Option ℕ)
choice_of R rules mode n = first_that (matches R n) (tried rules mode) >>= λ found. Known (option_map (λ c. c.place) found)
