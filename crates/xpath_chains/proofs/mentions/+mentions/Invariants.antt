use Rattle.std.proofs.Common.{◌≡◌, ◌≤◌, take, false}
use Rattle.std.specs.List.{list_any}
use Rattle.xpath_syntax.proofs.expression.Expr.TheLaws.{the_size}
use Rattle.xpath_chains.specs.Mentions as spec
use Rattle.xpath_chains.proofs.mentions.+mentions.Given as goal

-- what is left has a call where the whole has one
abbrev pub invariant-mentions-loop-at : goal.invariant-mentions-loop-at
invariant-mentions-loop-at l = (the_size l.at ≤ the_size l.fn.e) × (spec.mentions l.word l.at ≡ spec.mentions l.word l.fn.e)

abbrev pub invariant-any_mentions-loop-one : goal.invariant-any_mentions-loop-one
invariant-any_mentions-loop-one l = list_any (λ e. spec.mentions l.word e) (take l.one-index l.one-items) ≡ false

abbrev pub invariant-path_mentions-loop-step : goal.invariant-path_mentions-loop-step
invariant-path_mentions-loop-step l = list_any (λ s. spec.step_mentions l.word s) (take l.step-index l.step-items) ≡ false
