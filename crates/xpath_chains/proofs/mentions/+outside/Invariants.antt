use Rattle.std.proofs.Common.{◌≡◌, ◌≤◌, take, false}
use Rattle.std.specs.List.{list_any}
use Rattle.xpath_syntax.proofs.expression.Expr.TheLaws.{the_size}
use Rattle.xpath_chains.specs.Mentions as spec
use Rattle.xpath_chains.proofs.mentions.+outside.Given as goal

-- what is left has a call where the whole has one
abbrev pub invariant-uses_last_outside_predicates-loop-at : goal.invariant-uses_last_outside_predicates-loop-at
invariant-uses_last_outside_predicates-loop-at l = (the_size l.at ≤ the_size l.fn.e) × (spec.last_outside l.at ≡ spec.last_outside l.fn.e)

abbrev pub invariant-any_uses_last-loop-one : goal.invariant-any_uses_last-loop-one
invariant-any_uses_last-loop-one l = list_any (λ e. spec.last_outside e) (take l.one-index l.one-items) ≡ false
