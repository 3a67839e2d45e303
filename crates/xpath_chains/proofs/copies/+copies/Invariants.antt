use Rattle.std.proofs.Common.{◌≡◌, ◌≤◌, take}
use Rattle.xpath_syntax.proofs.expression.Expr.TheLaws.{the_size}
use Rattle.xpath_chains.specs.Copies.{joined}
use Rattle.xpath_chains.proofs.copies.+copies.Given as goal

-- the operators passed over make the whole of what is left
abbrev pub invariant-copy-loop-at : goal.invariant-copy-loop-at
invariant-copy-loop-at l = (the_size l.at ≤ the_size l.fn.e) × (joined l.at l.above ≡ l.fn.e)

abbrev pub invariant-copy_all-loop-one : goal.invariant-copy_all-loop-one
invariant-copy_all-loop-one l = l.copies ≡ take l.one-index l.one-items

abbrev pub invariant-copy_steps-loop-step : goal.invariant-copy_steps-loop-step
invariant-copy_steps-loop-step l = l.copies ≡ take l.step-index l.step-items
