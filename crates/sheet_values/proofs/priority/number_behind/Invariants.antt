use Rattle.std.proofs.Common.{◌≡◌, ◌≤◌, drop}
use Rattle.sheet_values.specs.Priorities.{number_behind}
use Rattle.sheet_values.proofs.priority.number_behind.Given as goal

abbrev pub invariant-loop-digit : goal.invariant-loop-digit
invariant-loop-digit l = (l.number ≤ 100000000) × (number_behind l.number (drop l.digit-index l.digits) ≡ number_behind l.first l.digits)
