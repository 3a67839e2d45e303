use Rattle.std.proofs.Common.{arith}
use Rattle.sheet_values.proofs.Numbers.{one_too_many}
use Rattle.sheet_values.proofs.priority.number_behind.Goals as goal

pub returns-then-number-gt-MOST-clause-number : goal.returns-then-number-gt-MOST-clause-number
returns-then-number-gt-MOST-clause-number c =
    one_too_many c.loop-digit.number c.args.first c.loop-digit.digit-index c.args.digits.now (omega arith) c.loop-digit.invariant.1
    (omega (arith, c.if-number-gt-MOST.true, c.from.ensures, c.saturating_sub.ensures))
