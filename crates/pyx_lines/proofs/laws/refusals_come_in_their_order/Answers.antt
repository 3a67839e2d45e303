use Rattle.pyx_lines.proofs.Refused.{refused, refuses}
use Rattle.pyx_lines.proofs.laws.refusals_come_in_their_order.Goals as goal

pub returns : goal.returns
returns c = λ bytes error. (refused bytes error, refuses bytes error)
