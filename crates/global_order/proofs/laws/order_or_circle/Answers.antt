use Rattle.global_order.proofs.Uniqueness.{no_circle}
use Rattle.global_order.proofs.laws.order_or_circle.Goals as goal

pub returns : goal.returns
returns c = λ nodes order g o i. no_circle nodes order g o i
