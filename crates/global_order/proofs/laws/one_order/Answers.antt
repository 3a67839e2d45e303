use Rattle.global_order.proofs.Uniqueness.{same_order}
use Rattle.global_order.proofs.laws.one_order.Goals as goal

pub returns : goal.returns
returns c = λ nodes order other o p. same_order nodes order other o p
