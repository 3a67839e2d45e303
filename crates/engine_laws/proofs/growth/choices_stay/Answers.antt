use Rattle.engine_laws.proofs.Choosing.{choice_stays}
use Rattle.engine_laws.proofs.growth.choices_stay.Goals as goal

pub returns : goal.returns
returns c = λ before later rules mode n x. choice_stays before later x rules mode n
