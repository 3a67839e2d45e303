use Rattle.strip_rules.proofs.Deciding.{keeps_is}
use Rattle.strip_rules.proofs.laws.nearest_space_decides.Goals as goal

pub returns : goal.returns
returns c = λ rows k. keeps_is rows k
