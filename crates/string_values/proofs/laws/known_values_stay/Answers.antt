use Rattle.string_values.proofs.Lasting.{value_lasts}
use Rattle.string_values.proofs.laws.known_values_stay.Goals as goal

pub returns : goal.returns
returns c = λ rules n. value_lasts rules n
