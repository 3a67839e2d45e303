use Rattle.copy_meaning.proofs.Lasting.{copy_lasts}
use Rattle.copy_meaning.proofs.laws.known_copies_stay.Goals as goal

pub returns : goal.returns
returns c = λ rules n. copy_lasts rules n
