use Rattle.copy_meaning.proofs.Levels.{copy_made}
use Rattle.copy_meaning.proofs.laws.copies_are_made_of_copies.Goals as goal

pub returns : goal.returns
returns c = λ rules steps n l j. copy_made rules steps n l j
