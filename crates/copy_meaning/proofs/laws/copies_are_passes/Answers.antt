use Rattle.copy_meaning.proofs.Lasting.{copy_is_pass}
use Rattle.copy_meaning.proofs.laws.copies_are_passes.Goals as goal

pub returns : goal.returns
returns c = λ rules steps n l j. copy_is_pass rules steps n l j
