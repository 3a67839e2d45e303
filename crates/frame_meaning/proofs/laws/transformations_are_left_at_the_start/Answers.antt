use Rattle.frame_meaning.proofs.Lasting.{meaning_starts}
use Rattle.frame_meaning.proofs.laws.transformations_are_left_at_the_start.Goals as goal

pub returns : goal.returns
returns c = λ sheet order id steps budget. meaning_starts sheet order id steps budget
