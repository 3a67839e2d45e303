use Rattle.frame_meaning.proofs.Lasting.{rest_lasts}
use Rattle.frame_meaning.proofs.laws.what_is_left_goes_on.Goals as goal

pub returns-clause-later : goal.returns-clause-later
returns-clause-later c = λ sheet before later frames h s x. (rest_lasts sheet before later x frames h).later s

pub returns-clause-adds : goal.returns-clause-adds
returns-clause-adds c = λ sheet before later frames h s x. (rest_lasts sheet before later x frames h).adds s
