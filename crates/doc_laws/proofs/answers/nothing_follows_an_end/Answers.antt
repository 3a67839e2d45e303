use Rattle.doc_laws.proofs.Still.{ended_stays}
use Rattle.doc_laws.proofs.answers.nothing_follows_an_end.Goals as goal

pub returns : goal.returns
returns c = λ before later verdict g l e. ended_stays before later verdict g l e
