use Rattle.doc_laws.proofs.Shuts.{shut_closed, closed_shut}
use Rattle.doc_laws.proofs.relations.shut_is_not_open.Goals as goal

pub returns : goal.returns
returns c = λ steps n l j. (λ h. shut_closed steps n l.each j h, λ h. closed_shut steps n l.each j h)
