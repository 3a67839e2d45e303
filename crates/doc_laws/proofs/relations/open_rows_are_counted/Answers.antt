use Rattle.doc_laws.proofs.Opens.{opened_count}
use Rattle.doc_laws.proofs.relations.open_rows_are_counted.Goals as goal

pub returns : goal.returns
returns c = λ steps l e. opened_count steps l.each e
