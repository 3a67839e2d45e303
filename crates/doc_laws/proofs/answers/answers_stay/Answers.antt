use Rattle.doc_laws.proofs.Staying.{data_stay, links_stay}
use Rattle.doc_laws.proofs.answers.answers_stay.Goals as goal

pub returns-clause-data : goal.returns-clause-data
returns-clause-data c = λ rules before later n g l j. data_stay rules before later n g l j

pub returns-clause-links : goal.returns-clause-links
returns-clause-links c = λ rules before later n g l j. links_stay rules before later n g l j
