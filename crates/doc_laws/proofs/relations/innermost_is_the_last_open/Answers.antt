use Rattle.doc_laws.proofs.Opens.{innermost_last}
use Rattle.doc_laws.proofs.relations.innermost_is_the_last_open.Goals as goal

pub returns-clause-open : goal.returns-clause-open
returns-clause-open c = λ steps n l i. (innermost_last steps n l.each i).0

pub returns-clause-last : goal.returns-clause-last
returns-clause-last c = λ steps n k l i j o. (innermost_last steps n l.each i).1 k j o
