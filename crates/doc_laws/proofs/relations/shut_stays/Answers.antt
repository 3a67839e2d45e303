use Rattle.doc_laws.proofs.Ends.{shut_grows}
use Rattle.doc_laws.proofs.Growth.{joined_grows}
use Rattle.doc_laws.proofs.Root.{lawful_before}
use Rattle.doc_laws.proofs.Shuts.{shut_closed, closed_shut}
use Rattle.doc_laws.proofs.relations.shut_stays.Goals as goal

pub returns-clause-shut : goal.returns-clause-shut
returns-clause-shut c = λ before later n g l j h.
    closed_shut later n l.each (joined_grows before later n g j) (shut_grows before later n g l j (shut_closed before n (lawful_before before later g l).each j h)).0

pub returns-clause-extent : goal.returns-clause-extent
returns-clause-extent c = λ before later n g l j h. (shut_grows before later n g l j (shut_closed before n (lawful_before before later g l).each j h)).1
