use Rattle.doc_laws.proofs.Still.{link_still, extent_still, ended_still}
use Rattle.doc_laws.proofs.answers.answers_are_exact_on_a_still_table.Goals as goal

pub returns-clause-link : goal.returns-clause-link
returns-clause-link c = λ link decider steps look h. link_still link decider steps look h

pub returns-clause-extent : goal.returns-clause-extent
returns-clause-extent c = λ steps n extent h. extent_still steps n extent h

pub returns-clause-ended : goal.returns-clause-ended
returns-clause-ended c = λ steps verdict h. ended_still steps verdict h
