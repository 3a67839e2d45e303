use Rattle.doc_laws.proofs.Parents.{parent_is, parent_from}
use Rattle.doc_laws.proofs.relations.parent_is_the_greatest_above.Goals as goal

pub returns : goal.returns
returns c = λ rows m n l. (λ h. parent_is rows m n l h, λ h. parent_from rows m n l h)
