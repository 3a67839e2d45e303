use Rattle.doc_laws.proofs.Selected.{axis_members, axis_ascends}
use Rattle.doc_laws.proofs.documents.axes_are_in_order.Goals as goal

pub returns-clause-rows : goal.returns-clause-rows
returns-clause-rows c = λ rules rows n axis test k. axis_members rules rows n axis test k

pub returns-clause-order : goal.returns-clause-order
returns-clause-order c = λ rules rows n axis test. axis_ascends rules rows n axis test
