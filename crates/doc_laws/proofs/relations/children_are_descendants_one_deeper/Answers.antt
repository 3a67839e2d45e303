use Rattle.doc_model.specs.Rows.{rows_of}
use Rattle.doc_laws.proofs.Sound.{lawful_tree}
use Rattle.doc_laws.proofs.Subtrees.{child_is, child_from}
use Rattle.doc_laws.proofs.relations.children_are_descendants_one_deeper.Goals as goal

pub returns : goal.returns
returns c = λ steps n k l j. (λ h. child_is (rows_of steps) n k (lawful_tree steps l.each) j h, λ h. child_from (rows_of steps) n k j h)
