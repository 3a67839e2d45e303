use Rattle.doc_model.specs.Rows.{rows_of}
use Rattle.doc_laws.proofs.Attributes.{attribute_after, attribute_if_after}
use Rattle.doc_laws.proofs.Sound.{lawful_tree}
use Rattle.doc_laws.proofs.documents.attributes_stand_right_after_their_row.Goals as goal

pub returns : goal.returns
returns c = λ steps n k l j m. (attribute_after (rows_of steps) (lawful_tree steps l.each) n k j m, attribute_if_after (rows_of steps) (lawful_tree steps l.each) n k j m)
