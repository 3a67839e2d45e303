use Rattle.doc_model.specs.Rows.{rows_of}
use Rattle.doc_laws.proofs.Ends.{extent_le}
use Rattle.doc_laws.proofs.Sound.{lawful_tree}
use Rattle.doc_laws.proofs.Subtrees.{in_within, within_in}
use Rattle.doc_laws.proofs.relations.extent_bounds_the_subtree.Goals as goal

pub returns-clause-subtree : goal.returns-clause-subtree
returns-clause-subtree c = λ steps n k l j i. let t = lawful_tree steps l.each in (λ h. within_in (rows_of steps) t n k j i h.0 h.1, λ h. in_within (rows_of steps) t n k j i h)

pub returns-clause-within : goal.returns-clause-within
returns-clause-within c = λ steps n l j. extent_le (rows_of steps) n j
