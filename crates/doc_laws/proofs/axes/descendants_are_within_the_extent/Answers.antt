use Rattle.doc_model.specs.Rows.{rows_of}
use Rattle.doc_laws.proofs.Ancestors.{descendant_words, words_descendant}
use Rattle.doc_laws.proofs.Sound.{lawful_tree}
use Rattle.doc_laws.proofs.axes.descendants_are_within_the_extent.Goals as goal

pub returns : goal.returns
returns c = λ steps n k l j i. let t = lawful_tree steps l.each in (λ h. descendant_words (rows_of steps) t n k j i h, λ h. words_descendant (rows_of steps) t n k j i h)
