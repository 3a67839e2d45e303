use Rattle.std.proofs.Common.{refl}
use Rattle.doc_model.specs.Rows.{rows_of}
use Rattle.doc_laws.proofs.Ancestors.{ancestor_words, words_ancestor}
use Rattle.doc_laws.proofs.Rooted.{lawful_rooted}
use Rattle.doc_laws.proofs.Sound.{lawful_tree}
use Rattle.doc_laws.proofs.axes.ancestors_are_the_parent_and_its_ancestors.Goals as goal

pub returns : goal.returns
returns c = λ steps n k l j. let t = lawful_tree steps l.each in (λ h. ancestor_words (rows_of steps) t (lawful_rooted steps l.each) n k _ j refl h, λ h. words_ancestor (rows_of steps) t (lawful_rooted steps l.each) n k j h)
