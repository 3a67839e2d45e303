-- The kinds of rows that may stand in a Node.
use Rattle.std.proofs.Common.{◌≡◌, true, false, refl}
use Rattle.std.proofs.lemmas.Bool.{false≢true}
use Rattle.doc_model.specs.declared.row.Kind.{Kind}
use Rattle.doc_model.specs.declared.row.Kind.TheVariants.{Root, Element, Attribute, Text, Instruction, Comment}
use Rattle.doc_model.specs.Document.{is_attribute}
use Rattle.doc_model.specs.Lawful.{may_stand}

pub standing_plain : (k : Kind) → may_stand k ≡ true → is_attribute k ≡ false
standing_plain Root h = absurd (false≢true h)
standing_plain Element h = refl
standing_plain Attribute h = absurd (false≢true h)
standing_plain Text h = refl
standing_plain Instruction h = refl
standing_plain Comment h = refl
