use Rattle.doc_laws.proofs.Root.{lawful_before}
use Rattle.doc_laws.proofs.lawful_lists.beginnings_are_lawful.Goals as goal

pub returns : goal.returns
returns c = λ before later g l. lawful_before before later g l
