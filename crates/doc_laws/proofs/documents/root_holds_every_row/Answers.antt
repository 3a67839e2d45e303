use Rattle.doc_laws.proofs.Root.{root_extent}
use Rattle.doc_laws.proofs.documents.root_holds_every_row.Goals as goal

pub returns : goal.returns
returns c = λ steps l. root_extent steps l.each
