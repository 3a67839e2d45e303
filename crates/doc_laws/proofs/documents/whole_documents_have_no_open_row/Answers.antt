use Rattle.doc_laws.proofs.Whole.{whole_is_shut}
use Rattle.doc_laws.proofs.documents.whole_documents_have_no_open_row.Goals as goal

pub returns : goal.returns
returns c = λ steps n h. whole_is_shut steps n h
