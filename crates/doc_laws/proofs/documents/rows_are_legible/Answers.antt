use Rattle.doc_laws.proofs.Legibility.{row_legible, string_utf8}
use Rattle.doc_laws.proofs.documents.rows_are_legible.Goals as goal

pub returns-clause-row : goal.returns-clause-row
returns-clause-row c = λ steps n l j. row_legible steps n l.each j

pub returns-clause-value : goal.returns-clause-value
returns-clause-value c = λ rules steps n l j. string_utf8 rules steps n l.each
