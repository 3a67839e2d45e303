-- What a legal log stands for is lawful.
use Rattle.std.proofs.Common.{List, [], ◌∷◌, subst}
use Rattle.doc_model.specs.declared.step.Step.{Step}
use Rattle.doc_model.specs.Cells.{Cells, empty_cells}
use Rattle.doc_model.specs.Document.{start}
use Rattle.doc_model.specs.Lawful.{LawfulFrom}
use Rattle.doc_model.specs.Legal.{Call, fill_text, fill_name, fill_prefix, fill_row, join, shut, finish, CallFits, after_call, cells_from, LegalFrom, StandsFor}
use Rattle.doc_laws.proofs.Ends.{lawful_push}

call_lawful : (cells : Cells) (call : Call) → CallFits cells call → LawfulFrom start cells.steps → LawfulFrom start (after_call cells call).steps
call_lawful cells (fill_text at bytes) f l = l
call_lawful cells (fill_name id name) f l = l
call_lawful cells (fill_prefix id prefix) f l = l
call_lawful cells (fill_row n row) f l = l
call_lawful cells (join n how) f l = lawful_push cells.steps _ l f.going f.may
call_lawful cells (shut n extent) f l = lawful_push cells.steps _ l f.going f.may
call_lawful cells (finish verdict) f l = lawful_push cells.steps _ l f.going f.may

log_lawful : (cells : Cells) (log : List Call) → LegalFrom cells log → LawfulFrom start cells.steps → LawfulFrom start (cells_from cells log).steps
log_lawful cells [] f l = l
log_lawful cells (call ∷ log) f l = log_lawful (after_call cells call) log f.1 (call_lawful cells call f.0 l)

pub stands_lawful : (log : List Call) (steps : List Step) → StandsFor log steps → LawfulFrom start steps
stands_lawful log steps s = subst (λ xs. LawfulFrom start xs) s.steps_are (log_lawful empty_cells log s.legal tt)
