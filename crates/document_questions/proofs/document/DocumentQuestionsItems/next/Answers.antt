use Rattle.document_questions.proofs.Keeping.{kept_so, if_some}
use Rattle.document_questions.proofs.document.DocumentQuestionsItems.next.Goals as goal

pub returns-clause-kept : goal.returns-clause-kept
returns-clause-kept g c = kept_so c.args.self.now.view.ghost_name c.args.self.now.keys.ghost_name c.args.self.now.sheet.now.rules c.next.ensures.went

pub returns-clause-bounded : goal.returns-clause-bounded
returns-clause-bounded g c = if_some c.next.result c.next.ensures.bounded
