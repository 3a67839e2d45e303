use Rattle.document_questions.proofs.Keeping.{kept_so}
use Rattle.document_questions.proofs.document.DocumentQuestionsItems.choose.Goals as goal

pub returns-clause-kept : goal.returns-clause-kept
returns-clause-kept g c = kept_so c.args.self.now.view.ghost_name c.args.self.now.keys.ghost_name c.args.self.now.sheet.now.rules c.choose.ensures.went
