use Rattle.document_questions.proofs.Keeping.{kept_so, ready_in}
use Rattle.document_questions.proofs.Told.{value_shown}
use Rattle.document_questions.proofs.document.DocumentQuestionsItems.value.Goals as goal

pub returns-clause-kept : goal.returns-clause-kept
returns-clause-kept g c = kept_so c.args.self.now.view.ghost_name c.args.self.now.keys.ghost_name c.args.self.now.sheet.now.rules c.eval.ensures.went

pub returns-clause-there : goal.returns-clause-there
returns-clause-there g c = value_shown c.args.e.now c.eval.result (ready_in c.args.self.now.view.ghost_name c.requires) c.eval.ensures.went c.eval.ensures.answers
