use Rattle.document_questions.proofs.Keeping.{kept_moves}
use Rattle.document_questions.proofs.document.DocumentQuestionsItems.kind.Goals as goal

pub returns-clause-kept : goal.returns-clause-kept
returns-clause-kept g c =
    kept_moves {made = g.K.KeySource.made c.args.self.now.keys.now} c.args.self.now.view.ghost_name c.args.self.now.keys.ghost_name c.args.self.now.sheet.now.rules
    (g.met.K.KeySource.goes_on c.args.self.now.keys.now) c.kind.ensures.moves c.requires.stands
