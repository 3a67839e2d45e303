use Rattle.document_questions.proofs.Keeping.{kept_moves, kept_none}
use Rattle.document_questions.proofs.document.DocumentQuestionsItems.copy.Goals as goal

pub returns-in_err-made-clause-kept : goal.returns-in_err-made-clause-kept
returns-in_err-made-clause-kept g c =
    kept_none {made = g.K.KeySource.made c.args.self.now.keys.now} c.args.self.now.view.ghost_name c.args.self.now.keys.ghost_name c.args.self.now.sheet.now.rules c.requires.stands

pub returns-in-Ok-clause-kept : goal.returns-in-Ok-clause-kept
returns-in-Ok-clause-kept g c =
    kept_moves {made = g.K.KeySource.made c.args.self.now.keys.now} c.args.self.now.view.ghost_name c.args.self.now.keys.ghost_name c.args.self.now.sheet.now.rules
    (g.met.K.KeySource.goes_on c.args.self.now.keys.now) c.in-Ok.ensures.moves c.requires.stands

pub returns-in-Err-NotYet-clause-kept : goal.returns-in-Err-NotYet-clause-kept
returns-in-Err-NotYet-clause-kept g c =
    kept_moves {made = g.K.KeySource.made c.args.self.now.keys.now} c.args.self.now.view.ghost_name c.args.self.now.keys.ghost_name c.args.self.now.sheet.now.rules
    (g.met.K.KeySource.goes_on c.args.self.now.keys.now) c.copy_node.ensures.moves c.requires.stands

pub returns-clause-kept : goal.returns-clause-kept
returns-clause-kept g c =
    kept_moves {made = g.K.KeySource.made c.args.self.now.keys.now} c.args.self.now.view.ghost_name c.args.self.now.keys.ghost_name c.args.self.now.sheet.now.rules
    (g.met.K.KeySource.goes_on c.args.self.now.keys.now) c.copy_node.ensures.moves c.requires.stands
