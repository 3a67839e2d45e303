use Rattle.doc_model.specs.declared.node_test.Test.TheVariants as test
use Rattle.document_questions.proofs.Keeping.{kept_moves, shows}
use Rattle.document_questions.proofs.Told.{children_shown, children_few}
use Rattle.xpath_nodes.proofs.Holding.{there_on}
use Rattle.document_questions.proofs.document.DocumentQuestionsItems.all_children.Goals as goal

pub returns-clause-kept : goal.returns-clause-kept
returns-clause-kept g c =
    kept_moves {made = g.K.KeySource.made c.args.self.now.keys.now} c.args.self.now.view.ghost_name c.args.self.now.keys.ghost_name c.args.self.now.sheet.now.rules
    (g.met.K.KeySource.goes_on c.args.self.now.keys.now) c.axis_nodes.ensures.moves c.requires.stands

pub returns-clause-answers : goal.returns-clause-answers
returns-clause-answers g c = shows c.args.self.now.view.ghost_name c.axis_nodes.result (c.axis_nodes.ensures.answers (g.K.KeySource.made c.args.self.now.keys.now).lookups)

pub returns-clause-there : goal.returns-clause-there
returns-clause-there g c =
    children_shown test.Any c.args.n c.axis_nodes.result (there_on _ _ c.args.n c.axis_nodes.ensures.moves c.requires.there)
    (c.axis_nodes.ensures.answers (g.K.KeySource.made c.args.self.now.keys.now).lookups)

pub returns-clause-bounded : goal.returns-clause-bounded
returns-clause-bounded g c =
    children_few test.Any c.args.n c.axis_nodes.result c.axis_nodes.ensures.moves.seen.lawful (there_on _ _ c.args.n c.axis_nodes.ensures.moves c.requires.there)
    (c.axis_nodes.ensures.answers (g.K.KeySource.made c.args.self.now.keys.now).lookups)
