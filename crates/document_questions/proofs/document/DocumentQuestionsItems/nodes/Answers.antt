use Rattle.document_questions.proofs.Keeping.{kept_so, ready_in}
use Rattle.document_questions.proofs.Told.{value_there, nodes_shown, nodes_few}
use Rattle.document_questions.proofs.document.DocumentQuestionsItems.nodes.Goals as goal

pub returns-in_err-value-clause-kept : goal.returns-in_err-value-clause-kept
returns-in_err-value-clause-kept g c = kept_so c.args.self.now.view.ghost_name c.args.self.now.keys.ghost_name c.args.self.now.sheet.now.rules c.in_err-value.ensures.went

pub returns-clause-kept : goal.returns-clause-kept
returns-clause-kept g c = kept_so c.args.self.now.view.ghost_name c.args.self.now.keys.ghost_name c.args.self.now.sheet.now.rules c.in_ok-value.ensures.went

pub returns-clause-there : goal.returns-clause-there
returns-clause-there g c =
    let t = g.V.NodeView.sees c.eval.new.view in
    nodes_shown t.rules t.steps c.in_ok-value.value c.value_nodes.result
    (value_there c.args.e.now (ready_in c.args.self.now.view.ghost_name c.requires) c.in_ok-value.ensures.went c.in_ok-value.ensures.answers) c.value_nodes.ensures

pub returns-clause-bounded : goal.returns-clause-bounded
returns-clause-bounded g c =
    let t = g.V.NodeView.sees c.eval.new.view in
    nodes_few t.rules t.steps c.in_ok-value.value c.value_nodes.result c.in_ok-value.ensures.went.moves.seen.lawful
    (value_there c.args.e.now (ready_in c.args.self.now.view.ghost_name c.requires) c.in_ok-value.ensures.went c.in_ok-value.ensures.answers) c.value_nodes.ensures
