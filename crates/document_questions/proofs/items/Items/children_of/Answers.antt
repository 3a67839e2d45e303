use Rattle.document_questions.proofs.Selecting.{children_begin}
use Rattle.engine_questions.proofs.Staying.{there_stays}
use Rattle.document_questions.proofs.items.Items.children_of.Goals as goal

pub returns-clause-begins : goal.returns-clause-begins
returns-clause-begins c = λ lookups values rules steps h later g l.
    children_begin c.start.result c.args.context.now lookups values rules later c.start.ensures (there_stays rules steps later c.args.context.now.node g h)
