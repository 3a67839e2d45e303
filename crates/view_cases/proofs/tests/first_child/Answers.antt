use Rattle.std.proofs.Common.{subst}
use Rattle.doc_model.specs.Lawful.{IsJoined}
use Rattle.plain_columns.specs.Seen.{seen_of}
use Rattle.plain_columns.specs.Value.{Table}
use Rattle.view_cases.proofs.Still.{child_joined}
use Rattle.view_cases.proofs.tests.first_child.Goals as goal

pub returns-in-Node : goal.returns-in-Node
returns-in-Node c = subst (λ (table : Table). IsJoined table.cells.steps c.in-Node.k) c.view.ensures
    (child_joined c.view.result.cells (seen_of c.first.new.self.cells) c.args.n c.in-Node.k c.first.ensures.moves c.in-Node.ensures.value)
