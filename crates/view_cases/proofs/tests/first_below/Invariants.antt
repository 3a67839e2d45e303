use Rattle.doc_model.specs.Lawful.{IsJoined}
use Rattle.view_cases.proofs.tests.first_below.Given as goal

abbrev pub invariant-loop : goal.invariant-loop
invariant-loop l = IsJoined l.table.cells.steps l.at
