use Rattle.std.proofs.Common.{◌≤◌, length, subst}
use Rattle.doc_model.specs.Rows.{rows_of}
use Rattle.plain_columns.specs.Seen.{seen_of}
use Rattle.plain_columns.specs.Value.{Table}
use Rattle.view_cases.proofs.Still.{extent_within}
use Rattle.view_cases.proofs.tests.row_count.Goals as goal

pub returns-in-Some : goal.returns-in-Some
returns-in-Some c = subst (λ (table : Table). c.in-Some.end ≤ length (rows_of table.cells.steps)) c.view.ensures
    (extent_within c.view.result.cells (seen_of c.extent.new.self.cells) c.in-Some.end c.extent.ensures.moves c.in-Some.ensures.value.1)
