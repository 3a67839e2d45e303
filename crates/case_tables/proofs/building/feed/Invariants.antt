use Rattle.doc_model.specs.Lawful.{Grows}
use Rattle.case_tables.specs.Building.{StandsAfter}
use Rattle.case_tables.proofs.building.feed.Given as goal

abbrev pub invariant-loop-bytes : goal.invariant-loop-bytes
invariant-loop-bytes l = record {
  taken : StandsAfter l.builder l.table l.count;
  grows : Grows l.fn.table.cells.steps l.table.cells.steps;
}
