-- A table as contracts see it.
use Rattle.doc_model.specs.declared.limits.Limits.{Limits}
use Rattle.doc_model.specs.Cells.{Cells}

-- what there is room for in all, and what it holds
pub record Table : Type 0 where
  pub limits : Limits
  pub cells : Cells
