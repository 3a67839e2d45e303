use Rattle.std.proofs.Common.{◌∷◌, take}
use Rattle.doc_model.specs.declared.limits.Limits.{Limits}
use Rattle.doc_model.specs.Cells.{Cells}
use Rattle.doc_model.specs.Rows.{rows_of}
use Rattle.node_writer.specs.Stands.{Stands}
use Rattle.node_writer.specs.New.{AddsNames}
use Rattle.node_writer.proofs.writer.NodeWriter.new_names.Given as goal

-- the names of the row and of the attributes before this one are counted
abbrev pub invariant-loop-at : goal.invariant-loop-at
invariant-loop-at l = (limits : Limits) (cells : Cells) → Stands l.self limits cells → AddsNames (rows_of cells.steps) (l.row ∷ take l.at l.attributes) l.new
