-- When a writer stands for a table.
use Rattle.std.specs.Prelude.{◌≡◌, ℕ, ◌<◌, List, [], length, None}
use Rattle.doc_model.specs.declared.limits.Limits.{Limits}
use Rattle.doc_model.specs.declared.row.Row.{Row}
use Rattle.doc_model.specs.Cells.{Columns, Cells, place_at}
use Rattle.doc_model.specs.Document.{start, document_of}
use Rattle.doc_model.specs.Lawful.{LawfulFrom}
use Rattle.doc_model.specs.Relations.{children_of, last_of}
use Rattle.doc_model.specs.Rows.{rows_of}
use Rattle.node_writer.specs.declared.open_row.OpenRow.{OpenRow}
use Rattle.node_writer.specs.declared.writer.NodeWriter.{NodeWriter}
use Rattle.node_writer.specs.Filler.{FillerStands}
use Rattle.node_writer.specs.Stack.{open_at, rows_opened}
use Rattle.node_writer.specs.Taken.{names_of, prefixes_of, text_bytes}

-- the open rows, with the depth and the last child of each
pub record StackStands (c : Columns) (given : List Row) (stack : List OpenRow) (opened : List ℕ) : Type 0 where
  pub rows : opened ≡ rows_opened stack []
  pub within : (k : ℕ) → k < length stack → (open_at stack k).row < length c.places
  pub depths : (k : ℕ) → k < length stack → (place_at c (open_at stack k).row).depth ≡ k
  pub lasts : (k : ℕ) → k < length stack → (open_at stack k).last ≡ last_of (children_of given (open_at stack k).row)

-- the steps are lawful, each row that is filled is joined, and what the writer keeps is that of the table: its names, prefixes and bytes are those of the rows, and the open rows are those of the document until it has ended
pub record Stands (writer : NodeWriter) (limits : Limits) (cells : Cells) : Type 0 where
  pub lawful : LawfulFrom start cells.steps
  pub filler : FillerStands writer.filler limits cells.columns
  pub joined : length cells.columns.places ≡ length (rows_of cells.steps)
  pub names : writer.filler.pool.names ≡ names_of (rows_of cells.steps)
  pub prefixes : writer.filler.pool.prefixes ≡ prefixes_of (rows_of cells.steps)
  pub text : writer.filler.text ≡ text_bytes (rows_of cells.steps)
  pub stack : (document_of cells.steps).ended ≡ None → StackStands cells.columns (rows_of cells.steps) writer.stack (document_of cells.steps).opened
