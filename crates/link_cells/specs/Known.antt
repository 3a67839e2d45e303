-- What contracts see of cells, of a writer and of a pass.
use Rattle.std.specs.Prelude.{◌≡◌, ◌≤◌, List}
use Rattle.atomic_table.specs.Seated.{TableId}
use Rattle.link_cells.specs.declared.entry.Entry.{Entry}
use Rattle.link_cells.specs.declared.layout.Layout.{Layout}
use Rattle.link_cells.specs.declared.plan.Plan.{Plan}
use Rattle.link_cells.specs.declared.view.View.{View}

-- which cells: the table of words, which no other table equals, and the layout that they were made with
pub record Mark : Type 0 where
  pub table : TableId
  pub layout : Layout

-- the cells that a writer or a pass was made with, and the sets that it knows, the oldest first
pub record Known : Type 0 where
  pub mark : Mark
  pub log : List Entry

abbrev pub knows : Mark → List Entry → Known
knows mark log = record { mark = mark; log = log }

-- what the view of a seat at this table says
abbrev pub knows_of : TableId → View → Known
knows_of table v = knows (record { table = table; layout = v.layout }) v.seen

-- the table has as many words as it was told, and at least one
abbrev pub CountsWords : Plan → TableId → Type 0
CountsWords plan table = (plan.words ≡ table.words) × (1 ≤ table.words)
