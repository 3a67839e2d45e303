-- How far a table is built.
use Rattle.std.specs.Prelude.{◌≡◌, ℕ, List, length}
use Rattle.pyx_lines.specs.declared.line.Line.{Line}
use Rattle.plain_columns.specs.Value.{Table}
use Rattle.dtm_builder.specs.Standing.{Stands}
use Rattle.dtm_builder.specs.declared.builder.Builder.{Builder}

-- the builder stands for the table after so many lines
abbrev pub StandsAfter : Builder → Table → ℕ → Type 0
StandsAfter builder table count = (before : List Line) × Stands builder table.limits table.cells before × (length before ≡ count)
