-- Rows of a datum and a link: word r is the datum of row r, and word n + r its link, where there are n rows.
use Rattle.std.specs.Prelude.{◌≡◌, ◌≢◌, ℕ, ◌+◌, ◌*◌, ◌^◌, ◌<◌, ◌≤◌, List}
use mathlib.Core.List.{IsPrefix}
use Rattle.link_cells.specs.declared.entry.Entry.{Entry}
use Rattle.link_cells.specs.Known.{Mark}
use Rattle.link_cells.specs.Log.{value_at}

-- each row whose link is set has its datum
abbrev pub HasLinkedData : ℕ → List Entry → Type 0
HasLinkedData n log = (r : ℕ) → r < n → value_at (n + r) log ≢ 0 → value_at r log ≢ 0

-- so it was at every beginning: no link is set before the datum of its row
abbrev pub HasDataFirst : ℕ → List Entry → Type 0
HasDataFirst n log = (before : List Entry) → IsPrefix before log → HasLinkedData n before

-- no word of the rows from this one on is set
abbrev pub HasNoneFrom : ℕ → ℕ → List Entry → Type 0
HasNoneFrom n from log = (r : ℕ) → from ≤ r → r < n → (value_at r log ≡ 0) × (value_at (n + r) log ≡ 0)

-- the cells have the words of so many rows, and their layout says so
abbrev pub IsLaidOutFor : ℕ → Mark → Type 0
IsLaidOutFor rows cells = (cells.layout.first ≡ rows) × (rows < 2 ^ 32) × (2 * rows ≤ cells.table.words)
