-- Lists of open rows, the root first.
use Rattle.std.specs.Prelude.{ℕ, ◌-◌, List, [], ◌∷◌, ◌++◌, if◌then◌else◌, length, Some, None, slice_index_or, slice_set}
use Rattle.doc_model.specs.declared.row.Kind.{Kind}
use Rattle.doc_model.specs.Document.{is_parent}
use Rattle.node_writer.specs.declared.open_row.OpenRow.{OpenRow}

abbrev pub open_root : OpenRow
open_root = record { row = 0; last = None }

abbrev pub open_at : List OpenRow → ℕ → OpenRow
open_at stack k = slice_index_or stack k open_root

abbrev pub innermost : List OpenRow → OpenRow
innermost stack = open_at stack (length stack - 1)

-- the numbers of the open rows, the innermost first, before those further out
abbrev pub rows_opened : List OpenRow → List ℕ → List ℕ
rows_opened [] outer = outer
rows_opened (one ∷ stack) outer = rows_opened stack (one.row ∷ outer)

-- the innermost open row has one more child
abbrev pub with_child : List OpenRow → ℕ → List OpenRow
with_child stack n = slice_set stack (length stack - 1) (record { row = (innermost stack).row; last = Some n })

-- a row is joined, which opens if it may have children
abbrev pub with_joined : List OpenRow → ℕ → Kind → List OpenRow
with_joined stack n kind = if is_parent kind then with_child stack n ++ record { row = n; last = None } ∷ [] else with_child stack n
