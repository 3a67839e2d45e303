-- The lines of the variables and parameters of a stylesheet, in the order of the sheet.
use Rattle.std.specs.Prelude.{ℕ, List, Option, Some, None, if◌then◌else◌, slice_get, unwrap_or}
use Rattle.std.specs.List.{filter_map}
use Rattle.sheet_names.specs.Declaring.{is_variable}
use Rattle.sheet_reading.specs.declared.tree.Item.{Item}
use Rattle.sheet_reading.specs.declared.tree.Item.TheViews.{out-Item}
use Rattle.sheet_reading.specs.declared.tree.Item.TheOpen.{Item-F}
use Rattle.sheet_reading.specs.declared.tree.Judged.{Judged}

abbrev pub line_of_element : Judged → Option ℕ
line_of_element e = if is_variable e.tag then Some e.line else None

abbrev pub line_of_item : Item → Option ℕ
line_of_item i = elim (out-Item i) [ Item-F.Text text ↦ None | Item-F.Element e ↦ line_of_element e ]

abbrev pub lines_of_globals : List Item → List ℕ
lines_of_globals items = filter_map line_of_item items

-- that of one, by its place among all; 0 where there is none
abbrev pub line_of_global : List Item → ℕ → ℕ
line_of_global items place = unwrap_or (slice_get (lines_of_globals items) place) 0
