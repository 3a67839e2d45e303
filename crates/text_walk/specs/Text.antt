-- What the built-in template rules give of rows (XSLT 1.0, section 5.8): the values of the texts in document order.
use Rattle.std.specs.Prelude.{ℕ, Bool, not, ◌&&◌, List, length, map, filter}
use Rattle.std.specs.List.{concat}
use Rattle.doc_model.specs.declared.row.Row.{Row}
use Rattle.doc_model.specs.Legible.{is_empty}
use Rattle.doc_model.specs.Strip.{is_text}

abbrev pub is_text_row : Row → Bool
is_text_row row = is_text row.kind

abbrev pub value_in : Row → List ℕ
value_in row = row.value

-- the values of the text rows, joined in their order
abbrev pub text_of : List Row → List ℕ
text_of rows = concat (map value_in (filter is_text_row rows))

-- a text row whose value is not empty: an empty text is no result event
abbrev pub is_event : Row → Bool
is_event row = is_text row.kind && not (is_empty row.value)

abbrev pub events_in : List Row → ℕ
events_in rows = length (filter is_event rows)
