-- What a table that stands still shows of itself.
use Rattle.std.specs.Prelude.{ℕ, List, [], length, Some, map, take, ⊤}
use Rattle.doc_model.specs.declared.places.RowPlace.{RowPlace}
use Rattle.doc_model.specs.Cells.{Cells}
use Rattle.doc_model.specs.Rows.{rows_of}
use Rattle.doc_model.specs.View.{Seen}

-- the type numbers of the joined rows
abbrev pub types_of : Cells → List ℕ
types_of cells = map (λ (place : RowPlace). place.type_id) (take (length (rows_of cells.steps)) cells.columns.places)

-- its steps, which are all that there will be, and no strip rules
abbrev pub seen_of : Cells → Seen ⊤
seen_of cells = record { steps = cells.steps; whole = Some cells.steps; types = types_of cells; rules = []; mark = tt }
