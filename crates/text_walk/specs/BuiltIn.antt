-- Where the built-in template rules fault: at most 500 templates are nested.
use Rattle.std.specs.Prelude.{Bool, not, ◌&&◌, nat_le, List, Option, option_map, find}
use Rattle.std.specs.List.{before_first}
use Rattle.doc_model.specs.declared.row.Row.{Row}
use Rattle.doc_model.specs.Document.{is_attribute}
use Rattle.text_walk.specs.declared.fault.FaultKind.{FaultKind}
use Rattle.text_walk.specs.declared.fault.FaultKind.TheVariants.{TooDeep}

-- the root's template is the first, and that of a node is nested in those of its ancestors: a node of depth 500 has the 501st. No template is instantiated for attributes
abbrev pub is_too_deep : Row → Bool
is_too_deep row = not (is_attribute row.kind) && nat_le 500 row.depth

-- the rows that stand before the first that is too deep, or all where none is
abbrev pub reached : List Row → List Row
reached rows = before_first is_too_deep rows

-- the fault of the first row that is too deep, if one is
abbrev pub fault_of : List Row → Option FaultKind
fault_of rows = option_map (λ row. TooDeep) (find is_too_deep rows)
