-- The slots of variables where an expression stands: those of the globals first, and then those of the locals in scope (XSLT 1.0, section 11.5).
use Rattle.std.specs.Prelude.{ℕ, ◌+◌, List, Option, Some, None, length}
use Rattle.xpath_syntax.specs.declared.expression.NameRef.{NameRef}
use Rattle.sheet_names.specs.Names.{Name, expanded, place_of}

-- a local hides a global
abbrev pub slot_by : ℕ → Option ℕ → Option ℕ → Option ℕ
slot_by count (Some local) global = Some (count + local)
slot_by count None global = global

-- the slot of a variable, where it is known
abbrev pub slot_of : List Name → List Name → Name → Option ℕ
slot_of globals locals x = slot_by (length globals) (place_of locals x) (place_of globals x)

-- a variable with its slot
abbrev pub placed_name : List Name → List Name → NameRef → NameRef
placed_name globals locals name = record name { slot = slot_of globals locals (expanded name) }
