-- The names, URIs and values that a line can give.
use Rattle.std.specs.Prelude.{ℕ, List, [], ◌∷◌, Bool, true, false, not, ◌&&◌, ◌||◌, bytes_eq, codes}
use Rattle.std.specs.Str.{is_utf8}
use Rattle.name_grammar.specs.Names.{is_ncname}
use Rattle.doc_model.specs.declared.row.Kind.{Kind}
use Rattle.doc_model.specs.declared.row.Kind.TheVariants.{Root, Element, Attribute, Text, Instruction, Comment}
use Rattle.doc_model.specs.declared.row.Row.{Row}

abbrev pub is_empty : List ℕ → Bool
is_empty [] = true
is_empty (byte ∷ bytes) = false

-- an NCName in UTF-8
abbrev pub is_part : List ℕ → Bool
is_part bytes = is_ncname bytes && is_utf8 bytes

-- a name of the line format: an NCName, or two that are joined by a colon
abbrev pub is_qualified : Row → Bool
is_qualified row = (is_empty row.prefix || is_part row.prefix) && is_part row.local

-- an attribute without a namespace that is called xmlns would be a declaration
abbrev pub is_declaration : Row → Bool
is_declaration row = is_empty row.uri && bytes_eq row.local (codes "xmlns")

-- the name that a row of this kind has: a target is one NCName, and a text has none
abbrev pub is_named_as : Kind → Row → Bool
is_named_as Root row = true
is_named_as Element row = is_qualified row
is_named_as Attribute row = is_qualified row && not (is_declaration row)
is_named_as Text row = is_empty row.prefix && (is_empty row.uri && is_empty row.local)
is_named_as Comment row = is_empty row.prefix && (is_empty row.uri && is_empty row.local)
is_named_as Instruction row = is_empty row.prefix && (is_empty row.uri && is_part row.local)

-- a row with a name of the line format, whose URI and value are UTF-8
abbrev pub is_legible : Row → Bool
is_legible row = is_named_as row.kind row && (is_utf8 row.uri && is_utf8 row.value)

abbrev pub all_legible : List Row → Bool
all_legible [] = true
all_legible (row ∷ rows) = is_legible row && all_legible rows
