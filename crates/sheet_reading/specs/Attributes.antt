-- The attributes of an element, by the table of elements (XSLT 1.0, appendix B).
use Rattle.std.specs.Prelude.{ℕ, Bool, true, false, ◌&&◌, ◌||◌, ◌==◌, not, List, length, is_some, unwrap_or, codes}
use Rattle.std.specs.List.{list_all, list_any}
use Rattle.std.specs.Str.{bytes_eq}
use Rattle.doc_model.specs.declared.row.Row.{Row}
use Rattle.xpath_binding.specs.Names.{Resolution}
use Rattle.sheet_elements.specs.declared.fault.SheetKind.TheVariants as kind
use Rattle.sheet_elements.specs.declared.table.Kind.{Kind}
use Rattle.sheet_elements.specs.declared.table.Kind.TheVariants as of
use Rattle.sheet_elements.specs.declared.table.Need.{Need}
use Rattle.sheet_elements.specs.declared.table.Need.TheVariants as need
use Rattle.sheet_elements.specs.declared.table.Row.{Row as TableRow}
use Rattle.sheet_elements.specs.declared.tag.Tag.{Tag}
use Rattle.sheet_elements.specs.declared.tag.Tag.TheVariants as tag
use Rattle.sheet_elements.specs.declared.tag.Word.{Word}
use Rattle.sheet_elements.specs.declared.tag.Word.TheVariants as word
use Rattle.sheet_elements.specs.Attributes.{is_left_out_attribute, kind_of}
use Rattle.sheet_elements.specs.Names.{same_tag, same_word, word_of}
use Rattle.sheet_elements.specs.Table.{rows}
use Rattle.sheet_source.specs.declared.tree.Element.{Element}
use Rattle.sheet_values.specs.declared.value.Value.{Value}
use Rattle.sheet_values.specs.Values.{value_of}
use Rattle.sheet_reading.specs.declared.tree.Given.{Given}
use Rattle.sheet_reading.specs.declared.tree.Name.{Name}
use Rattle.sheet_reading.specs.Judgement.{◌>>=◌, Judgement, at_line, each, gives, needs}

-- an attribute of this name, which has no namespace
abbrev pub has_name : Word → Row → Bool
has_name w a = length a.uri == 0 && same_word (word_of a.local) w

abbrev pub has : Word → List Row → Bool
has w attributes = list_any (has_name w) attributes

-- elements whose value is that of a select or of a body (section 11.2)
abbrev pub takes_value : Tag → Bool
takes_value tag.Variable = true
takes_value tag.Param = true
takes_value tag.WithParam = true
takes_value _ = false

-- no select beside a body
unfoldable pub valued_once : Tag → Element → Judgement (Unit {0})
valued_once t e = needs (not (takes_value t && has word.Select e.start.attributes && not (length e.children == 0))) e.start.line kind.BadElement

abbrev pub is_html : Tag → Row → Bool
is_html t a = same_tag t tag.Output && has_name word.Method a && bytes_eq a.value (codes "html")

-- an attribute or a method that is known and not supported
abbrev pub is_unsupported : Tag → Row → Bool
is_unsupported t a = is_left_out_attribute t a.uri a.local || is_html t a

unfoldable pub supported : Tag → Element → Judgement (Unit {0})
supported t e = needs (not (list_any (is_unsupported t) e.start.attributes)) e.start.line kind.Unsupported

-- each attribute is one that the element may have
abbrev pub is_allowed : Tag → Row → Bool
is_allowed t a = is_some (kind_of t a.uri a.local)

unfoldable pub allowed : Tag → Element → Judgement (Unit {0})
allowed t e = needs (list_all (is_allowed t) e.start.attributes) e.start.line kind.BadAttribute

abbrev pub needs_it : Need → Bool
needs_it need.Required = true
needs_it _ = false

abbrev pub needs_one : Need → Bool
needs_one need.Either = true
needs_one _ = false

abbrev pub is_required : TableRow → Bool
is_required row = needs_it row.need

abbrev pub is_either : TableRow → Bool
is_either row = needs_one row.need

abbrev pub is_met : List Row → TableRow → Bool
is_met attributes row = not (is_required row) || has row.word attributes

abbrev pub is_chosen : List Row → TableRow → Bool
is_chosen attributes row = is_either row && has row.word attributes

-- each that is required, and one of those of which one is
unfoldable pub complete : Tag → Element → Judgement (Unit {0})
complete t e =
    needs (list_all (is_met e.start.attributes) (rows t) && (not (list_any is_either (rows t)) || list_any (is_chosen e.start.attributes) (rows t)))
    e.start.line kind.MissingAttribute

abbrev pub is_other_version : Tag → Row → Bool
is_other_version t a = same_tag t tag.Stylesheet && has_name word.Version a && not (bytes_eq a.value (codes "1.0"))

unfoldable pub right_version : Tag → Element → Judgement (Unit {0})
right_version t e = needs (not (list_any (is_other_version t) e.start.attributes)) e.start.line kind.BadVersion

-- what an attribute's value is; one that the element may not have was refused before
abbrev pub kind_or_unused : Tag → Row → Kind
kind_or_unused t a = unwrap_or (kind_of t a.uri a.local) of.Unused

abbrev pub name_of : Row → Name
name_of row = record { prefix = row.prefix; uri = row.uri; local = row.local }

unfoldable pub valued : Resolution → ℕ → Tag → Row → Judgement Value
valued R line t a = at_line line (value_of R (kind_or_unused t a) a.value)

unfoldable pub given : Resolution → ℕ → Tag → Row → Judgement Given
given R line t a = do
  v ← valued R line t a
  gives (record { name = name_of a; word = word_of a.local; value = v })

-- each value in line order
unfoldable pub values : Resolution → Tag → Element → Judgement (List Given)
values R t e = each (given R e.start.line t) e.start.attributes
