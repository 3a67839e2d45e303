-- Which element stands at a place, and what may stand behind it (XSLT 1.0, sections 2.2 and 2.3, appendix B).
use Rattle.std.specs.Prelude.{ℕ, Bool, true, false, ◌&&◌, ◌||◌, ◌==◌, not, if◌then◌else◌, List, length, Option, Some, None, is_some, unwrap_or, Result, Ok, Err}
use Rattle.std.specs.List.{list_any}
use Rattle.doc_model.specs.declared.row.Row.{Row}
use Rattle.sheet_elements.specs.declared.fault.SheetKind.{SheetKind}
use Rattle.sheet_elements.specs.declared.fault.SheetKind.TheVariants as kind
use Rattle.sheet_elements.specs.declared.places.Place.{Place}
use Rattle.sheet_elements.specs.declared.places.Place.TheVariants as place
use Rattle.sheet_elements.specs.declared.tag.Tag.{Tag}
use Rattle.sheet_elements.specs.declared.tag.Tag.TheVariants as tag
use Rattle.sheet_elements.specs.Content.{behind, behind_text, content, tells_left_out}
use Rattle.sheet_elements.specs.Names.{is_left_out, is_xsl, tag_of}
use Rattle.sheet_source.specs.declared.tree.Element.{Element}
use Rattle.sheet_source.specs.declared.tree.Node.{Node}
use Rattle.sheet_source.specs.declared.tree.Node.TheViews.{out-Node}
use Rattle.sheet_source.specs.declared.tree.Node.TheOpen.{Node-F}
use Rattle.sheet_reading.specs.Judgement.{Judgement, at_line, needs}

-- an element that the place admits
abbrev pub admitted : Place → Tag → Result Tag SheetKind
admitted p t = if is_some (behind p t) then Ok t else Err kind.BadElement

-- one that the table hasn't: where the root element or a body stands around it, one that is known and not supported is told from an unknown one
abbrev pub unknown : Place → Bool → SheetKind
unknown p left_out = if left_out && tells_left_out p then kind.Unsupported else kind.BadElement

abbrev pub named : Place → Bool → Option Tag → Result Tag SheetKind
named p left_out (Some t) = admitted p t
named p left_out None = Err (unknown p left_out)

-- an element of the namespace, or a literal one
abbrev pub tag_in : Place → List ℕ → List ℕ → Result Tag SheetKind
tag_in p uri local = if is_xsl uri then named p (is_left_out local) (tag_of local) else admitted p tag.Literal

-- whatever isn't admitted as the root element
abbrev pub at_root : Result Tag SheetKind → Result Tag SheetKind
at_root (Ok t) = Ok t
at_root (Err k) = Err kind.NotStylesheet

abbrev pub is_root : Place → Bool
is_root place.Root = true
is_root _ = false

unfoldable pub tag_at : Place → Row → Result Tag SheetKind
tag_at p row = if is_root p then at_root (tag_in p row.uri row.local) else tag_in p row.uri row.local

unfoldable pub known : Place → Element → Judgement Tag
known p e = at_line e.start.line (tag_at p e.start.row)

abbrev pub is_text : Node → Bool
is_text n = elim (out-Node n) [ Node-F.Text text ↦ true | Node-F.Element e ↦ false ]

abbrev pub has_text : List Node → Bool
has_text nodes = list_any is_text nodes

-- no text where none may stand
unfoldable pub filled : Tag → Element → Judgement (Unit {0})
filled t e = needs (is_some (behind_text (content t)) || not (has_text e.children)) e.start.line kind.BadElement

abbrev pub or_nothing : Option Place → Place
or_nothing p = unwrap_or p place.Nothing

abbrev pub behind_element : Place → Result Tag SheetKind → Place
behind_element p (Ok t) = or_nothing (behind p t)
behind_element p (Err k) = place.Nothing

abbrev pub behind_node : Place → Node → Place
behind_node p n = elim (out-Node n) [ Node-F.Text text ↦ or_nothing (behind_text p) | Node-F.Element e ↦ behind_element p (tag_at p e.start.row) ]

abbrev pub is_top : Place → Bool
is_top place.Top = true
is_top _ = false

abbrev pub is_foreign : Row → Bool
is_foreign row = not (is_xsl row.uri) && not (length row.uri == 0)

-- a top-level element of another namespace
abbrev pub is_passed_over : Place → Node → Bool
is_passed_over p n = elim (out-Node n) [ Node-F.Text text ↦ false | Node-F.Element e ↦ is_top p && is_foreign e.start.row ]
