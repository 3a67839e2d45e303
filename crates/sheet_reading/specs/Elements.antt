-- The first pass over a stylesheet: its elements in document order, with the checks of each in order. An element is judged at a place, among the scopes around it, by what judges the elements in it.
use Rattle.std.specs.Prelude.{ℕ, zero, suc, Bool, List, [], ◌∷◌}
use Rattle.xml_names.specs.declared.scopes.Binding.{Binding}
use Rattle.xml_names.specs.Bindings.{resolved, xml_binding}
use Rattle.sheet_elements.specs.declared.fault.SheetKind.TheVariants as kind
use Rattle.sheet_elements.specs.declared.places.Place.{Place}
use Rattle.sheet_elements.specs.declared.places.Place.TheVariants as place
use Rattle.sheet_elements.specs.declared.tag.Tag.{Tag}
use Rattle.sheet_elements.specs.Content.{content}
use Rattle.sheet_source.specs.declared.tree.Document.{Document}
use Rattle.sheet_source.specs.declared.tree.Element.{Element}
use Rattle.sheet_source.specs.declared.tree.Node.{Node}
use Rattle.sheet_source.specs.declared.tree.Node.TheViews.{out-Node}
use Rattle.sheet_source.specs.declared.tree.Node.TheOpen.{Node-F}
use Rattle.sheet_reading.specs.declared.tree.Given.{Given}
use Rattle.sheet_reading.specs.declared.tree.Item.{Item}
use Rattle.sheet_reading.specs.declared.tree.Item.TheVariants as item
use Rattle.sheet_reading.specs.declared.tree.Judged.{Judged}
use Rattle.sheet_reading.specs.Attributes.{allowed, complete, name_of, right_version, supported, valued_once, values}
use Rattle.sheet_reading.specs.Declaring.{inside}
use Rattle.sheet_reading.specs.Judgement.{◌>>=◌, Judgement, choice, gives, refuses}
use Rattle.sheet_reading.specs.Placing.{behind_node, filled, is_passed_over, known}

abbrev pub element_item : (Place → Element → Judgement Judged) → Place → Element → Judgement Item
element_item f p e = do
  j ← f p e
  gives (item.Element j)

abbrev pub item_of : (Place → Element → Judgement Judged) → Place → Node → Judgement Item
item_of f p n = elim (out-Node n) [
  | Node-F.Text text ↦ gives (item.Text text)
  | Node-F.Element e ↦ element_item f p e
]

-- nodes from the left, where the first one stands at a place; top-level elements of other namespaces are passed over
abbrev pub items : (Place → Element → Judgement Judged) → Place → List Node → Judgement (List Item)
items f p [] = gives []
items f p (n ∷ ns) = choice (is_passed_over p n) (items f p ns) (do
  i ← item_of f p n
  rest ← items f (behind_node p n) ns
  gives (i ∷ rest))

unfoldable pub contents : (Place → Element → Judgement Judged) → Tag → Element → Judgement (List Item)
contents f t e = items f (content t) e.children

-- the checks of an element that look at no value
unfoldable pub sound : Place → Element → Judgement Tag
sound p e = do
  t ← known p e  -- NotStylesheet, BadElement, Unsupported
  _ ← filled t e  -- BadElement
  _ ← valued_once t e  -- BadElement
  _ ← supported t e  -- Unsupported
  _ ← allowed t e  -- BadAttribute
  _ ← complete t e  -- MissingAttribute
  _ ← right_version t e  -- BadVersion
  gives t

abbrev pub made : Element → Tag → List Given → List Item → Judgement Judged
made e t given children =
    gives (record { line = e.start.line; tag = t; name = name_of e.start.row; scope = e.start.scope; given = given; children = children })

-- an element: its own checks, its values in line order, and then its content
abbrev pub layer : (List (List Binding) → Place → Element → Judgement Judged) → List (List Binding) → Place → Element → Judgement Judged
layer f around p e = do
  t ← sound p e
  given ← values (resolved (inside around e.start.declarations)) t e
  children ← contents (f (inside around e.start.declarations)) t e
  made e t given children

-- the same with so many levels left
unfoldable pub judged : ℕ → List (List Binding) → Place → Element → Judgement Judged
judged zero around p e = refuses e.start.line kind.SheetTooDeep
judged (suc levels) around p e = layer (judged levels) around p e

-- the root element, where 100 levels are left and `xml` alone is bound
unfoldable pub elements_of : Document → Judgement (List Item)
elements_of document = items (judged 100 ((xml_binding ∷ []) ∷ [])) place.Root document.nodes
