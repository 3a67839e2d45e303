-- The second pass over a stylesheet: its elements in document order, each with the checks of names in order (XSLT 1.0, sections 6 and 11).
use Rattle.std.specs.Prelude.{ℕ, zero, suc, Bool, true, false, not, List, [], ◌∷◌, Option, Some, None}
use Rattle.std.specs.List.{list_any}
use Rattle.sheet_elements.specs.declared.fault.SheetKind.TheVariants as kind
use Rattle.sheet_reading.specs.declared.tree.Item.{Item}
use Rattle.sheet_reading.specs.declared.tree.Item.TheViews.{out-Item}
use Rattle.sheet_reading.specs.declared.tree.Item.TheOpen.{Item-F}
use Rattle.sheet_reading.specs.declared.tree.Judged.{Judged}
use Rattle.sheet_reading.specs.Judgement.{◌>>=◌, Judgement, gives, needs, refuses}
use Rattle.xpath_syntax.specs.declared.expression.NameRef.{NameRef}
use Rattle.sheet_names.specs.declared.declaring.Names.{Names}
use Rattle.sheet_names.specs.Declaring.{called_name, names_of, no_names, template_name, variable_name, with_item}
use Rattle.sheet_names.specs.Names.{Name, expanded, same_name, with_some}
use Rattle.sheet_names.specs.Searching.{given_has, unknown_keys, unknown_variables}

-- a name is among these
abbrev pub is_among : List Name → NameRef → Bool
is_among names name = list_any (same_name (expanded name)) names

-- there is a name, and it is among these
abbrev pub repeats : List Name → Option NameRef → Bool
repeats names None = false
repeats names (Some name) = is_among names name

-- there is no name, or it is among these
abbrev pub knows : List Name → Option NameRef → Bool
knows names None = true
knows names (Some name) = is_among names name

-- no local hides a local
unfoldable pub once : List Name → Judged → Judgement (Unit {0})
once locals e = needs (not (repeats locals (variable_name e))) e.line kind.DuplicateVariable

-- a template that is called is there
unfoldable pub target : Names → Judged → Judgement (Unit {0})
target names e = needs (knows names.templates.names (called_name e)) e.line kind.UnknownTemplate

-- no key is there
unfoldable pub keys : Judged → Judgement (Unit {0})
keys e = needs (not (list_any (given_has unknown_keys) e.given)) e.line kind.UnknownKey

-- an attribute has a variable that is neither a global nor a local in scope
abbrev pub lack : Names → List Name → Judged → Bool
lack names locals e = list_any (given_has (unknown_variables names.globals locals)) e.given

unfoldable pub variables : Names → List Name → Judged → Judgement (Unit {0})
variables names locals e = needs (not (lack names locals e)) e.line kind.UnknownVariable

-- the checks of an element that look at nothing in it
unfoldable pub sound : Names → List Name → Judged → Judgement (Unit {0})
sound names locals e = do
  _ ← once locals e  -- DuplicateVariable
  _ ← target names e  -- UnknownTemplate
  _ ← keys e  -- UnknownKey
  variables names locals e  -- UnknownVariable

-- the locals in scope behind a node
abbrev pub behind : List Name → Item → List Name
behind locals i = elim (out-Item i) [ Item-F.Text text ↦ locals | Item-F.Element e ↦ with_some locals (variable_name e) ]

abbrev pub item_of : (List Name → Judged → Judgement (Unit {0})) → List Name → Item → Judgement (Unit {0})
item_of f locals i = elim (out-Item i) [ Item-F.Text text ↦ gives tt | Item-F.Element e ↦ f locals e ]

-- nodes from the left, each with the locals in scope before it
abbrev pub all : (List Name → Judged → Judgement (Unit {0})) → List Name → List Item → Judgement (Unit {0})
all f locals [] = gives tt
all f locals (i ∷ is) = do
  _ ← item_of f locals i
  all f (behind locals i) is

-- an element: its own checks, and then its content
abbrev pub layer : (List Name → Judged → Judgement (Unit {0})) → Names → List Name → Judged → Judgement (Unit {0})
layer f names locals e = do
  _ ← sound names locals e
  all f locals e.children

-- the same with so many levels left; the first pass lets no more than 100 elements stand in each other
unfoldable pub checked : ℕ → Names → List Name → Judged → Judgement (Unit {0})
checked zero names locals e = refuses e.line kind.SheetTooDeep
checked (suc levels) names locals e = layer (checked levels names) names locals e

-- a top-level element, by the names that those before it declare
unfoldable pub new_template : Names → Judged → Judgement (Unit {0})
new_template earlier e = needs (not (repeats earlier.templates.names (template_name e))) e.line kind.DuplicateTemplate

unfoldable pub new_global : Names → Judged → Judgement (Unit {0})
new_global earlier e = needs (not (repeats earlier.globals (variable_name e))) e.line kind.DuplicateVariable

unfoldable pub top : Names → Names → Judged → Judgement (Unit {0})
top names earlier e = do
  _ ← new_template earlier e  -- DuplicateTemplate
  _ ← new_global earlier e  -- DuplicateVariable
  checked 100 names [] e

abbrev pub top_item : Names → Names → Item → Judgement (Unit {0})
top_item names earlier i = elim (out-Item i) [ Item-F.Text text ↦ gives tt | Item-F.Element e ↦ top names earlier e ]

abbrev pub tops : Names → Names → List Item → Judgement (Unit {0})
tops names earlier [] = gives tt
tops names earlier (i ∷ is) = do
  _ ← top_item names earlier i
  tops names (with_item earlier i) is

-- the top-level elements of a stylesheet: the names that they declare, or the first fault
unfoldable pub checked_names : List Item → Judgement Names
checked_names items = do
  _ ← tops (names_of items) no_names items
  gives (names_of items)
