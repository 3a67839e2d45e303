-- The names that the elements of a stylesheet declare and call.
use Rattle.std.specs.Prelude.{◌+◌, Bool, ◌||◌, List, [], ◌∷◌, ◌++◌, if◌then◌else◌, Option, Some, None}
use Rattle.std.specs.List.{list_any}
use Rattle.sheet_elements.specs.declared.tag.Tag.{Tag}
use Rattle.sheet_elements.specs.declared.tag.Tag.TheVariants as tag
use Rattle.sheet_elements.specs.declared.tag.Word.{Word}
use Rattle.sheet_elements.specs.declared.tag.Word.TheVariants as word
use Rattle.sheet_elements.specs.Names.{same_tag}
use Rattle.sheet_reading.specs.declared.tree.Given.{Given}
use Rattle.sheet_reading.specs.declared.tree.Item.{Item}
use Rattle.sheet_reading.specs.declared.tree.Item.TheViews.{out-Item}
use Rattle.sheet_reading.specs.declared.tree.Item.TheOpen.{Item-F}
use Rattle.sheet_reading.specs.declared.tree.Judged.{Judged}
use Rattle.sheet_values.specs.declared.value.Value.{Value}
use Rattle.sheet_values.specs.declared.value.Value.TheVariants as value
use Rattle.xpath_syntax.specs.declared.expression.NameRef.{NameRef}
use Rattle.sheet_names.specs.declared.declaring.Names.{Names}
use Rattle.sheet_names.specs.declared.declaring.Templates.{Templates}
use Rattle.sheet_names.specs.Values.{first_value}
use Rattle.sheet_names.specs.Names.{expanded, same_name, with_name, with_some}

abbrev pub name_in : Value → Option NameRef
name_in (value.Name name) = Some name
name_in _ = None

-- the first name under a word
abbrev pub first_name : Word → List Given → Option NameRef
first_name w given = first_value name_in w given

abbrev pub name_where : Bool → Word → Judged → Option NameRef
name_where test w e = if test then first_name w e.given else None

-- the name of a template, of a template that is called, and of a mode that a template has (sections 5.2, 6 and 5.7)
abbrev pub template_name : Judged → Option NameRef
template_name e = name_where (same_tag e.tag tag.Template) word.Name e

abbrev pub called_name : Judged → Option NameRef
called_name e = name_where (same_tag e.tag tag.CallTemplate) word.Name e

abbrev pub mode_name : Judged → Option NameRef
mode_name e = name_where (same_tag e.tag tag.Template) word.Mode e

abbrev pub is_variable : Tag → Bool
is_variable t = same_tag t tag.Variable || same_tag t tag.Param

-- the name of a variable or a parameter (section 11)
abbrev pub variable_name : Judged → Option NameRef
variable_name e = name_where (is_variable e.tag) word.Name e

-- one more template, which may have a name
abbrev pub with_named : Templates → NameRef → Templates
with_named t name =
    if list_any (same_name (expanded name)) t.names then t else record { names = with_name t.names (expanded name); places = t.places ++ t.count ∷ []; count = t.count }

abbrev pub named : Templates → Option NameRef → Templates
named t None = t
named t (Some name) = with_named t name

abbrev pub counted : Templates → Templates
counted t = record { names = t.names; places = t.places; count = t.count + 1 }

abbrev pub with_template : Templates → Judged → Templates
with_template t e = if same_tag e.tag tag.Template then counted (named t (template_name e)) else t

-- the names behind a top-level element
abbrev pub with_top : Names → Judged → Names
with_top names e = record {
  templates = with_template names.templates e;
  globals = with_some names.globals (variable_name e);
  modes = with_some names.modes (mode_name e);
}

abbrev pub with_item : Names → Item → Names
with_item names i = elim (out-Item i) [ Item-F.Text text ↦ names | Item-F.Element e ↦ with_top names e ]

abbrev pub names_from : Names → List Item → Names
names_from names [] = names
names_from names (i ∷ is) = names_from (with_item names i) is

abbrev pub no_names : Names
no_names = record { templates = record { names = []; places = []; count = 0 }; globals = []; modes = [] }

-- the names that top-level elements declare, in document order
unfoldable pub names_of : List Item → Names
names_of items = names_from no_names items
