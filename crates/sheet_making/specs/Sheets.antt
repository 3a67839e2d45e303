-- The stylesheet that top-level elements are (XSLT 1.0, section 2.2).
use Rattle.std.specs.Prelude.{ℕ, suc, Bool, true, false, List, [], ◌∷◌, ◌++◌, map, if◌then◌else◌, Option, None, unwrap_or}
use Rattle.std.specs.List.{flat_map}
use Rattle.std.specs.Option.{option_or}
use Rattle.engine_meaning.specs.Sizes.{asks_size}
use Rattle.sheet_ast.specs.declared.instruction.Variable.{Variable, out-Variable}
use Rattle.sheet_ast.specs.declared.sheet.Global.{Global}
use Rattle.sheet_ast.specs.declared.sheet.Rule.{Rule}
use Rattle.sheet_ast.specs.declared.sheet.Sheet.{Sheet}
use Rattle.sheet_ast.specs.declared.sheet.StripRuleDecl.{StripRuleDecl}
use Rattle.sheet_ast.specs.declared.sheet.Template.{Template}
use Rattle.sheet_elements.specs.declared.tag.Tag.TheVariants as tag
use Rattle.sheet_elements.specs.declared.tag.Word.TheVariants as word
use Rattle.sheet_elements.specs.Names.{same_tag}
use Rattle.sheet_names.specs.declared.declaring.Names.{Names}
use Rattle.sheet_names.specs.Declaring.{is_variable, template_name}
use Rattle.sheet_reading.specs.declared.tree.Item.{Item}
use Rattle.sheet_reading.specs.declared.tree.Item.TheViews.{out-Item}
use Rattle.sheet_reading.specs.declared.tree.Item.TheOpen.{Item-F}
use Rattle.sheet_reading.specs.declared.tree.Judged.{Judged}
use Rattle.sheet_scopes.specs.declared.scope.ScopeEntry.{ScopeEntry}
use Rattle.sheet_values.specs.declared.value.NameTest.{NameTest}
use Rattle.sheet_making.specs.Scopes.{Scope}
use Rattle.sheet_making.specs.Attributes.{choice_in, tests_in}
use Rattle.sheet_names.specs.Values.{first_value}
use Rattle.sheet_making.specs.Instructions.{content_of, variable}
use Rattle.sheet_making.specs.Rules.{rules}

-- what an element gives; a text gives nothing
abbrev pub by_element : {A : Type 0} → (Judged → List A) → Item → List A
by_element f i = elim (out-Item i) [ Item-F.Text text ↦ [] | Item-F.Element e ↦ f e ]

-- no local is in scope at a top-level element
abbrev pub outside : Names → Bool → Scope
outside names streams = record { names = names; locals = []; streams = streams }

abbrev pub template_of : Names → Bool → Judged → Template
template_of names streams e = record {
  name = template_name e;
  params = (content_of (outside names streams) e).variables;
  body = (content_of (outside names streams) e).body;
  line = e.line;
}

abbrev pub is_template : Judged → Bool
is_template e = same_tag e.tag tag.Template

abbrev pub template_in : Names → Bool → Judged → List Template
template_in names streams e = if is_template e then template_of names streams e ∷ [] else []

abbrev pub templates : Names → Bool → List Item → List Template
templates names streams items = flat_map (by_element (template_in names streams)) items

-- the rules of a template that stands at a place among all
abbrev pub rules_at : Names → Bool → ℕ → Judged → List Rule
rules_at names streams place e = if is_template e then rules names streams e place else []

-- the place of the next template
abbrev pub place_by : ℕ → Judged → ℕ
place_by place e = if is_template e then suc place else place

abbrev pub place_behind : ℕ → Item → ℕ
place_behind place i = elim (out-Item i) [ Item-F.Text text ↦ place | Item-F.Element e ↦ place_by place e ]

-- the rules of the templates, of which the first has this place among all
abbrev pub rules_from : Names → Bool → ℕ → List Item → List Rule
rules_from names streams place [] = []
rules_from names streams place (i ∷ is) = by_element (rules_at names streams place) i ++ rules_from names streams (place_behind place i) is

-- the variable or parameter that a top-level element is
abbrev pub variable_of : Names → Bool → Judged → Variable
variable_of names streams e = variable (same_tag e.tag tag.Param) (outside names streams) e (content_of (outside names streams) e).body

abbrev pub global_of : Names → Bool → Judged → Global
global_of names streams e = record {
  name = (out-Variable (variable_of names streams e)).name;
  value = (out-Variable (variable_of names streams e)).value;
  param = same_tag e.tag tag.Param;
}

abbrev pub global_in : Names → Bool → Judged → List Global
global_in names streams e = if is_variable e.tag then global_of names streams e ∷ [] else []

abbrev pub globals : Names → Bool → List Item → List Global
globals names streams items = flat_map (by_element (global_in names streams)) items

abbrev pub strip_rule : Bool → NameTest → StripRuleDecl
strip_rule strip t = record { strip = strip; uri = t.uri; local = t.local; precedence = 0 }

abbrev pub strip_rules : Bool → Judged → List StripRuleDecl
strip_rules strip e = map (strip_rule strip) (unwrap_or (first_value tests_in word.Elements e.given) [])

abbrev pub strips_of : Judged → List StripRuleDecl
strips_of e = if same_tag e.tag tag.StripSpace then strip_rules true e else if same_tag e.tag tag.PreserveSpace then strip_rules false e else []

abbrev pub strips : List Item → List StripRuleDecl
strips items = flat_map (by_element strips_of) items

-- whether the method is text: the last xsl:output with a method decides
abbrev pub method_of : Judged → Option Bool
method_of e = if same_tag e.tag tag.Output then first_value choice_in word.Method e.given else None

abbrev pub method_in : Item → Option Bool
method_in i = elim (out-Item i) [ Item-F.Text text ↦ None | Item-F.Element e ↦ method_of e ]

abbrev pub last_method : List Item → Option Bool
last_method [] = None
last_method (i ∷ is) = option_or (last_method is) (method_in i)

-- the stylesheet, where the nodes of its paths may be taken one by one or not
unfoldable pub sheet_with : Bool → Names → List ScopeEntry → List Item → Sheet
sheet_with streams names scopes items = record {
  rules = rules_from names streams 0 items;
  templates = templates names streams items;
  globals = globals names streams items;
  keys = [];
  strips = strips items;
  scopes = scopes;
  text_method = unwrap_or (last_method items) false;
}

-- paths are taken one by one where no expression asks for a size outside predicates
unfoldable pub marked : Names → List Item → Sheet
marked names items = if asks_size (sheet_with true names [] items) then sheet_with false names [] items else sheet_with true names [] items

abbrev pub sheet_of : Names → List ScopeEntry → List Item → Sheet
sheet_of names scopes items = record (marked names items) { scopes = scopes }
