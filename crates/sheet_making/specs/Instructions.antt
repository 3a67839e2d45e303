-- The instructions that elements are (XSLT 1.0, sections 5 to 11 and 13), each by what the elements in it make.
use Rattle.std.specs.Prelude.{ℕ, zero, suc, Bool, true, false, List, [], ◌∷◌, Option, Some, None}
use Rattle.std.specs.List.{flat_map}
use Rattle.sheet_ast.specs.declared.instruction.Instruction.{Instruction}
use Rattle.sheet_ast.specs.declared.instruction.Instruction.TheVariants as does
use Rattle.sheet_ast.specs.declared.instruction.Variable.{Variable, roll-Variable}
use Rattle.sheet_ast.specs.declared.instruction.VarValue.{VarValue}
use Rattle.sheet_ast.specs.declared.instruction.VarValue.TheVariants as gives
use Rattle.sheet_ast.specs.declared.instruction.When.{roll-When}
use Rattle.sheet_elements.specs.declared.tag.Tag.{Tag}
use Rattle.sheet_elements.specs.declared.tag.Tag.TheVariants as tag
use Rattle.sheet_elements.specs.declared.tag.Word.TheVariants as word
use Rattle.sheet_names.specs.declared.declaring.Names.{Names}
use Rattle.sheet_names.specs.Declaring.{first_name}
use Rattle.sheet_names.specs.Judging.{behind}
use Rattle.sheet_reading.specs.declared.tree.Given.{Given}
use Rattle.sheet_reading.specs.declared.tree.Item.{Item}
use Rattle.sheet_reading.specs.declared.tree.Item.TheViews.{out-Item}
use Rattle.sheet_reading.specs.declared.tree.Item.TheOpen.{Item-F}
use Rattle.sheet_reading.specs.declared.tree.Judged.{Judged}
use Rattle.xpath_syntax.specs.declared.expression.Expr.{Expr}
use Rattle.sheet_making.specs.declared.made.Made.{Made}
use Rattle.sheet_making.specs.declared.made.Made.TheVariants.{Does, Binds, Sorts, Cases, Else, Nothing}
use Rattle.sheet_making.specs.declared.content.Content.{Content}
use Rattle.sheet_making.specs.Contents.{content}
use Rattle.sheet_making.specs.Scopes.{Scope}
use Rattle.sheet_making.specs.Attributes.{bound, expression, expression_in, is_second, literal_attributes, mode_number, name_of, ready, select_of_children}
use Rattle.sheet_names.specs.Values.{first_value}
use Rattle.sheet_making.specs.Attributes.{sort, some_template, template, template_number}

-- the text of xsl:text
abbrev pub text_in : Item → List ℕ
text_in i = elim (out-Item i) [ Item-F.Text text ↦ text | Item-F.Element e ↦ [] ]

abbrev pub texts : List Item → List ℕ
texts items = flat_map text_in items

abbrev pub content_or_empty : List Instruction → VarValue
content_or_empty [] = gives.Empty
content_or_empty (i ∷ is) = gives.Content (i ∷ is)

-- a select, or else a body, or else nothing (section 11.2)
abbrev pub value_by : Scope → Option Expr → List Instruction → VarValue
value_by S (Some e) instructions = gives.Select (ready S e)
value_by S None instructions = content_or_empty instructions

abbrev pub variable : Bool → Scope → Judged → List Instruction → Variable
variable param S e instructions =
    roll-Variable (record { name = name_of e.given; value = value_by S (first_value expression_in word.Select e.given) instructions; param = param })

abbrev pub mode : Names → List Given → ℕ
mode names given = mode_number names.modes (first_name word.Mode given)

-- an element by its tag, with what the nodes in it make
abbrev pub make : Tag → Scope → Judged → Content → Made
make tag.Variable S e c = Does (does.Local (variable false S e c.body))
make tag.Param S e c = Binds (variable true S e c.body)
make tag.WithParam S e c = Binds (variable false S e c.body)
make tag.Sort S e c = Sorts (sort S e.given)
make tag.When S e c = Cases (roll-When (record { test = expression S word.Test e.given; body = c.body }))
make tag.Otherwise S e c = Else c.body
make tag.ApplyTemplates S e c =
    Does (does.Apply (select_of_children S e.given) (mode S.names e.given) c.sorts c.variables)
make tag.CallTemplate S e c = Does (does.CallTemplate (template_number S.names (name_of e.given)) c.variables)
make tag.ForEach S e c = Does (does.ForEach (expression S word.Select e.given) c.sorts c.body)
make tag.ValueOf S e c = Does (does.ValueOf (expression S word.Select e.given))
make tag.CopyOf S e c = Does (does.CopyOf (expression S word.Select e.given))
make tag.Copy S e c = Does (does.Copy c.body)
make tag.Element S e c = Does (does.Element (template S word.Name e.given) (some_template S word.Namespace e.given) e.scope c.body)
make tag.Attribute S e c = Does (does.Attribute (template S word.Name e.given) (some_template S word.Namespace e.given) e.scope c.body)
make tag.ProcessingInstruction S e c = Does (does.Processing (template S word.Name e.given) c.body)
make tag.Comment S e c = Does (does.Comment c.body)
make tag.Text S e c = Does (does.LiteralText (texts e.children))
make tag.Message S e c = Does (does.Message (is_second word.Terminate e.given) c.body)
make tag.If S e c = Does (does.If (expression S word.Test e.given) c.body)
make tag.Choose S e c = Does (does.Choose c.cases c.otherwise)
make tag.Literal S e c = Does (does.LiteralElement (bound e.name) (literal_attributes S e.given) c.body)
make _ S e c = Nothing

abbrev pub item_makes : (Scope → Judged → Made) → Scope → Item → Made
item_makes f S i = elim (out-Item i) [ Item-F.Text text ↦ Does (does.LiteralText text) | Item-F.Element e ↦ f S e ]

-- nodes from the left, each with the locals in scope before it
abbrev pub each_makes : (Scope → Judged → Made) → Scope → List Item → List Made
each_makes f S [] = []
each_makes f S (i ∷ is) = item_makes f S i ∷ each_makes f (record { names = S.names; locals = behind S.locals i; streams = S.streams }) is

abbrev pub all_make : (Scope → Judged → Made) → Scope → List Item → Content
all_make f S items = content (each_makes f S items)

abbrev pub layer : (Scope → Judged → Made) → Scope → Judged → Made
layer f S e = make e.tag S e (all_make f S e.children)

-- the same with so many levels left; the first pass lets no more than 100 elements stand in each other
unfoldable pub makes : ℕ → Scope → Judged → Made
makes zero S e = Nothing
makes (suc levels) S e = layer (makes levels) S e

-- what stands in a top-level element
abbrev pub content_of : Scope → Judged → Content
content_of S e = all_make (makes 100) S e.children
