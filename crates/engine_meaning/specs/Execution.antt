-- What instructions do (XSLT 1.0, sections 5 to 11 and 13). Each takes a unit of the budget first; then its effects come in the order in which they stand here.
use Rattle.std.specs.Prelude.{ℕ, zero, suc, List, [], ◌∷◌, ◌++◌, map, Bool, true, false, Option, Some, None, option_map, slice_get}
use Rattle.copy_meaning.specs.Copies.{made_of, result_name}
use Rattle.doc_model.specs.declared.row.Kind.{Kind}
use Rattle.doc_model.specs.declared.row.Kind.TheVariants as kind
use Rattle.doc_model.specs.declared.row.Row.{Row}
use Rattle.fault_kinds.specs.declared.fault.FaultKind.TheVariants.{TooDeep, Terminated}
use Rattle.result_events.specs.declared.event.ResultEvent.{ResultEvent}
use Rattle.result_events.specs.declared.event.ResultEvent.TheVariants as event
use Rattle.rule_choice.specs.Choice.{choice_of}
use Rattle.sheet_ast.specs.declared.instruction.Instruction.{Instruction}
use Rattle.sheet_ast.specs.declared.instruction.Instruction.TheOpen.{Instruction-F, Variable-F, VarValue-F, When-F}
use Rattle.sheet_ast.specs.declared.instruction.Instruction.TheFolds.{fold-Instruction, fold-Variable, fold-VarValue, fold-When}
use Rattle.sheet_ast.specs.declared.instruction.LiteralAttr.{LiteralAttr}
use Rattle.sheet_ast.specs.declared.instruction.Variable.{Variable}
use Rattle.sheet_ast.specs.declared.instruction.VarValue.{VarValue}
use Rattle.sheet_ast.specs.declared.instruction.When.{When}
use Rattle.sheet_ast.specs.declared.sheet.Rule.{Rule}
use Rattle.sheet_ast.specs.declared.sheet.Template.{Template}
use Rattle.xpath_syntax.specs.declared.expression.Expr.{Expr}
use Rattle.xpath_syntax.specs.declared.expression.NameRef.{NameRef}
use Rattle.xpath_values.specs.Conversions as atoms
use Rattle.xpath_values.specs.Fragments as fragments
use Rattle.xpath_values.specs.declared.value.Value.{Value}
use Rattle.xpath_values.specs.declared.value.Value.TheVariants.{Nodes, Atom, Fragment}
use Rattle.xpath_meaning.specs.declared.context.Context.{Context}
use Rattle.xpath_meaning.specs.Conversions.{text}
use Rattle.engine_meaning.specs.Events.{name_of, outer_text}
use Rattle.engine_meaning.specs.Items.{selected, children_of}
use Rattle.engine_meaning.specs.Places.{World, Setting, Place, place, with_local, Given, given_as}
use Rattle.engine_meaning.specs.Questions.{value_at, text_at, truth_at, template_text, name_at, target_at, row_here}
use Rattle.engine_meaning.specs.Runs.{Run, ◌>>=◌, ◌>>◌, pure, fail, ask, spend, emit, emit_all, tell, apart}

-- what is instantiated: the template that a node has in a mode, or the one at a place in the sheet, which is called by its name
pub data Called : Type 0 where
  InMode : ℕ → Called
  Named : ℕ → Called

-- templates with the values that are handed on, at a context
abbrev pub Templates : Type 0
Templates = Called → List Given → Context → Run (Unit {0})

-- what an instruction does at a place, where templates do this: a run, which gives the locals in scope behind it
abbrev pub Action : Type 0
Action = Setting → Templates → Place → Run (List Value)

-- what gives a variable its value
abbrev pub Giving : Type 0
Giving = Setting → Templates → Place → Run Value

-- a variable, a parameter or a value that is handed on
pub record Binding : Type 0 where
  pub name : NameRef
  pub value : Giving

-- a test and a body
pub record Case : Type 0 where
  pub test : Expr
  pub body : Action

-- the instructions of a body, each with the locals that those before it add
abbrev pub in_order : List Action → Action
in_order [] W call c = pure c.locals
in_order (a ∷ as') W call c = a W call c >>= λ locals. in_order as' W call (place c.context locals)

-- a body whose locals end with it
abbrev pub within : List Action → Setting → Templates → Place → Run (Unit {0})
within body W call c = in_order body W call c >> pure tt

-- a body that is run apart, with the events that it makes
abbrev pub made_apart : List Action → Setting → Templates → Place → Run (List ResultEvent)
made_apart body W call c = apart (in_order body W call c)

abbrev pub if_true : Bool → Run (Unit {0}) → Run (Unit {0})
if_true true run = run
if_true false run = pure tt

-- the attributes of a literal result element, in order: the value of each, and then its event
abbrev pub attributes_in : List LiteralAttr → Setting → Place → Run (Unit {0})
attributes_in [] W c = pure tt
attributes_in (attribute ∷ more) W c = ask (template_text W c attribute.value) >>= λ value. emit (event.Attr (name_of attribute.name) value) >> attributes_in more W c

-- the copies of nodes, in order, each whole before the next
abbrev pub copies_in : World → List ℕ → Run (Unit {0})
copies_in w [] = pure tt
copies_in w (n ∷ ns) = ask (w.copy n) >>= λ events. emit_all events >> copies_in w ns

-- a value is copied: the nodes of a node-set, the events of a fragment, or else a text
abbrev pub value_copied : World → Value → Run (Unit {0})
value_copied w (Nodes nodes) = copies_in w nodes
value_copied w (Atom atom) = emit (event.Text (atoms.text_of atom))
value_copied w (Fragment events) = emit_all events

-- the current node is copied, without its attributes and children: an element's start and end around the body, the body of the root, and any other node itself
abbrev pub shallow : Kind → Row → List Action → Setting → Templates → Place → Run (Unit {0})
shallow kind.Root row body W call c = within body W call c
shallow kind.Element row body W call c = emit (event.Start (result_name row)) >> within body W call c >> emit event.End
shallow kind.Attribute row body W call c = emit_all (made_of kind.Attribute row [] [])
shallow kind.Text row body W call c = emit_all (made_of kind.Text row [] [])
shallow kind.Instruction row body W call c = emit_all (made_of kind.Instruction row [] [])
shallow kind.Comment row body W call c = emit_all (made_of kind.Comment row [] [])

-- the tests in order, up to the first that holds, and its body; where none holds, what there is otherwise
abbrev pub if_else : Bool → Run (Unit {0}) → Run (Unit {0}) → Run (Unit {0})
if_else true run other = run
if_else false run other = other

abbrev pub otherwise_does : Option (List Action) → Setting → Templates → Place → Run (Unit {0})
otherwise_does None W call c = pure tt
otherwise_does (Some body) W call c = within body W call c

abbrev pub chosen_case : List Case → Option (List Action) → Setting → Templates → Place → Run (Unit {0})
chosen_case [] otherwise W call c = otherwise_does otherwise W call c
chosen_case (k ∷ ks) otherwise W call c = ask (truth_at W c k.test) >>= λ holds. if_else holds (k.body W call c >> pure tt) (chosen_case ks otherwise W call c)

-- the values that are handed on, in the order of the sheet
abbrev pub handed : List Binding → Setting → Templates → Place → Run (List Given)
handed [] W call c = pure []
handed (b ∷ bs) W call c = b.value W call c >>= λ value. handed bs W call c >>= λ given. pure (record { name = b.name; value = value } ∷ given)

abbrev pub terminated : Bool → Run (Unit {0})
terminated true = fail Terminated
terminated false = pure tt

-- an instruction that has its unit, by what those in it do
abbrev pub acts : Instruction-F Action Giving Binding Case → Action
-- xsl:text and text: a text
acts (Instruction-F.LiteralText bytes) W call c = emit (event.Text bytes) >> pure c.locals
-- a literal result element: its start; for each attribute its value and then the attribute; the body; the end
acts (Instruction-F.LiteralElement name attributes body) W call c =
    emit (event.Start (name_of name)) >> attributes_in attributes W c >> within body W call c >> emit event.End >> pure c.locals
-- xsl:value-of: the string of the select; a text
acts (Instruction-F.ValueOf select) W call c = ask (text_at W c select) >>= λ string. emit (event.Text string) >> pure c.locals
-- xsl:copy-of: the value; its copy
acts (Instruction-F.CopyOf select) W call c = ask (value_at W c select) >>= λ value. value_copied W.world value >> pure c.locals
-- xsl:copy
acts (Instruction-F.Copy body) W call c = ask (row_here W c) >>= λ row. shallow row.kind row body W call c >> pure c.locals
-- xsl:element: the name, the namespace; the start; the body; the end
acts (Instruction-F.Element name namespace scope body) W call c =
    ask (name_at W c false name namespace scope) >>= λ name. emit (event.Start name) >> within body W call c >> emit event.End >> pure c.locals
-- xsl:attribute: the name, the namespace; the body apart; an attribute
acts (Instruction-F.Attribute name namespace scope body) W call c =
    ask (name_at W c true name namespace scope) >>= λ name. made_apart body W call c >>= λ made. emit (event.Attr name (outer_text made)) >> pure c.locals
-- xsl:processing-instruction: the target; the body apart; an instruction
acts (Instruction-F.Processing name body) W call c =
    ask (target_at W c name) >>= λ target. made_apart body W call c >>= λ made. emit (event.Instruction target (outer_text made)) >> pure c.locals
-- xsl:comment: the body apart; a comment
acts (Instruction-F.Comment body) W call c = made_apart body W call c >>= λ made. emit (event.Comment (outer_text made)) >> pure c.locals
-- xsl:message: the body apart; its text is kept; then the end, where it is asked for
acts (Instruction-F.Message terminate body) W call c = made_apart body W call c >>= λ made. tell (fragments.text_of made) >> terminated terminate >> pure c.locals
-- xsl:if: the test; the body, where it holds
acts (Instruction-F.If test body) W call c = ask (truth_at W c test) >>= λ holds. if_true holds (within body W call c) >> pure c.locals
-- xsl:choose: the tests in order, up to the first that holds; its body
acts (Instruction-F.Choose whens otherwise) W call c = chosen_case whens otherwise W call c >> pure c.locals
-- xsl:variable: its value, which is a local from then on
acts (Instruction-F.Local variable) W call c = variable.value W call c >>= λ value. pure (c.locals ++ value ∷ [])
-- xsl:apply-templates: the values that are handed on; the select, sorted; at each item its template
acts (Instruction-F.Apply select mode sorts params) W call c = handed params W call c >>= λ given. selected W c select sorts (call (InMode mode) given) >> pure c.locals
-- xsl:for-each: the select, sorted; at each item the body
acts (Instruction-F.ForEach select sorts body) W call c = selected W c select sorts (λ item. within body W call (place item c.locals)) >> pure c.locals
-- xsl:call-template: the values that are handed on; the template at the same context
acts (Instruction-F.CallTemplate template params) W call c = handed params W call c >>= λ given. call (Named template) given c.context >> pure c.locals

-- every instruction takes a unit first
abbrev pub spends : Instruction-F Action Giving Binding Case → Action
spends i W call c = spend >> acts i W call c

abbrev pub binding_by : Variable-F Action Giving Binding Case → Binding
binding_by variable = record { name = variable.name; value = variable.value }

-- the value of a select; or the events of the body, which is run apart; or the empty text
abbrev pub giving_by : VarValue-F Action Giving Binding Case → Giving
giving_by (VarValue-F.Select select) W call c = ask (value_at W c select)
giving_by (VarValue-F.Content body) W call c = made_apart body W call c >>= λ made. pure (Fragment made)
giving_by VarValue-F.Empty W call c = pure (text [])

abbrev pub case_by : When-F Action Giving Binding Case → Case
case_by when = record { test = when.test; body = in_order when.body }

unfoldable pub does : Instruction → Action
does = fold-Instruction Action Giving Binding Case spends giving_by binding_by case_by

unfoldable pub binding_of : Variable → Binding
binding_of = fold-Variable Action Giving Binding Case spends giving_by binding_by case_by

unfoldable pub giving_of : VarValue → Giving
giving_of = fold-VarValue Action Giving Binding Case spends giving_by binding_by case_by

unfoldable pub case_of : When → Case
case_of = fold-When Action Giving Binding Case spends giving_by binding_by case_by

-- the instructions of a body, in order
abbrev pub body_does : List Instruction → Action
body_does body = in_order (map does body)

abbrev pub or_own : Option Value → Run Value → Run Value
or_own (Some value) own = pure value
or_own None own = own

-- the parameters of a template, in order: a unit, and then the value that is handed on, or else its own
abbrev pub params_in : List Binding → List Given → Setting → Templates → Place → Run (List Value)
params_in [] given W call c = pure c.locals
params_in (p ∷ ps) given W call c = spend >> or_own (given_as p.name given) (p.value W call c) >>= λ value. params_in ps given W call (with_local c value)

abbrev pub instantiated : Option Template → List Given → Setting → Templates → Context → Run (Unit {0})
instantiated None given W call x = pure tt
instantiated (Some template) given W call x =
    params_in (map binding_of template.params) given W call (place x []) >>= λ locals. body_does template.body W call (place x locals) >> pure tt

-- the built-in rules (XSLT 1.0, section 5.8): of the root and of elements they apply templates to the children, in the same mode and without values handed on; of texts and attributes they give the string-value; of instructions and comments nothing. What they do with a node takes one more unit.
abbrev pub built_in_of : Kind → Called → Setting → Templates → Context → Run (Unit {0})
built_in_of kind.Root called W call x = spend >> children_of W x.node (call called [])
built_in_of kind.Element called W call x = spend >> children_of W x.node (call called [])
built_in_of kind.Attribute called W call x = spend >> ask (W.world.reading.value x.node) >>= λ value. emit (event.Text value)
built_in_of kind.Text called W call x = spend >> ask (W.world.reading.value x.node) >>= λ value. emit (event.Text value)
built_in_of kind.Instruction called W call x = pure tt
built_in_of kind.Comment called W call x = pure tt

-- a template of the sheet, or the built-in rule
abbrev pub template_does : Option ℕ → Called → List Given → Setting → Templates → Context → Run (Unit {0})
template_does None called given W call x = ask (W.world.reading.row x.node) >>= λ row. built_in_of row.kind called W call x
template_does (Some template) called given W call x = instantiated (slice_get W.sheet.templates template) given W call x

abbrev pub template_of : List Rule → Option ℕ → Option ℕ
template_of rules None = None
template_of rules (Some rule) = option_map (λ (r : Rule). r.template) (slice_get rules rule)

-- the place of the template that is instantiated; none for the built-in rule
abbrev pub chosen : Setting → Called → Context → Run (Option ℕ)
chosen W (InMode mode) x = ask (choice_of W.world.reading W.sheet.rules mode x.node) >>= λ rule. pure (template_of W.sheet.rules rule)
chosen W (Named template) x = pure (Some template)

-- templates, where so many more may be nested: the choice; TooDeep, where none may; a unit; and then what the template does
abbrev pub templates : ℕ → Setting → Templates
templates zero W called given x = chosen W called x >>= λ template. fail TooDeep
templates (suc more) W called given x = chosen W called x >>= λ template. spend >> template_does template called given W (templates more W) x

-- at most so many templates are nested
abbrev pub most_nested : ℕ
most_nested = 500

-- what instructions do where so many more templates may be nested, from a state: their run, which gives the locals behind them
abbrev pub execution_of : Setting → ℕ → List Instruction → Place → Run (List Value)
execution_of W more body c = body_does body W (templates more W) c
