-- What a stylesheet does stays, and what waits goes on.
use Rattle.std.proofs.Common.{◌≡◌, sym, ap, ◌∙◌, subst, ℕ, zero, suc, List, [], ◌∷◌, ◌++◌, map, Bool, true, false, Option, Some, None}
use Rattle.std.specs.Prelude.{slice_get}
use Rattle.copy_meaning.specs.Copies.{copy_of}
use Rattle.doc_model.specs.Answers.{Stays}
use Rattle.doc_model.specs.declared.node_test.Test.TheVariants as test
use Rattle.doc_model.specs.declared.row.Axis.TheVariants as axis
use Rattle.doc_model.specs.declared.row.Kind.{Kind}
use Rattle.doc_model.specs.declared.row.Kind.TheVariants as kind
use Rattle.doc_model.specs.declared.row.Row.{Row}
use Rattle.doc_model.specs.declared.step.Step.{Step}
use Rattle.fault_kinds.specs.declared.fault.FaultKind.TheVariants.{TooDeep, Terminated}
use Rattle.sheet_ast.specs.declared.instruction.Instruction.{Instruction, roll-Instruction}
use Rattle.sheet_ast.specs.declared.instruction.Instruction.TheOpen.{Instruction-F, Variable-F, VarValue-F, When-F}
use Rattle.sheet_ast.specs.declared.instruction.Instruction.TheFolds.{map-Instruction, map-Variable, map-VarValue, map-When, fold-roll-Instruction}
use Rattle.sheet_ast.specs.declared.instruction.Instruction.TheFolds.{fold-roll-Variable, fold-roll-VarValue, fold-roll-When, ind-Instruction}
use Rattle.sheet_ast.specs.declared.instruction.Instruction.TheFolds.{ind-Variable, ind-VarValue}
use Rattle.sheet_ast.specs.declared.instruction.LiteralAttr.{LiteralAttr}
use Rattle.sheet_ast.specs.declared.instruction.SortDecl.{SortDecl}
use Rattle.sheet_ast.specs.declared.instruction.Variable.{Variable, roll-Variable}
use Rattle.sheet_ast.specs.declared.instruction.VarValue.{VarValue, roll-VarValue}
use Rattle.sheet_ast.specs.declared.instruction.When.{When, roll-When}
use Rattle.sheet_ast.specs.declared.sheet.Global.{Global}
use Rattle.sheet_ast.specs.declared.sheet.Sheet.{Sheet}
use Rattle.sheet_ast.specs.declared.sheet.Template.{Template}
use Rattle.xpath_syntax.specs.declared.expression.Expr.{Expr}
use Rattle.xpath_values.specs.declared.value.Value.{Value}
use Rattle.xpath_values.specs.declared.value.Value.TheVariants.{Nodes, Atom, Fragment}
use Rattle.xpath_meaning.specs.declared.context.Context.{Context}
use Rattle.xpath_meaning.specs.Evaluation.{meant}
use Rattle.xpath_meaning.specs.Keys.{alone}
use Rattle.xpath_meaning.specs.Meanings.{Meaning}
use Rattle.xpath_meaning.specs.Reading.{Extends}
use Rattle.xpath_meaning.specs.Readings.{reading_of}
use Rattle.xpath_meaning.specs.Streams.{Stream}
use Rattle.xpath_laws.proofs.Keeping.{KeepsItemsIf}
use Rattle.xpath_laws.proofs.Expressions.{expr_keeps}
use Rattle.xpath_laws.proofs.Staying.{with_faults_stays}
use Rattle.engine_meaning.specs.Execution.{Called, InMode, Named, Templates, Action, Giving, Binding, Case, in_order, within, made_apart, if_true}
use Rattle.engine_meaning.specs.Execution.{attributes_in, copies_in, value_copied, shallow, if_else, otherwise_does, chosen_case, handed, terminated}
use Rattle.engine_meaning.specs.Execution.{acts, spends, binding_by, giving_by, case_by, does, binding_of, giving_of, case_of, body_does, or_own}
use Rattle.engine_meaning.specs.Execution.{params_in, instantiated, built_in_of, template_does, chosen, templates, most_nested, execution_of}
use Rattle.engine_meaning.specs.Items.{AtItem, unsorted, selected, children_by}
use Rattle.engine_meaning.specs.Meaning.{global_value, global_in, globals_in, undone, at_first, transforms, strip_rules_of, sheet_world, meaning_of}
use Rattle.engine_meaning.specs.Places.{World, Setting, setting, Place, place, with_local, Given, given_as}
use Rattle.engine_meaning.specs.Runs.{Run}
use Rattle.engine_meaning.specs.Sizes.{asks_size}
use Rattle.engine_laws.specs.Growing.{Continues, Later}
use Rattle.engine_laws.proofs.Keeping.{Keeps, bind_keeps, then_keeps, pure_keeps, fail_keeps, spend_keeps, emit_keeps, emit_all_keeps, tell_keeps, ask_keeps, apart_keeps, streamed_keeps, over_keeps}
use Rattle.engine_laws.proofs.Choosing.{choice_stays}
use Rattle.engine_laws.proofs.Asking.{value_stays, text_stays, truth_stays, nodes_stay, template_stays, name_stays, target_stays, row_stays, sorted_stay}

-- a fact of each
abbrev pub AllOf : {A : Type 0} → (A → Type 0) → List A → Type 0
AllOf P [] = Unit {0}
AllOf P (a ∷ as') = P a × AllOf P as'

module _ (sheet : Sheet) (globals : List Value) (w v : World) (x : Continues w v) where
  abbrev W : Setting
  W = setting sheet w globals

  abbrev V : Setting
  V = setting sheet v globals

  pub record TemplatesKeep (call dall : Templates) : Type 0 where
    pub at : (called : Called) (given : List Given) (y : Context) → Keeps (call called given y) (dall called given y)

  -- an action that keeps what it did
  abbrev ActionKeeps : Action → Type 0
  ActionKeeps a = (call dall : Templates) → TemplatesKeep call dall → (c : Place) → Keeps (a W call c) (a V dall c)

  abbrev GivingKeeps : Giving → Type 0
  GivingKeeps g = (call dall : Templates) → TemplatesKeep call dall → (c : Place) → Keeps (g W call c) (g V dall c)

  abbrev BindingKeeps : Binding → Type 0
  BindingKeeps b = GivingKeeps b.value

  abbrev CaseKeeps : Case → Type 0
  CaseKeeps k = ActionKeeps k.body

  order_keeps : (as' : List Action) → AllOf ActionKeeps as' → ActionKeeps (in_order as')
  order_keeps [] k call dall d c = pure_keeps c.locals
  order_keeps (a ∷ as') k call dall d c = bind_keeps (k.0 call dall d c) (λ locals. order_keeps as' k.1 call dall d (place c.context locals))

  pub within_keeps : (as' : List Action) → AllOf ActionKeeps as' → (call dall : Templates) → TemplatesKeep call dall → (c : Place) → Keeps (within as' W call c) (within as' V dall c)
  within_keeps as' k call dall d c = then_keeps (order_keeps as' k call dall d c) (pure_keeps tt)

  made_keeps : (as' : List Action) → AllOf ActionKeeps as' → (call dall : Templates) → TemplatesKeep call dall → (c : Place) → Keeps (made_apart as' W call c) (made_apart as' V dall c)
  made_keeps as' k call dall d c = apart_keeps (order_keeps as' k call dall d c)

  true_keeps : (b : Bool) {r q : Run (Unit {0})} → Keeps r q → Keeps (if_true b r) (if_true b q)
  true_keeps true k = k
  true_keeps false k = pure_keeps tt

  else_keeps : (b : Bool) {r q s t : Run (Unit {0})} → Keeps r q → Keeps s t → Keeps (if_else b r s) (if_else b q t)
  else_keeps true k l = k
  else_keeps false k l = l

  pub attributes_keep : (attributes : List LiteralAttr) (c : Place) → Keeps (attributes_in attributes W c) (attributes_in attributes V c)
  attributes_keep [] c = pure_keeps tt
  attributes_keep (attribute ∷ more) c = bind_keeps (ask_keeps _ _ (template_stays sheet globals w v x c attribute.value)) (λ value. then_keeps (emit_keeps _) (attributes_keep more c))

  pub copies_keep : (ns : List ℕ) → Keeps (copies_in w ns) (copies_in v ns)
  copies_keep [] = pure_keeps tt
  copies_keep (n ∷ ns) = bind_keeps (ask_keeps _ _ (x.copy n)) (λ events. then_keeps (emit_all_keeps events) (copies_keep ns))

  copied_keeps : (value : Value) → Keeps (value_copied w value) (value_copied v value)
  copied_keeps (Nodes nodes) = copies_keep nodes
  copied_keeps (Atom atom) = emit_keeps _
  copied_keeps (Fragment events) = emit_all_keeps events

  shallow_keeps : (k : Kind) (row : Row) (body : List Action) → AllOf ActionKeeps body → (call dall : Templates) → TemplatesKeep call dall → (c : Place)
      → Keeps (shallow k row body W call c) (shallow k row body V dall c)
  shallow_keeps kind.Root row body k call dall d c = within_keeps body k call dall d c
  shallow_keeps kind.Element row body k call dall d c = then_keeps (then_keeps (emit_keeps _) (within_keeps body k call dall d c)) (emit_keeps _)
  shallow_keeps kind.Attribute row body k call dall d c = emit_all_keeps _
  shallow_keeps kind.Text row body k call dall d c = emit_all_keeps _
  shallow_keeps kind.Instruction row body k call dall d c = emit_all_keeps _
  shallow_keeps kind.Comment row body k call dall d c = emit_all_keeps _

  abbrev SomeKeep : Option (List Action) → Type 0
  SomeKeep None = Unit {0}
  SomeKeep (Some body) = AllOf ActionKeeps body

  otherwise_keeps : (body : Option (List Action)) → SomeKeep body → (call dall : Templates) → TemplatesKeep call dall → (c : Place)
      → Keeps (otherwise_does body W call c) (otherwise_does body V dall c)
  otherwise_keeps None k call dall d c = pure_keeps tt
  otherwise_keeps (Some body) k call dall d c = within_keeps body k call dall d c

  pub cases_keep : (ks : List Case) → AllOf CaseKeeps ks → (other : Option (List Action)) → SomeKeep other → (call dall : Templates) → TemplatesKeep call dall → (c : Place)
      → Keeps (chosen_case ks other W call c) (chosen_case ks other V dall c)
  cases_keep [] a other o call dall d c = otherwise_keeps other o call dall d c
  cases_keep (k ∷ ks) a other o call dall d c =
      bind_keeps (ask_keeps _ _ (truth_stays sheet globals w v x c k.test)) (λ holds. else_keeps holds (then_keeps (a.0 call dall d c) (pure_keeps tt)) (cases_keep ks a.1 other o call dall d c))

  pub handed_keeps : (bs : List Binding) → AllOf BindingKeeps bs → (call dall : Templates) → TemplatesKeep call dall → (c : Place) → Keeps (handed bs W call c) (handed bs V dall c)
  handed_keeps [] a call dall d c = pure_keeps []
  handed_keeps (b ∷ bs) a call dall d c = bind_keeps (a.0 call dall d c) (λ value. bind_keeps (handed_keeps bs a.1 call dall d c) (λ given. pure_keeps _))

  pub terminated_keeps : (b : Bool) → Keeps (terminated b) (terminated b)
  terminated_keeps true = fail_keeps Terminated
  terminated_keeps false = pure_keeps tt

  unsorted_keeps : (items : Option (Meaning Stream)) → KeepsItemsIf items → (c : Place) (e : Expr) {act bct : AtItem} → ((y : Context) → Keeps (act y) (bct y))
      → Keeps (unsorted items W c e act) (unsorted items V c e bct)
  unsorted_keeps (Some items) i c e k =
      streamed_keeps (items w.reading (globals ++ c.locals) c.context) (items v.reading (globals ++ c.locals) c.context) (i w.reading v.reading x.reading (globals ++ c.locals) c.context) k
  unsorted_keeps None i c e k = bind_keeps (ask_keeps _ _ (nodes_stay sheet globals w v x c e)) (λ nodes. over_keeps nodes k)

  pub selected_keeps : (c : Place) (e : Expr) (sorts : List SortDecl) {act bct : AtItem} → ((y : Context) → Keeps (act y) (bct y)) → Keeps (selected W c e sorts act) (selected V c e sorts bct)
  selected_keeps c e [] k = unsorted_keeps (meant e).items (expr_keeps e).items c e k
  selected_keeps c e (sort ∷ sorts) k = bind_keeps (ask_keeps _ _ (sorted_stay sheet globals w v x c e (sort ∷ sorts))) (λ nodes. over_keeps nodes k)

  children_by_keeps : (b : Bool) (n : ℕ) {act bct : AtItem} → ((y : Context) → Keeps (act y) (bct y)) → Keeps (children_by b W n act) (children_by b V n bct)
  children_by_keeps true n k = bind_keeps (ask_keeps _ _ (x.reading.axis axis.Child test.Any n)) (λ nodes. over_keeps nodes k)
  children_by_keeps false n k = streamed_keeps (w.reading.children test.Any n) (v.reading.children test.Any n) (x.reading.children test.Any n) k

  abbrev Instructions : Type 0
  Instructions = (i : Instruction) × ActionKeeps (does i)

  abbrev Variables : Type 0
  Variables = (v : Variable) × BindingKeeps (binding_of v)

  abbrev Values : Type 0
  Values = (v : VarValue) × GivingKeeps (giving_of v)

  abbrev Whens : Type 0
  Whens = (w : When) × CaseKeeps (case_of w)

  all_keep : (is : List Instructions) → AllOf ActionKeeps (map does (map (λ i. i.0) is))
  all_keep [] = tt
  all_keep (i ∷ is) = (i.1, all_keep is)

  all_bind : (vs : List Variables) → AllOf BindingKeeps (map binding_of (map (λ v. v.0) vs))
  all_bind [] = tt
  all_bind (v ∷ vs) = (v.1, all_bind vs)

  all_cases : (ws : List Whens) → AllOf CaseKeeps (map case_of (map (λ w. w.0) ws))
  all_cases [] = tt
  all_cases (w ∷ ws) = (w.1, all_cases ws)

  abbrev meant_layer : Instruction-F Instruction VarValue Variable When → Instruction-F Action Giving Binding Case
  meant_layer = map-Instruction Instruction VarValue Variable When Action Giving Binding Case does giving_of binding_of case_of

  abbrev bare : Instruction-F Instructions Values Variables Whens → Instruction-F Instruction VarValue Variable When
  bare = map-Instruction Instructions Values Variables Whens Instruction VarValue Variable When (λ i. i.0) (λ v. v.0) (λ v. v.0) (λ w. w.0)

  abbrev meant_variable : Variable-F Instruction VarValue Variable When → Variable-F Action Giving Binding Case
  meant_variable = map-Variable Instruction VarValue Variable When Action Giving Binding Case does giving_of binding_of case_of

  abbrev bare_variable : Variable-F Instructions Values Variables Whens → Variable-F Instruction VarValue Variable When
  bare_variable = map-Variable Instructions Values Variables Whens Instruction VarValue Variable When (λ i. i.0) (λ v. v.0) (λ v. v.0) (λ w. w.0)

  abbrev meant_value : VarValue-F Instruction VarValue Variable When → VarValue-F Action Giving Binding Case
  meant_value = map-VarValue Instruction VarValue Variable When Action Giving Binding Case does giving_of binding_of case_of

  abbrev bare_value : VarValue-F Instructions Values Variables Whens → VarValue-F Instruction VarValue Variable When
  bare_value = map-VarValue Instructions Values Variables Whens Instruction VarValue Variable When (λ i. i.0) (λ v. v.0) (λ v. v.0) (λ w. w.0)

  abbrev meant_when : When-F Instruction VarValue Variable When → When-F Action Giving Binding Case
  meant_when = map-When Instruction VarValue Variable When Action Giving Binding Case does giving_of binding_of case_of

  abbrev bare_when : When-F Instructions Values Variables Whens → When-F Instruction VarValue Variable When
  bare_when = map-When Instructions Values Variables Whens Instruction VarValue Variable When (λ i. i.0) (λ v. v.0) (λ v. v.0) (λ w. w.0)

  step_keeps : (y : Instruction-F Instructions Values Variables Whens) → ActionKeeps (acts (meant_layer (bare y)))
  step_keeps (Instruction-F.LiteralText bytes) call dall d c = then_keeps (emit_keeps _) (pure_keeps _)
  step_keeps (Instruction-F.LiteralElement name attributes body) call dall d c =
      then_keeps (then_keeps (then_keeps (then_keeps (emit_keeps _) (attributes_keep attributes c)) (within_keeps _ (all_keep body) call dall d c)) (emit_keeps _)) (pure_keeps _)
  step_keeps (Instruction-F.ValueOf e) call dall d c = bind_keeps (ask_keeps _ _ (text_stays sheet globals w v x c e)) (λ string. then_keeps (emit_keeps _) (pure_keeps _))
  step_keeps (Instruction-F.CopyOf e) call dall d c = bind_keeps (ask_keeps _ _ (value_stays sheet globals w v x c e)) (λ value. then_keeps (copied_keeps value) (pure_keeps _))
  step_keeps (Instruction-F.Copy body) call dall d c =
      bind_keeps (ask_keeps _ _ (row_stays sheet globals w v x c)) (λ row. then_keeps (shallow_keeps row.kind row _ (all_keep body) call dall d c) (pure_keeps _))
  step_keeps (Instruction-F.Element name namespace scope body) call dall d c =
      bind_keeps (ask_keeps _ _ (name_stays sheet globals w v x c false name namespace scope))
      (λ found. then_keeps (then_keeps (then_keeps (emit_keeps _) (within_keeps _ (all_keep body) call dall d c)) (emit_keeps _)) (pure_keeps _))
  step_keeps (Instruction-F.Attribute name namespace scope body) call dall d c =
      bind_keeps (ask_keeps _ _ (name_stays sheet globals w v x c true name namespace scope))
      (λ found. bind_keeps (made_keeps _ (all_keep body) call dall d c) (λ made. then_keeps (emit_keeps _) (pure_keeps _)))
  step_keeps (Instruction-F.Processing name body) call dall d c =
      bind_keeps (ask_keeps _ _ (target_stays sheet globals w v x c name))
      (λ target. bind_keeps (made_keeps _ (all_keep body) call dall d c) (λ made. then_keeps (emit_keeps _) (pure_keeps _)))
  step_keeps (Instruction-F.Comment body) call dall d c = bind_keeps (made_keeps _ (all_keep body) call dall d c) (λ made. then_keeps (emit_keeps _) (pure_keeps _))
  step_keeps (Instruction-F.Message terminate body) call dall d c =
      bind_keeps (made_keeps _ (all_keep body) call dall d c) (λ made. then_keeps (then_keeps (tell_keeps _) (terminated_keeps terminate)) (pure_keeps _))
  step_keeps (Instruction-F.If test body) call dall d c =
      bind_keeps (ask_keeps _ _ (truth_stays sheet globals w v x c test)) (λ holds. then_keeps (true_keeps holds (within_keeps _ (all_keep body) call dall d c)) (pure_keeps _))
  step_keeps (Instruction-F.Choose whens None) call dall d c = then_keeps (cases_keep _ (all_cases whens) None tt call dall d c) (pure_keeps _)
  step_keeps (Instruction-F.Choose whens (Some body)) call dall d c = then_keeps (cases_keep _ (all_cases whens) _ (all_keep body) call dall d c) (pure_keeps _)
  step_keeps (Instruction-F.Local variable) call dall d c = bind_keeps (variable.1 call dall d c) (λ value. pure_keeps _)
  step_keeps (Instruction-F.Apply select mode sorts params) call dall d c =
      bind_keeps (handed_keeps _ (all_bind params) call dall d c) (λ given. then_keeps (selected_keeps c select sorts (λ y. d.at (InMode mode) given y)) (pure_keeps _))
  step_keeps (Instruction-F.ForEach select sorts body) call dall d c =
      then_keeps (selected_keeps c select sorts (λ y. within_keeps _ (all_keep body) call dall d (place y c.locals))) (pure_keeps _)
  step_keeps (Instruction-F.CallTemplate template params) call dall d c =
      bind_keeps (handed_keeps _ (all_bind params) call dall d c) (λ given. then_keeps (d.at (Named template) given c.context) (pure_keeps _))

  spends_keep : (y : Instruction-F Instructions Values Variables Whens) → ActionKeeps (spends (meant_layer (bare y)))
  spends_keep y call dall d c = then_keeps spend_keeps (step_keeps y call dall d c)

  variable_keeps : (y : Variable-F Instructions Values Variables Whens) → BindingKeeps (binding_by (meant_variable (bare_variable y)))
  variable_keeps y = y.value.1

  value_keeps : (y : VarValue-F Instructions Values Variables Whens) → GivingKeeps (giving_by (meant_value (bare_value y)))
  value_keeps (VarValue-F.Select e) call dall d c = ask_keeps _ _ (value_stays sheet globals w v x c e)
  value_keeps (VarValue-F.Content body) call dall d c = bind_keeps (made_keeps _ (all_keep body) call dall d c) (λ made. pure_keeps _)
  value_keeps VarValue-F.Empty call dall d c = pure_keeps _

  when_keeps : (y : When-F Instructions Values Variables Whens) → CaseKeeps (case_by (meant_when (bare_when y)))
  when_keeps y call dall d c = order_keeps _ (all_keep y.body) call dall d c

  instruction_layer : (y : Instruction-F Instruction VarValue Variable When) (z : Instruction-F Instructions Values Variables Whens) → bare z ≡ y → ActionKeeps (does (roll-Instruction y))
  unfolding does giving_of binding_of case_of
  instruction_layer y z is = subst ActionKeeps (ap (λ w. spends (meant_layer w)) is ∙ sym (fold-roll-Instruction Action Giving Binding Case spends giving_by binding_by case_by y)) (spends_keep z)

  variable_layer : (y : Variable-F Instruction VarValue Variable When) (z : Variable-F Instructions Values Variables Whens) → bare_variable z ≡ y → BindingKeeps (binding_of (roll-Variable y))
  unfolding does giving_of binding_of case_of
  variable_layer y z is = subst BindingKeeps (ap (λ w. binding_by (meant_variable w)) is ∙ sym (fold-roll-Variable Action Giving Binding Case spends giving_by binding_by case_by y)) (variable_keeps z)

  value_layer : (y : VarValue-F Instruction VarValue Variable When) (z : VarValue-F Instructions Values Variables Whens) → bare_value z ≡ y → GivingKeeps (giving_of (roll-VarValue y))
  unfolding does giving_of binding_of case_of
  value_layer y z is = subst GivingKeeps (ap (λ w. giving_by (meant_value w)) is ∙ sym (fold-roll-VarValue Action Giving Binding Case spends giving_by binding_by case_by y)) (value_keeps z)

  when_layer : (y : When-F Instruction VarValue Variable When) (z : When-F Instructions Values Variables Whens) → bare_when z ≡ y → CaseKeeps (case_of (roll-When y))
  unfolding does giving_of binding_of case_of
  when_layer y z is = subst CaseKeeps (ap (λ w. case_by (meant_when w)) is ∙ sym (fold-roll-When Action Giving Binding Case spends giving_by binding_by case_by y)) (when_keeps z)

  abbrev InstructionKeeps : Instruction → Type 0
  InstructionKeeps i = ActionKeeps (does i)

  abbrev VariableKeeps : Variable → Type 0
  VariableKeeps v = BindingKeeps (binding_of v)

  abbrev ValueKeeps : VarValue → Type 0
  ValueKeeps v = GivingKeeps (giving_of v)

  abbrev WhenKeeps : When → Type 0
  WhenKeeps w = CaseKeeps (case_of w)

  pub does_keeps : (i : Instruction) → ActionKeeps (does i)
  does_keeps = ind-Instruction InstructionKeeps ValueKeeps VariableKeeps WhenKeeps instruction_layer value_layer variable_layer when_layer

  pub binding_keeps : (v : Variable) → BindingKeeps (binding_of v)
  binding_keeps = ind-Variable InstructionKeeps ValueKeeps VariableKeeps WhenKeeps instruction_layer value_layer variable_layer when_layer

  pub giving_keeps : (v : VarValue) → GivingKeeps (giving_of v)
  giving_keeps = ind-VarValue InstructionKeeps ValueKeeps VariableKeeps WhenKeeps instruction_layer value_layer variable_layer when_layer

  pub each_does : (is : List Instruction) → AllOf ActionKeeps (map does is)
  each_does [] = tt
  each_does (i ∷ is) = (does_keeps i, each_does is)

  pub each_binds : (vs : List Variable) → AllOf BindingKeeps (map binding_of vs)
  each_binds [] = tt
  each_binds (v ∷ vs) = (binding_keeps v, each_binds vs)

  pub body_keeps : (is : List Instruction) → ActionKeeps (body_does is)
  body_keeps is = order_keeps (map does is) (each_does is)

  pub own_keeps : (handed : Option Value) {r q : Run Value} → Keeps r q → Keeps (or_own handed r) (or_own handed q)
  own_keeps (Some value) k = pure_keeps value
  own_keeps None k = k

  pub params_keep : (bs : List Binding) → AllOf BindingKeeps bs → (given : List Given) (call dall : Templates) → TemplatesKeep call dall → (c : Place)
      → Keeps (params_in bs given W call c) (params_in bs given V dall c)
  params_keep [] a given call dall d c = pure_keeps c.locals
  params_keep (b ∷ bs) a given call dall d c =
      bind_keeps (then_keeps spend_keeps (own_keeps (given_as b.name given) (a.0 call dall d c))) (λ value. params_keep bs a.1 given call dall d (with_local c value))

  instantiated_keeps : (template : Option Template) (given : List Given) (call dall : Templates) → TemplatesKeep call dall → (y : Context)
      → Keeps (instantiated template given W call y) (instantiated template given V dall y)
  instantiated_keeps None given call dall d y = pure_keeps tt
  instantiated_keeps (Some template) given call dall d y =
      bind_keeps (params_keep _ (each_binds template.params) given call dall d (place y [])) (λ locals. then_keeps (body_keeps template.body call dall d (place y locals)) (pure_keeps tt))

  built_in_keeps : (k : Kind) (called : Called) (call dall : Templates) → TemplatesKeep call dall → (y : Context) → Keeps (built_in_of k called W call y) (built_in_of k called V dall y)
  built_in_keeps kind.Root called call dall d y = then_keeps spend_keeps (children_by_keeps (asks_size sheet) y.node (d.at called []))
  built_in_keeps kind.Element called call dall d y = then_keeps spend_keeps (children_by_keeps (asks_size sheet) y.node (d.at called []))
  built_in_keeps kind.Attribute called call dall d y = bind_keeps (then_keeps spend_keeps (ask_keeps _ _ (x.reading.value y.node))) (λ value. emit_keeps _)
  built_in_keeps kind.Text called call dall d y = bind_keeps (then_keeps spend_keeps (ask_keeps _ _ (x.reading.value y.node))) (λ value. emit_keeps _)
  built_in_keeps kind.Instruction called call dall d y = pure_keeps tt
  built_in_keeps kind.Comment called call dall d y = pure_keeps tt

  template_keeps : (template : Option ℕ) (called : Called) (given : List Given) (call dall : Templates) → TemplatesKeep call dall → (y : Context)
      → Keeps (template_does template called given W call y) (template_does template called given V dall y)
  template_keeps None called given call dall d y = bind_keeps (ask_keeps _ _ (x.reading.row y.node)) (λ row. built_in_keeps row.kind called call dall d y)
  template_keeps (Some template) called given call dall d y = instantiated_keeps (slice_get sheet.templates template) given call dall d y

  chosen_keeps : (called : Called) (y : Context) → Keeps (chosen W called y) (chosen V called y)
  chosen_keeps (InMode mode) y = bind_keeps (ask_keeps _ _ (choice_stays w.reading v.reading x.reading sheet.rules mode y.node)) (λ rule. pure_keeps _)
  chosen_keeps (Named template) y = pure_keeps _

  pub templates_keep : (more : ℕ) → TemplatesKeep (templates more W) (templates more V)
  templates_keep zero = record { at = λ called given y. bind_keeps (chosen_keeps called y) (λ template. fail_keeps TooDeep) }
  templates_keep (suc more) = record {
    at = λ called given y. bind_keeps (chosen_keeps called y) (λ template. then_keeps spend_keeps (template_keeps template called given (templates more W) (templates more V) (templates_keep more) y));
  }

  pub execution_keeps : (more : ℕ) (body : List Instruction) (c : Place) → Keeps (execution_of W more body c) (execution_of V more body c)
  execution_keeps more body c = body_keeps body (templates more W) (templates more V) (templates_keep more) c

  global_keeps : (global : Global) → Keeps (global_value global W) (global_value global V)
  global_keeps global = then_keeps spend_keeps (giving_keeps global.value (templates most_nested W) (templates most_nested V) (templates_keep most_nested) (place (alone 0) []))

pub one_global_keeps : (sheet : Sheet) (w v : World) → Continues w v → (global : Option Global) (at : ℕ) (values : List Value)
    → Keeps (global_in sheet w global at values) (global_in sheet v global at values)
one_global_keeps sheet w v x None at values = pure_keeps values
one_global_keeps sheet w v x (Some global) at values = bind_keeps (global_keeps sheet values w v x global) (λ value. pure_keeps _)

pub globals_keep : (sheet : Sheet) (w v : World) → Continues w v → (order : List ℕ) (values : List Value) → Keeps (globals_in sheet w order values) (globals_in sheet v order values)
globals_keep sheet w v x [] values = pure_keeps values
globals_keep sheet w v x (at ∷ order) values = bind_keeps (one_global_keeps sheet w v x (slice_get sheet.globals at) at values) (λ later. globals_keep sheet w v x order later)

pub transforms_keep : (sheet : Sheet) (order : List ℕ) (w v : World) → Continues w v → Keeps (transforms sheet order w) (transforms sheet order v)
transforms_keep sheet order w v x = bind_keeps (globals_keep sheet w v x order (undone sheet)) (λ globals. (templates_keep sheet globals w v x most_nested).at (InMode 0) [] (alone 0))

pub meaning_later : (sheet : Sheet) (order : List ℕ) (id : Option (List ℕ)) (before later : List Step) (budget : ℕ)
    → Continues (sheet_world sheet id before) (sheet_world sheet id later) → Later (meaning_of sheet order id before budget) (meaning_of sheet order id later budget)
unfolding meaning_of
meaning_later sheet order id before later budget x = (transforms_keep sheet order (sheet_world sheet id before) (sheet_world sheet id later) x).later (at_first budget)

-- a longer list of steps tells what a shorter one told
pub worlds_continue : (sheet : Sheet) (id : Option (List ℕ)) (before later : List Step)
    → Extends (reading_of (strip_rules_of sheet) sheet.keys id before) (reading_of (strip_rules_of sheet) sheet.keys id later)
    → ((n : ℕ) → Stays (copy_of (strip_rules_of sheet) before n) (copy_of (strip_rules_of sheet) later n)) → Continues (sheet_world sheet id before) (sheet_world sheet id later)
worlds_continue sheet id before later x k = record { reading = x; copy = λ n. with_faults_stays _ _ (k n) }
