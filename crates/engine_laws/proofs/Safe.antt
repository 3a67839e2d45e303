-- A stylesheet waits only for rows that are open.
use Rattle.std.proofs.Common.{◌≡◌, sym, ap, ◌∙◌, subst, ℕ, zero, suc, List, [], ◌∷◌, ◌++◌, map, Bool, true, false, cond, Option, Some, None}
use Rattle.std.specs.Prelude.{⊤, slice_get, slice_set}
use Rattle.doc_model.specs.declared.node_test.Test.TheVariants as test
use Rattle.doc_model.specs.declared.row.Axis.TheVariants as axis
use Rattle.doc_model.specs.declared.row.Kind.{Kind}
use Rattle.doc_model.specs.declared.row.Kind.TheVariants as kind
use Rattle.doc_model.specs.declared.row.Row.{Row}
use Rattle.fault_kinds.specs.declared.fault.FaultKind.TheVariants.{TooDeep, Terminated}
use Rattle.result_events.specs.declared.event.ResultEvent.{ResultEvent}
use Rattle.result_events.specs.declared.event.ResultEvent.TheVariants as event
use Rattle.sheet_ast.specs.declared.instruction.Instruction.{Instruction, roll-Instruction}
use Rattle.sheet_ast.specs.declared.instruction.Instruction.TheOpen.{Instruction-F, Variable-F, VarValue-F, When-F}
use Rattle.sheet_ast.specs.declared.instruction.Instruction.TheFolds.{map-Instruction, map-Variable, map-VarValue, map-When, fold-roll-Instruction}
use Rattle.sheet_ast.specs.declared.instruction.Instruction.TheFolds.{fold-roll-Variable, fold-roll-VarValue, fold-roll-When, ind-Instruction}
use Rattle.sheet_ast.specs.declared.instruction.Instruction.TheFolds.{ind-Variable, ind-VarValue}
use Rattle.sheet_ast.specs.declared.instruction.LiteralAttr.{LiteralAttr}
use Rattle.sheet_ast.specs.declared.instruction.SortDecl.{SortDecl}
use Rattle.sheet_ast.specs.declared.instruction.Variable.{Variable, roll-Variable}
use Rattle.sheet_ast.specs.declared.instruction.VarValue.{VarValue, roll-VarValue}
use Rattle.sheet_ast.specs.declared.instruction.When.{When, roll-When}
use Rattle.sheet_ast.specs.declared.sheet.Global.{Global}
use Rattle.sheet_ast.specs.declared.sheet.Sheet.{Sheet}
use Rattle.sheet_ast.specs.declared.sheet.Template.{Template}
use Rattle.xpath_syntax.specs.declared.expression.Expr.{Expr}
use Rattle.xpath_syntax.specs.declared.expression.NameRef.{NameRef}
use Rattle.xpath_values.specs.declared.value.Value.{Value}
use Rattle.xpath_values.specs.declared.value.Value.TheVariants.{Nodes, Atom, Fragment}
use Rattle.xpath_meaning.specs.declared.context.Context.{Context}
use Rattle.xpath_meaning.specs.Conversions.{text}
use Rattle.xpath_meaning.specs.Evaluation.{meant}
use Rattle.xpath_meaning.specs.Keys.{alone, same_name}
use Rattle.xpath_meaning.specs.Meanings.{Meaning}
use Rattle.xpath_meaning.specs.Reading.{Reading}
use Rattle.xpath_meaning.specs.Streams.{Stream}
use Rattle.xpath_laws.specs.Sound.{Rows, Anything, Each, IsValue, AllValues, IsContext}
use Rattle.xpath_laws.proofs.Sounding.{SoundItemsIf}
use Rattle.xpath_laws.proofs.Tells.{each_append}
use Rattle.xpath_laws.proofs.Trees.{expr_sound}
use Rattle.engine_meaning.specs.Execution.{Called, InMode, Named, Templates, Action, Giving, Binding, Case, in_order, within, made_apart, if_true}
use Rattle.engine_meaning.specs.Execution.{attributes_in, copies_in, value_copied, shallow, if_else, otherwise_does, chosen_case, handed, terminated}
use Rattle.engine_meaning.specs.Execution.{acts, spends, binding_by, giving_by, case_by, does, binding_of, giving_of, case_of, body_does, or_own}
use Rattle.engine_meaning.specs.Execution.{params_in, instantiated, built_in_of, template_does, chosen, templates, most_nested}
use Rattle.engine_meaning.specs.Items.{AtItem, unsorted, selected, children_by, children_of}
use Rattle.engine_meaning.specs.Meaning.{global_value, global_in, globals_in, undone, transforms}
use Rattle.engine_meaning.specs.Places.{World, Setting, setting, Place, place, with_local, Given, or_later, given_as}
use Rattle.engine_meaning.specs.Runs.{Run, ◌>>=◌, ◌>>◌, pure, ask, spend, emit, emit_all}
use Rattle.engine_meaning.specs.Sizes.{asks_size}
use Rattle.engine_laws.proofs.Safely.{Safe, bind_safe, then_safe, pure_safe, fail_safe, ask_safe, spend_safe, emit_safe, emit_all_safe, tell_safe, apart_safe, ActsSafely, streamed_safe, over_safe}
use Rattle.engine_laws.proofs.Told.{choice_told, IsWorld, IsSound, given_at, value_told, text_told, truth_told, nodes_told, template_told, name_told, target_told, row_told, sorted_told}

-- a value that is handed on has nodes that are there
abbrev GivenSound : Rows → Given → Type 0
GivenSound T given = IsValue T given.value

abbrev SoundIf : Rows → Option Value → Type 0
SoundIf T None = ⊤
SoundIf T (Some v) = IsValue T v

later_sound : (T : Rows) (o : Option Value) (given : Given) (name : NameRef) → SoundIf T o → GivenSound T given → SoundIf T (or_later o given name)
later_sound T (Some v) given name s g = s
later_sound T None given name s g = by_name (same_name given.name name)
  where
    by_name : (b : Bool) → SoundIf T (cond b (Some given.value) None)
    by_name true = g
    by_name false = tt

given_sound : (T : Rows) (name : NameRef) (given : List Given) → Each (GivenSound T) given → SoundIf T (given_as name given)
given_sound T name [] a = tt
given_sound T name (g ∷ gs) a = later_sound T (given_as name gs) g name (given_sound T name gs a.1) a.0

module _ (T O : Rows) (sheet : Sheet) (globals : List Value) (w : World) (x : IsWorld T O w) (g : AllValues T globals) where
  abbrev W : Setting
  W = setting sheet w globals

  abbrev R : Reading
  R = w.reading

  abbrev TemplatesSafe : Templates → Type 0
  TemplatesSafe call = (called : Called) (given : List Given) → Each (GivenSound T) given → (y : Context) → IsContext T y → Safe O Anything (call called given y)

  abbrev ActionSafe : Action → Type 0
  ActionSafe a = (call : Templates) → TemplatesSafe call → (c : Place) → IsSound T c → Safe O (AllValues T) (a W call c)

  abbrev GivingSafe : Giving → Type 0
  GivingSafe v = (call : Templates) → TemplatesSafe call → (c : Place) → IsSound T c → Safe O (IsValue T) (v W call c)

  abbrev BindingSafe : Binding → Type 0
  BindingSafe b = GivingSafe b.value

  abbrev CaseSafe : Case → Type 0
  CaseSafe k = ActionSafe k.body

  order_safe : (as' : List Action) → Each ActionSafe as' → ActionSafe (in_order as')
  order_safe [] k call d c p = pure_safe O (AllValues T) c.locals p.locals
  order_safe (a ∷ as') k call d c p =
      bind_safe O (AllValues T) (AllValues T) (a W call c) _ (k.0 call d c p) (λ locals l. order_safe as' k.1 call d (place c.context locals) (record { locals = l; context = p.context }))

  within_safe : (as' : List Action) → Each ActionSafe as' → (call : Templates) → TemplatesSafe call → (c : Place) → IsSound T c → Safe O Anything (within as' W call c)
  within_safe as' k call d c p = then_safe O (AllValues T) Anything (in_order as' W call c) (pure tt) (order_safe as' k call d c p) (pure_safe O Anything tt tt)

  made_safe : (as' : List Action) → Each ActionSafe as' → (call : Templates) → TemplatesSafe call → (c : Place) → IsSound T c → Safe O Anything (made_apart as' W call c)
  made_safe as' k call d c p = apart_safe O (AllValues T) (in_order as' W call c) (order_safe as' k call d c p)

  -- a run, and then the locals as they are
  behind : {A : Type 0} (r : Run A) (c : Place) → IsSound T c → Safe O Anything r → Safe O (AllValues T) (r >> pure c.locals)
  behind r c p k = then_safe O Anything (AllValues T) r (pure c.locals) k (pure_safe O (AllValues T) c.locals p.locals)

  one_then : {A : Type 0} (r : Run A) (q : Run (Unit {0})) → Safe O Anything r → Safe O Anything q → Safe O Anything (r >> q)
  one_then r q k l = then_safe O Anything Anything r q k l

  true_safe : (b : Bool) (r : Run (Unit {0})) → Safe O Anything r → Safe O Anything (if_true b r)
  true_safe true r k = k
  true_safe false r k = pure_safe O Anything tt tt

  else_safe : (b : Bool) (r s : Run (Unit {0})) → Safe O Anything r → Safe O Anything s → Safe O Anything (if_else b r s)
  else_safe true r s k l = k
  else_safe false r s k l = l

  attributes_safe : (attributes : List LiteralAttr) (c : Place) → IsSound T c → Safe O Anything (attributes_in attributes W c)
  attributes_safe [] c p = pure_safe O Anything tt tt
  attributes_safe (attribute ∷ more) c p =
      bind_safe O Anything Anything (ask _) _ (ask_safe O Anything _ (template_told T O sheet globals w x g c p attribute.value))
      (λ value a. one_then (emit _) (attributes_in more W c) (emit_safe O _) (attributes_safe more c p))

  copies_safe : (ns : List ℕ) → Each T ns → Safe O Anything (copies_in w ns)
  copies_safe [] a = pure_safe O Anything tt tt
  copies_safe (n ∷ ns) a =
      bind_safe O Anything Anything (ask (w.copy n)) _ (ask_safe O Anything (w.copy n) (x.copy n a.0))
      (λ events b. one_then (emit_all events) (copies_in w ns) (emit_all_safe O events) (copies_safe ns a.1))

  copied_safe : (v : Value) → IsValue T v → Safe O Anything (value_copied w v)
  copied_safe (Nodes nodes) s = copies_safe nodes s.1
  copied_safe (Atom atom) s = emit_safe O _
  copied_safe (Fragment events) s = emit_all_safe O events

  shallow_safe : (k : Kind) (row : Row) (body : List Action) → Each ActionSafe body → (call : Templates) → TemplatesSafe call → (c : Place) → IsSound T c
      → Safe O Anything (shallow k row body W call c)
  shallow_safe kind.Root row body k call d c p = within_safe body k call d c p
  shallow_safe kind.Element row body k call d c p =
      one_then (emit _ >> within body W call c) (emit event.End) (one_then (emit _) (within body W call c) (emit_safe O _) (within_safe body k call d c p)) (emit_safe O event.End)
  shallow_safe kind.Attribute row body k call d c p = emit_all_safe O _
  shallow_safe kind.Text row body k call d c p = emit_all_safe O _
  shallow_safe kind.Instruction row body k call d c p = emit_all_safe O _
  shallow_safe kind.Comment row body k call d c p = emit_all_safe O _

  abbrev SomeSafe : Option (List Action) → Type 0
  SomeSafe None = ⊤
  SomeSafe (Some body) = Each ActionSafe body

  otherwise_safe : (body : Option (List Action)) → SomeSafe body → (call : Templates) → TemplatesSafe call → (c : Place) → IsSound T c → Safe O Anything (otherwise_does body W call c)
  otherwise_safe None k call d c p = pure_safe O Anything tt tt
  otherwise_safe (Some body) k call d c p = within_safe body k call d c p

  cases_safe : (ks : List Case) → Each CaseSafe ks → (other : Option (List Action)) → SomeSafe other → (call : Templates) → TemplatesSafe call → (c : Place) → IsSound T c
      → Safe O Anything (chosen_case ks other W call c)
  cases_safe [] a other o call d c p = otherwise_safe other o call d c p
  cases_safe (k ∷ ks) a other o call d c p =
      bind_safe O Anything Anything (ask _) _ (ask_safe O Anything _ (truth_told T O sheet globals w x g c p k.test))
      (λ holds b. else_safe holds _ _ (then_safe O (AllValues T) Anything (k.body W call c) (pure tt) (a.0 call d c p) (pure_safe O Anything tt tt)) (cases_safe ks a.1 other o call d c p))

  handed_safe : (bs : List Binding) → Each BindingSafe bs → (call : Templates) → TemplatesSafe call → (c : Place) → IsSound T c → Safe O (Each (GivenSound T)) (handed bs W call c)
  handed_safe [] a call d c p = pure_safe O (Each (GivenSound T)) [] tt
  handed_safe (b ∷ bs) a call d c p =
      bind_safe O (IsValue T) (Each (GivenSound T)) (b.value W call c) _ (a.0 call d c p)
      (λ value v. bind_safe O (Each (GivenSound T)) (Each (GivenSound T)) (handed bs W call c) _ (handed_safe bs a.1 call d c p) (λ given h. pure_safe O (Each (GivenSound T)) _ (v, h)))

  terminated_safe : (b : Bool) → Safe O Anything (terminated b)
  terminated_safe true = fail_safe O Anything Terminated
  terminated_safe false = pure_safe O Anything tt tt

  unsorted_safe : (items : Option (Meaning Stream)) → SoundItemsIf T O items → (c : Place) → IsSound T c → (e : Expr) (act : AtItem) → ActsSafely O T act → Safe O Anything (unsorted items W c e act)
  unsorted_safe (Some items) i c p e act k = streamed_safe O T act k (items R (globals ++ c.locals) c.context) (i R (globals ++ c.locals) c.context (given_at T O sheet globals w x g c p))
  unsorted_safe None i c p e act k = bind_safe O (Each T) Anything (ask _) _ (ask_safe O (Each T) _ (nodes_told T O sheet globals w x g c p e)) (λ nodes a. over_safe O T act k nodes a)

  selected_safe : (c : Place) → IsSound T c → (e : Expr) (sorts : List SortDecl) (act : AtItem) → ActsSafely O T act → Safe O Anything (selected W c e sorts act)
  selected_safe c p e [] act k = unsorted_safe (meant e).items (expr_sound T O e).items c p e act k
  selected_safe c p e (sort ∷ sorts) act k =
      bind_safe O (Each T) Anything (ask _) _ (ask_safe O (Each T) _ (sorted_told T O sheet globals w x g c p e (sort ∷ sorts))) (λ nodes a. over_safe O T act k nodes a)

  children_by_safe : (b : Bool) (n : ℕ) → T n → (act : AtItem) → ActsSafely O T act → Safe O Anything (children_by b W n act)
  children_by_safe true n t act k = bind_safe O (Each T) Anything (ask _) _ (ask_safe O (Each T) _ (x.reading.axis axis.Child test.Any n t)) (λ nodes a. over_safe O T act k nodes a)
  children_by_safe false n t act k = streamed_safe O T act k (R.children test.Any n) (x.reading.children test.Any n t)

  abbrev Instructions : Type 0
  Instructions = (i : Instruction) × ActionSafe (does i)

  abbrev Variables : Type 0
  Variables = (v : Variable) × BindingSafe (binding_of v)

  abbrev Values : Type 0
  Values = (v : VarValue) × GivingSafe (giving_of v)

  abbrev Whens : Type 0
  Whens = (w : When) × CaseSafe (case_of w)

  all_safe : (is : List Instructions) → Each ActionSafe (map does (map (λ i. i.0) is))
  all_safe [] = tt
  all_safe (i ∷ is) = (i.1, all_safe is)

  all_bind : (vs : List Variables) → Each BindingSafe (map binding_of (map (λ v. v.0) vs))
  all_bind [] = tt
  all_bind (v ∷ vs) = (v.1, all_bind vs)

  all_cases : (ws : List Whens) → Each CaseSafe (map case_of (map (λ w. w.0) ws))
  all_cases [] = tt
  all_cases (w ∷ ws) = (w.1, all_cases ws)

  abbrev meant_layer : Instruction-F Instruction VarValue Variable When → Instruction-F Action Giving Binding Case
  meant_layer = map-Instruction Instruction VarValue Variable When Action Giving Binding Case does giving_of binding_of case_of

  abbrev bare : Instruction-F Instructions Values Variables Whens → Instruction-F Instruction VarValue Variable When
  bare = map-Instruction Instructions Values Variables Whens Instruction VarValue Variable When (λ i. i.0) (λ v. v.0) (λ v. v.0) (λ w. w.0)

  abbrev meant_variable : Variable-F Instruction VarValue Variable When → Variable-F Action Giving Binding Case
  meant_variable = map-Variable Instruction VarValue Variable When Action Giving Binding Case does giving_of binding_of case_of

  abbrev bare_variable : Variable-F Instructions Values Variables Whens → Variable-F Instruction VarValue Variable When
  bare_variable = map-Variable Instructions Values Variables Whens Instruction VarValue Variable When (λ i. i.0) (λ v. v.0) (λ v. v.0) (λ w. w.0)

  abbrev meant_value : VarValue-F Instruction VarValue Variable When → VarValue-F Action Giving Binding Case
  meant_value = map-VarValue Instruction VarValue Variable When Action Giving Binding Case does giving_of binding_of case_of

  abbrev bare_value : VarValue-F Instructions Values Variables Whens → VarValue-F Instruction VarValue Variable When
  bare_value = map-VarValue Instructions Values Variables Whens Instruction VarValue Variable When (λ i. i.0) (λ v. v.0) (λ v. v.0) (λ w. w.0)

  abbrev meant_when : When-F Instruction VarValue Variable When → When-F Action Giving Binding Case
  meant_when = map-When Instruction VarValue Variable When Action Giving Binding Case does giving_of binding_of case_of

  abbrev bare_when : When-F Instructions Values Variables Whens → When-F Instruction VarValue Variable When
  bare_when = map-When Instructions Values Variables Whens Instruction VarValue Variable When (λ i. i.0) (λ v. v.0) (λ v. v.0) (λ w. w.0)

  -- a body between a start and an end
  around : (start : ResultEvent) (inside : Run (Unit {0})) (c : Place) → IsSound T c → Safe O Anything inside → Safe O (AllValues T) (emit start >> inside >> emit event.End >> pure c.locals)
  around start inside c p k = behind (emit start >> inside >> emit event.End) c p
      (one_then (emit start >> inside) (emit event.End) (one_then (emit start) inside (emit_safe O start) k) (emit_safe O event.End))

  step_safe : (y : Instruction-F Instructions Values Variables Whens) → ActionSafe (acts (meant_layer (bare y)))
  step_safe (Instruction-F.LiteralText bytes) call d c p = behind (emit _) c p (emit_safe O _)
  step_safe (Instruction-F.LiteralElement name attributes body) call d c p =
      behind _ c p (one_then _ (emit event.End) (one_then _ _ (one_then (emit _) _ (emit_safe O _) (attributes_safe attributes c p)) (within_safe _ (all_safe body) call d c p))
      (emit_safe O event.End))
  step_safe (Instruction-F.ValueOf e) call d c p =
      bind_safe O Anything (AllValues T) (ask _) _ (ask_safe O Anything _ (text_told T O sheet globals w x g c p e)) (λ string a. behind (emit _) c p (emit_safe O _))
  step_safe (Instruction-F.CopyOf e) call d c p =
      bind_safe O (IsValue T) (AllValues T) (ask _) _ (ask_safe O (IsValue T) _ (value_told T O sheet globals w x g c p e)) (λ value v. behind _ c p (copied_safe value v))
  step_safe (Instruction-F.Copy body) call d c p =
      bind_safe O Anything (AllValues T) (ask _) _ (ask_safe O Anything _ (row_told T O sheet globals w x g c p)) (λ row a. behind _ c p (shallow_safe row.kind row _ (all_safe body) call d c p))
  step_safe (Instruction-F.Element name namespace scope body) call d c p =
      bind_safe O Anything (AllValues T) (ask _) _ (ask_safe O Anything _ (name_told T O sheet globals w x g c p false name namespace scope))
      (λ found a. around _ _ c p (within_safe _ (all_safe body) call d c p))
  step_safe (Instruction-F.Attribute name namespace scope body) call d c p =
      bind_safe O Anything (AllValues T) (ask _) _ (ask_safe O Anything _ (name_told T O sheet globals w x g c p true name namespace scope))
      (λ found a. bind_safe O Anything (AllValues T) _ _ (made_safe _ (all_safe body) call d c p) (λ made b. behind (emit _) c p (emit_safe O _)))
  step_safe (Instruction-F.Processing name body) call d c p =
      bind_safe O Anything (AllValues T) (ask _) _ (ask_safe O Anything _ (target_told T O sheet globals w x g c p name))
      (λ target a. bind_safe O Anything (AllValues T) _ _ (made_safe _ (all_safe body) call d c p) (λ made b. behind (emit _) c p (emit_safe O _)))
  step_safe (Instruction-F.Comment body) call d c p = bind_safe O Anything (AllValues T) _ _ (made_safe _ (all_safe body) call d c p) (λ made b. behind (emit _) c p (emit_safe O _))
  step_safe (Instruction-F.Message terminate body) call d c p =
      bind_safe O Anything (AllValues T) _ _ (made_safe _ (all_safe body) call d c p) (λ made b. behind _ c p (one_then _ (terminated terminate) (tell_safe O _) (terminated_safe terminate)))
  step_safe (Instruction-F.If test body) call d c p =
      bind_safe O Anything (AllValues T) (ask _) _ (ask_safe O Anything _ (truth_told T O sheet globals w x g c p test))
      (λ holds a. behind _ c p (true_safe holds _ (within_safe _ (all_safe body) call d c p)))
  step_safe (Instruction-F.Choose whens None) call d c p = behind _ c p (cases_safe _ (all_cases whens) None tt call d c p)
  step_safe (Instruction-F.Choose whens (Some body)) call d c p = behind _ c p (cases_safe _ (all_cases whens) _ (all_safe body) call d c p)
  step_safe (Instruction-F.Local variable) call d c p =
      bind_safe O (IsValue T) (AllValues T) _ _ (variable.1 call d c p) (λ value v. pure_safe O (AllValues T) _ (each_append (IsValue T) c.locals (value ∷ []) p.locals (v, tt)))
  step_safe (Instruction-F.Apply select mode sorts params) call d c p =
      bind_safe O (Each (GivenSound T)) (AllValues T) _ _ (handed_safe _ (all_bind params) call d c p) (λ given h. behind _ c p (selected_safe c p select sorts _ (λ y i. d (InMode mode) given h y i)))
  step_safe (Instruction-F.ForEach select sorts body) call d c p =
      behind _ c p (selected_safe c p select sorts _ (λ y i. within_safe _ (all_safe body) call d (place y c.locals) (record { locals = p.locals; context = i })))
  step_safe (Instruction-F.CallTemplate template params) call d c p =
      bind_safe O (Each (GivenSound T)) (AllValues T) _ _ (handed_safe _ (all_bind params) call d c p) (λ given h. behind _ c p (d (Named template) given h c.context p.context))

  spends_safe : (y : Instruction-F Instructions Values Variables Whens) → ActionSafe (spends (meant_layer (bare y)))
  spends_safe y call d c p = then_safe O Anything (AllValues T) spend _ (spend_safe O) (step_safe y call d c p)

  variable_safe : (y : Variable-F Instructions Values Variables Whens) → BindingSafe (binding_by (meant_variable (bare_variable y)))
  variable_safe y = y.value.1

  value_safe : (y : VarValue-F Instructions Values Variables Whens) → GivingSafe (giving_by (meant_value (bare_value y)))
  value_safe (VarValue-F.Select e) call d c p = ask_safe O (IsValue T) _ (value_told T O sheet globals w x g c p e)
  value_safe (VarValue-F.Content body) call d c p = bind_safe O Anything (IsValue T) _ _ (made_safe _ (all_safe body) call d c p) (λ made a. pure_safe O (IsValue T) (Fragment made) tt)
  value_safe VarValue-F.Empty call d c p = pure_safe O (IsValue T) _ tt

  when_safe : (y : When-F Instructions Values Variables Whens) → CaseSafe (case_by (meant_when (bare_when y)))
  when_safe y call d c p = order_safe _ (all_safe y.body) call d c p

  instruction_layer : (y : Instruction-F Instruction VarValue Variable When) (z : Instruction-F Instructions Values Variables Whens) → bare z ≡ y → ActionSafe (does (roll-Instruction y))
  unfolding does giving_of binding_of case_of
  instruction_layer y z is = subst ActionSafe (ap (λ w. spends (meant_layer w)) is ∙ sym (fold-roll-Instruction Action Giving Binding Case spends giving_by binding_by case_by y)) (spends_safe z)

  variable_layer : (y : Variable-F Instruction VarValue Variable When) (z : Variable-F Instructions Values Variables Whens) → bare_variable z ≡ y → BindingSafe (binding_of (roll-Variable y))
  unfolding does giving_of binding_of case_of
  variable_layer y z is = subst BindingSafe (ap (λ w. binding_by (meant_variable w)) is ∙ sym (fold-roll-Variable Action Giving Binding Case spends giving_by binding_by case_by y)) (variable_safe z)

  value_layer : (y : VarValue-F Instruction VarValue Variable When) (z : VarValue-F Instructions Values Variables Whens) → bare_value z ≡ y → GivingSafe (giving_of (roll-VarValue y))
  unfolding does giving_of binding_of case_of
  value_layer y z is = subst GivingSafe (ap (λ w. giving_by (meant_value w)) is ∙ sym (fold-roll-VarValue Action Giving Binding Case spends giving_by binding_by case_by y)) (value_safe z)

  when_layer : (y : When-F Instruction VarValue Variable When) (z : When-F Instructions Values Variables Whens) → bare_when z ≡ y → CaseSafe (case_of (roll-When y))
  unfolding does giving_of binding_of case_of
  when_layer y z is = subst CaseSafe (ap (λ w. case_by (meant_when w)) is ∙ sym (fold-roll-When Action Giving Binding Case spends giving_by binding_by case_by y)) (when_safe z)

  abbrev InstructionSafe : Instruction → Type 0
  InstructionSafe i = ActionSafe (does i)

  abbrev VariableSafe : Variable → Type 0
  VariableSafe v = BindingSafe (binding_of v)

  abbrev ValueSafe : VarValue → Type 0
  ValueSafe v = GivingSafe (giving_of v)

  abbrev WhenSafe : When → Type 0
  WhenSafe w = CaseSafe (case_of w)

  does_safe : (i : Instruction) → ActionSafe (does i)
  does_safe = ind-Instruction InstructionSafe ValueSafe VariableSafe WhenSafe instruction_layer value_layer variable_layer when_layer

  binding_safe : (v : Variable) → BindingSafe (binding_of v)
  binding_safe = ind-Variable InstructionSafe ValueSafe VariableSafe WhenSafe instruction_layer value_layer variable_layer when_layer

  giving_safe : (v : VarValue) → GivingSafe (giving_of v)
  giving_safe = ind-VarValue InstructionSafe ValueSafe VariableSafe WhenSafe instruction_layer value_layer variable_layer when_layer

  each_does : (is : List Instruction) → Each ActionSafe (map does is)
  each_does [] = tt
  each_does (i ∷ is) = (does_safe i, each_does is)

  each_binds : (vs : List Variable) → Each BindingSafe (map binding_of vs)
  each_binds [] = tt
  each_binds (v ∷ vs) = (binding_safe v, each_binds vs)

  own_safe : (handed : Option Value) → SoundIf T handed → (r : Run Value) → Safe O (IsValue T) r → Safe O (IsValue T) (or_own handed r)
  own_safe (Some value) s r k = pure_safe O (IsValue T) value s
  own_safe None s r k = k

  params_safe : (bs : List Binding) → Each BindingSafe bs → (given : List Given) → Each (GivenSound T) given → (call : Templates) → TemplatesSafe call → (c : Place) → IsSound T c
      → Safe O (AllValues T) (params_in bs given W call c)
  params_safe [] a given h call d c p = pure_safe O (AllValues T) c.locals p.locals
  params_safe (b ∷ bs) a given h call d c p =
      bind_safe O (IsValue T) (AllValues T) (spend >> or_own (given_as b.name given) (b.value W call c)) _
      (then_safe O Anything (IsValue T) spend _ (spend_safe O) (own_safe (given_as b.name given) (given_sound T b.name given h) (b.value W call c) (a.0 call d c p)))
      (λ value v. params_safe bs a.1 given h call d (with_local c value) (record { locals = each_append (IsValue T) c.locals (value ∷ []) p.locals (v, tt); context = p.context }))

  instantiated_safe : (template : Option Template) (given : List Given) → Each (GivenSound T) given → (call : Templates) → TemplatesSafe call → (y : Context) → IsContext T y
      → Safe O Anything (instantiated template given W call y)
  instantiated_safe None given h call d y i = pure_safe O Anything tt tt
  instantiated_safe (Some template) given h call d y i =
      bind_safe O (AllValues T) Anything (params_in (map binding_of template.params) given W call (place y [])) _
      (params_safe _ (each_binds template.params) given h call d (place y []) (record { locals = tt; context = i }))
      (λ locals l. then_safe O (AllValues T) Anything (body_does template.body W call (place y locals)) (pure tt)
      (order_safe _ (each_does template.body) call d (place y locals) (record { locals = l; context = i })) (pure_safe O Anything tt tt))

  text_safe : (n : ℕ) → T n → Safe O Anything (spend >> ask (R.value n) >>= λ value. emit (event.Text value))
  text_safe n t = bind_safe O Anything Anything (spend >> ask (R.value n)) _
      (then_safe O Anything Anything spend (ask (R.value n)) (spend_safe O) (ask_safe O Anything (R.value n) (x.reading.value n t))) (λ value a. emit_safe O _)

  inner_safe : (called : Called) (call : Templates) → TemplatesSafe call → (y : Context) → IsContext T y → Safe O Anything (spend >> children_of W y.node (call called []))
  inner_safe called call d y i = then_safe O Anything Anything spend _ (spend_safe O) (children_by_safe (asks_size sheet) y.node i.node (call called []) (λ z j. d called [] tt z j))

  built_in_safe : (k : Kind) (called : Called) (call : Templates) → TemplatesSafe call → (y : Context) → IsContext T y → Safe O Anything (built_in_of k called W call y)
  built_in_safe kind.Root called call d y i = inner_safe called call d y i
  built_in_safe kind.Element called call d y i = inner_safe called call d y i
  built_in_safe kind.Attribute called call d y i = text_safe y.node i.node
  built_in_safe kind.Text called call d y i = text_safe y.node i.node
  built_in_safe kind.Instruction called call d y i = pure_safe O Anything tt tt
  built_in_safe kind.Comment called call d y i = pure_safe O Anything tt tt

  template_safe : (template : Option ℕ) (called : Called) (given : List Given) → Each (GivenSound T) given → (call : Templates) → TemplatesSafe call → (y : Context) → IsContext T y
      → Safe O Anything (template_does template called given W call y)
  template_safe None called given h call d y i =
      bind_safe O Anything Anything (ask (R.row y.node)) _ (ask_safe O Anything (R.row y.node) (x.reading.row y.node i.node)) (λ row a. built_in_safe row.kind called call d y i)
  template_safe (Some template) called given h call d y i = instantiated_safe (slice_get sheet.templates template) given h call d y i

  chosen_safe : (called : Called) (y : Context) → IsContext T y → Safe O Anything (chosen W called y)
  chosen_safe (InMode mode) y i = bind_safe O Anything Anything (ask _) _ (ask_safe O Anything _ (choice_told T O R x.reading sheet.rules mode y.node i.node)) (λ rule a. pure_safe O Anything _ tt)
  chosen_safe (Named template) y i = pure_safe O Anything _ tt

  pub templates_safe : (more : ℕ) → TemplatesSafe (templates more W)
  templates_safe zero called given h y i = bind_safe O Anything Anything (chosen W called y) _ (chosen_safe called y i) (λ template a. fail_safe O Anything TooDeep)
  templates_safe (suc more) called given h y i =
      bind_safe O Anything Anything (chosen W called y) _ (chosen_safe called y i)
      (λ template a. then_safe O Anything Anything spend _ (spend_safe O) (template_safe template called given h (templates more W) (templates_safe more) y i))

  at_root : IsContext T (alone 0)
  at_root = record { node = x.reading.root; current = x.reading.root }

  pub root_safe : Safe O Anything (templates most_nested W (InMode 0) [] (alone 0))
  root_safe = templates_safe most_nested (InMode 0) [] tt (alone 0) at_root

  pub global_safe : (global : Global) → Safe O (IsValue T) (global_value global W)
  global_safe global = then_safe O Anything (IsValue T) spend _ (spend_safe O)
      (giving_safe global.value (templates most_nested W) (templates_safe most_nested) (place (alone 0) []) (record { locals = tt; context = at_root }))

set_sound : (T : Rows) (values : List Value) (at : ℕ) (v : Value) → AllValues T values → IsValue T v → AllValues T (slice_set values at v)
set_sound T [] at v a s = tt
set_sound T (w ∷ ws) zero v a s = (s, a.1)
set_sound T (w ∷ ws) (suc at) v a s = (a.0, set_sound T ws at v a.1 s)

undone_sound : (T : Rows) (globals : List Global) → AllValues T (map (λ (global : Global). text []) globals)
undone_sound T [] = tt
undone_sound T (global ∷ globals) = (tt, undone_sound T globals)

module _ (T O : Rows) (sheet : Sheet) (w : World) (x : IsWorld T O w) where
  one_global_safe : (global : Option Global) (at : ℕ) (values : List Value) → AllValues T values → Safe O (AllValues T) (global_in sheet w global at values)
  one_global_safe None at values a = pure_safe O (AllValues T) values a
  one_global_safe (Some global) at values a =
      bind_safe O (IsValue T) (AllValues T) (global_value global (setting sheet w values)) _ (global_safe T O sheet values w x a global)
      (λ value v. pure_safe O (AllValues T) _ (set_sound T values at value a v))

  globals_safe : (order : List ℕ) (values : List Value) → AllValues T values → Safe O (AllValues T) (globals_in sheet w order values)
  globals_safe [] values a = pure_safe O (AllValues T) values a
  globals_safe (at ∷ order) values a =
      bind_safe O (AllValues T) (AllValues T) (global_in sheet w (slice_get sheet.globals at) at values) _ (one_global_safe (slice_get sheet.globals at) at values a)
      (λ later l. globals_safe order later l)

  pub transforms_safe : (order : List ℕ) → Safe O Anything (transforms sheet order w)
  transforms_safe order = bind_safe O (AllValues T) Anything (globals_in sheet w order (undone sheet)) _ (globals_safe order (undone sheet) (undone_sound T sheet.globals))
      (λ globals a. root_safe T O sheet globals w x a)
