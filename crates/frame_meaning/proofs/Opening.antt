-- How templates are opened.
use Rattle.std.proofs.Common.{◌≡◌, refl, sym, ap, ◌∙◌, ℕ, zero, suc, ◌-◌, ◌<◌, List, [], ◌∷◌, append-nil, Bool, true, false, Option, Some, None, arith}
use Rattle.std.specs.Borrow.{Bor}
use Rattle.std.specs.Prelude.{slice_get}
use Rattle.doc_model.specs.Answers.{Known, Fault, Open}
use Rattle.doc_model.specs.declared.node_test.Test.TheVariants as test
use Rattle.doc_model.specs.declared.row.Axis.TheVariants as axis
use Rattle.doc_model.specs.declared.row.Kind.{Kind}
use Rattle.doc_model.specs.declared.row.Kind.TheVariants as kind
use Rattle.doc_model.specs.declared.row.Row.{Row}
use Rattle.engine_meaning.specs.Execution.{Called, InMode, Named, Templates, built_in_of, chosen, instantiated, most_nested, template_does, template_of, templates}
use Rattle.engine_meaning.specs.Items.{children_by, over}
use Rattle.engine_meaning.specs.Places.{World, Setting, place, Given}
use Rattle.engine_meaning.specs.Runs.{State, Ran, Done, Faulted, Waits, Run, after, ◌>>=◌, ◌>>◌, pure, ask, spend, emit}
use Rattle.engine_meaning.specs.Sizes.{asks_size}
use Rattle.fault_kinds.specs.declared.fault.FaultKind.{FaultKind}
use Rattle.fault_kinds.specs.declared.fault.FaultKind.TheVariants.{Budget, TooDeep}
use Rattle.frame_meaning.proofs.Instructions.{with_event, with_unit, emptied}
use Rattle.frame_meaning.specs.Acted.{room}
use Rattle.frame_meaning.specs.Apart.{surface, under}
use Rattle.frames.specs.Apart.{base}
use Rattle.frame_meaning.specs.Opened.{opened}
use Rattle.frame_meaning.specs.Rest.{rest}
use Rattle.frame_meaning.specs.Stand.{Stand, at_place, setting_at}
use Rattle.frame_meaning.specs.Uses.{calls, declares, givens, passes}
use Rattle.frames.specs.Depth.{depth}
use Rattle.frames.specs.declared.frame.Frame.{Frame}
use Rattle.frames.specs.declared.frame.Frame.TheVariants as f
use Rattle.frames.specs.declared.parts.Call.TheVariants as call
use Rattle.frames.specs.declared.parts.Handed.{Handed}
use Rattle.frames.specs.declared.parts.Work.TheVariants as work
use Rattle.result_events.specs.declared.event.ResultEvent.{ResultEvent}
use Rattle.result_events.specs.declared.event.ResultEvent.TheVariants as event
use Rattle.rule_choice.specs.Choice.{choice_of}
use Rattle.sheet_ast.specs.declared.instruction.Instruction.{Instruction}
use Rattle.sheet_ast.specs.declared.instruction.Variable.{Variable}
use Rattle.sheet_ast.specs.declared.sheet.Sheet.{Sheet}
use Rattle.sheet_ast.specs.declared.sheet.Template.{Template}
use Rattle.xpath_meaning.specs.Outcome.{Outcome}
use Rattle.xpath_meaning.specs.declared.context.Context.{Context}

opens_so : (more : ℕ) (W : Setting) (called : Called) (given : List Given) (x : Context) (s : State) → templates more W called given x s ≡ after (chosen W called x s) (opened more W called given x)
opens_so zero W called given x s = refl
opens_so (suc more) W called given x s = refl

-- a run that goes on in the same way from elsewhere
elsewhere : {A : Type 0} (b : Option (List ResultEvent)) (o : Ran A) (h k : Stand) (g next : Stand → Run (Unit {0})) → ((t : State) → g h t ≡ next k t)
    → after (under b (after o (λ _. pure h))) g ≡ after (under b (after o (λ _. pure k))) next
elsewhere b (Done x t) h k g next e = e t
elsewhere b (Faulted f t) h k g next e = refl
elsewhere b (Waits m t) h k g next e = refl

module _ (sheet : Sheet) (w : World) (frames : List Frame) (h : Stand) where
  abbrev W : Setting
  W = setting_at sheet w h

  abbrev x : Context
  x = h.place.context

  abbrev R : Stand → Run (Unit {0})
  R = rest sheet w frames

  -- a template that was chosen is left
  abbrev pub opening : Called → List Given → Option ℕ → State → Ran (Unit {0})
  opening called given template s = after (under (base frames) (after (opened (most_nested - depth frames) W called given x template s) (λ _. pure h))) R

  opening_at : (more : ℕ) → most_nested - depth frames ≡ more → (called : Called) (given : List Given) (template : Option ℕ) (s : State)
      → opening called given template s ≡ after (under (base frames) (after (opened more W called given x template s) (λ _. pure h))) R
  opening_at more is called given template s = ap (λ k. after (under (base frames) (after (opened k W called given x template s) (λ _. pure h))) R) is

  room_is : depth frames < most_nested → most_nested - depth frames ≡ suc (most_nested - suc (depth frames))
  room_is below = omega arith

  abbrev inner : Templates
  inner = templates (most_nested - suc (depth frames)) W

  pub too_deep : (called : Called) (given : List Given) (template : Option ℕ) (s : State) → most_nested - depth frames ≡ 0 → opening called given template s ≡ Faulted TooDeep (surface (base frames) s)
  too_deep called given template s full = opening_at 0 full called given template s

  pub no_unit : (called : Called) (given : List Given) (template : Option ℕ) (s : State) → depth frames < most_nested
      → opening called given template (emptied s) ≡ Faulted Budget (surface (base frames) (emptied s))
  no_unit called given template s below = opening_at _ (room_is below) called given template (emptied s)

  opened_as : (called : Called) (given : List Given) (template : Option ℕ) (s : State) → depth frames < most_nested
      → opening called given template (with_unit s) ≡ after (under (base frames) (after (template_does template called given W inner x s) (λ _. pure h))) R
  opened_as called given template s below = opening_at _ (room_is below) called given template (with_unit s)

  instantiated_so : (called : Called) (given : List Given) (at : ℕ) (s : State) (found : Option Template) → depth frames < most_nested → slice_get sheet.templates at ≡ found
      → opening called given (Some at) (with_unit s) ≡ after (under (base frames) (after (instantiated found given W inner x s) (λ _. pure h))) R
  instantiated_so called given at s found below is =
      opened_as called given (Some at) s below ∙ ap (λ (t : Option Template). after (under (base frames) (after (instantiated t given W inner x s) (λ _. pure h))) R) is

  -- a template of the sheet: its parameters and its body, above the frame of its end
  pub template_opens : (called : Called) (given : List Handed) (at : ℕ) (s : State) (found : Template) (params : Bor (List Variable)) (body : Bor (List Instruction))
      → depth frames < most_nested → slice_get sheet.templates at ≡ Some found
      → params.now ≡ found.params → body.now ≡ found.body → opening called (givens given) (Some at) (with_unit s)
      ≡ rest sheet w (f.Declared (record { left = params; begun = false; given = given; body = body }) ∷ f.Template h.place.locals x ∷ frames) (at_place h x []) s
  template_opens called given at s found params body below is p b =
      instantiated_so called (givens given) at s (Some found) below is
      ∙ sym (ap (λ l. after (under (base frames) (after (declares false l (givens given) found.body W inner (place x []) s) (λ _. pure h))) R) p)
      ∙ sym (ap (λ l. after (under (base frames) (after (declares false params.now (givens given) l W inner (place x []) s) (λ _. pure h))) R) b)
      ∙ elsewhere (base frames) (declares false params.now (givens given) body.now W inner (place x []) s) h (at_place h x []) R (rest sheet w (f.Template h.place.locals x ∷ frames)) (λ t. refl)

  pub none_opens : (called : Called) (given : List Given) (at : ℕ) (s : State) → depth frames < most_nested → slice_get sheet.templates at ≡ None → opening called given (Some at) (with_unit s) ≡ R h s
  none_opens called given at s below is = instantiated_so called given at s None below is

  -- the built-in rules

  pub built_in_as : (called : Called) (given : List Given) (s : State) (row : Row) (k : Kind) → depth frames < most_nested → w.reading.row x.node ≡ Known row → row.kind ≡ k
      → opening called given None (with_unit s) ≡ after (under (base frames) (after (built_in_of k called W inner x s) (λ _. pure h))) R
  built_in_as called given s row k below is of =
      opened_as called given None s below
      ∙ ap (λ (o : Outcome Row). after (under (base frames) (after (after (ask o s) (λ row. built_in_of row.kind called W inner x)) (λ _. pure h))) R) is
      ∙ ap (λ k. after (under (base frames) (after (built_in_of k called W inner x s) (λ _. pure h))) R) of

  pub nothing_built_in : (called : Called) (given : List Given) (s : State) (row : Row) → depth frames < most_nested → w.reading.row x.node ≡ Known row
      → (row.kind ≡ kind.Instruction) → opening called given None (with_unit s) ≡ R h s
  nothing_built_in called given s row below is of = built_in_as called given s row kind.Instruction below is of

  pub no_comment_built_in : (called : Called) (given : List Given) (s : State) (row : Row) → depth frames < most_nested → w.reading.row x.node ≡ Known row
      → (row.kind ≡ kind.Comment) → opening called given None (with_unit s) ≡ R h s
  no_comment_built_in called given s row below is of = built_in_as called given s row kind.Comment below is of

  -- a text and an attribute
  value_as : (called : Called) (given : List Given) (s : State) (row : Row) (k : Kind) (o : Outcome (List ℕ)) → depth frames < most_nested → w.reading.row x.node ≡ Known row → row.kind ≡ k
      → ((t : State) → built_in_of k called W inner x t ≡ (spend >> ask (w.reading.value x.node) >>= λ value. emit (event.Text value)) t) → w.reading.value x.node ≡ o
      → opening called given None (with_unit s) ≡ after (under (base frames) (after (after (after (spend s) (λ _. ask o)) (λ value. emit (event.Text value))) (λ _. pure h))) R
  value_as called given s row k o below is of so has =
      built_in_as called given s row k below is of
      ∙ ap (λ r. after (under (base frames) (after r (λ _. pure h))) R) (so s)
      ∙ ap (λ (o : Outcome (List ℕ)). after (under (base frames) (after (after (after (spend s) (λ _. ask o)) (λ value. emit (event.Text value))) (λ _. pure h))) R) has

  pub text_built_in : (called : Called) (given : List Given) (s : State) (row : Row) (value : List ℕ) → depth frames < most_nested → w.reading.row x.node ≡ Known row
      → row.kind ≡ kind.Text → w.reading.value x.node ≡ Known value
      → opening called given None (with_unit (with_unit s)) ≡ R h (with_event s (event.Text value))
  unfolding emit
  text_built_in called given s row value below is of has = value_as called given (with_unit s) row kind.Text (Known value) below is of (λ t. refl) has

  pub attribute_built_in : (called : Called) (given : List Given) (s : State) (row : Row) (value : List ℕ) → depth frames < most_nested → w.reading.row x.node ≡ Known row
      → row.kind ≡ kind.Attribute → w.reading.value x.node ≡ Known value
      → opening called given None (with_unit (with_unit s)) ≡ R h (with_event s (event.Text value))
  unfolding emit
  attribute_built_in called given s row value below is of has = value_as called given (with_unit s) row kind.Attribute (Known value) below is of (λ t. refl) has

  pub text_no_unit : (called : Called) (given : List Given) (s : State) (row : Row) → depth frames < most_nested → w.reading.row x.node ≡ Known row → row.kind ≡ kind.Text
      → opening called given None (with_unit (emptied s)) ≡ Faulted Budget (surface (base frames) (emptied s))
  text_no_unit called given s row below is of = built_in_as called given (emptied s) row kind.Text below is of

  pub attribute_no_unit : (called : Called) (given : List Given) (s : State) (row : Row) → depth frames < most_nested → w.reading.row x.node ≡ Known row → row.kind ≡ kind.Attribute
      → opening called given None (with_unit (emptied s)) ≡ Faulted Budget (surface (base frames) (emptied s))
  attribute_no_unit called given s row below is of = built_in_as called given (emptied s) row kind.Attribute below is of

  pub root_no_unit : (called : Called) (given : List Given) (s : State) (row : Row) → depth frames < most_nested → w.reading.row x.node ≡ Known row → row.kind ≡ kind.Root
      → opening called given None (with_unit (emptied s)) ≡ Faulted Budget (surface (base frames) (emptied s))
  root_no_unit called given s row below is of = built_in_as called given (emptied s) row kind.Root below is of

  pub element_no_unit : (called : Called) (given : List Given) (s : State) (row : Row) → depth frames < most_nested → w.reading.row x.node ≡ Known row → row.kind ≡ kind.Element
      → opening called given None (with_unit (emptied s)) ≡ Faulted Budget (surface (base frames) (emptied s))
  element_no_unit called given s row below is of = built_in_as called given (emptied s) row kind.Element below is of

  -- the root and elements: the children
  pub children_left : (mode : ℕ) (s : State) (sizes : Bool) → asks_size sheet ≡ sizes
      → after (under (base frames) (after (children_by (asks_size sheet) W x.node (inner (InMode mode) []) s) (λ _. pure h))) R
      ≡ after (under (base frames) (after (children_by sizes W x.node (inner (InMode mode) []) s) (λ _. pure h))) R
  children_left mode s sizes is = ap (λ b. after (under (base frames) (after (children_by b W x.node (inner (InMode mode) []) s) (λ _. pure h))) R) is

  abbrev pub stream_below : ℕ → List Frame
  stream_below mode = f.Stream None 0 (work.ByMode mode []) x ∷ f.Template h.place.locals x ∷ frames

  pub streams_so : (mode : ℕ) (s : State)
      → after (under (base frames) (after (children_by false W x.node (inner (InMode mode) []) s) (λ _. pure h))) R ≡ rest sheet w (stream_below mode) (at_place h x []) s
  streams_so mode s = elsewhere (base frames) (children_by false W x.node (inner (InMode mode) []) s) h (at_place h x []) R (rest sheet w (f.Template h.place.locals x ∷ frames)) (λ t. refl)

  pub root_streams : (mode : ℕ) (given : List Given) (s : State) (row : Row) → depth frames < most_nested → w.reading.row x.node ≡ Known row → row.kind ≡ kind.Root → asks_size sheet ≡ false
      → opening (InMode mode) given None (with_unit (with_unit s)) ≡ rest sheet w (stream_below mode) (at_place h x []) s
  root_streams mode given s row below is of sizes = built_in_as (InMode mode) given (with_unit s) row kind.Root below is of ∙ children_left mode s false sizes ∙ streams_so mode s

  pub element_streams : (mode : ℕ) (given : List Given) (s : State) (row : Row) → depth frames < most_nested → w.reading.row x.node ≡ Known row → row.kind ≡ kind.Element → asks_size sheet ≡ false
      → opening (InMode mode) given None (with_unit (with_unit s)) ≡ rest sheet w (stream_below mode) (at_place h x []) s
  element_streams mode given s row below is of sizes = built_in_as (InMode mode) given (with_unit s) row kind.Element below is of ∙ children_left mode s false sizes ∙ streams_so mode s

  -- a stylesheet that asks for sizes: the children are known whole first
  abbrev pub children_below : ℕ → List Frame
  children_below mode = f.Children mode ∷ f.Template h.place.locals x ∷ frames

  pub children_so : (mode : ℕ) (s : State)
      → after (under (base frames) (after (children_by true W x.node (inner (InMode mode) []) s) (λ _. pure h))) R ≡ rest sheet w (children_below mode) (at_place h x []) s
  children_so mode s = elsewhere (base frames) (children_by true W x.node (inner (InMode mode) []) s) h (at_place h x []) R (rest sheet w (f.Template h.place.locals x ∷ frames)) (λ t. refl)

-- the children of the context node, as they are known

module _ (sheet : Sheet) (w : World) (frames : List Frame) (h : Stand) (s : State) where
  children_as : (mode : ℕ) (o : Outcome (List ℕ)) → w.reading.axis axis.Child test.Any h.place.context.node ≡ o → rest sheet w (f.Children mode ∷ frames) h s
      ≡ after (under (base frames) (after (after (ask o s) (over (room sheet w frames h (InMode mode) []))) (λ _. pure h))) (rest sheet w frames)
  children_as mode o is =
      ap (λ (o : Outcome (List ℕ)). after (under (base frames) (after (after (ask o s) (over (room sheet w frames h (InMode mode) []))) (λ _. pure h))) (rest sheet w frames)) is

  pub children_move : (mode : ℕ) (nodes : List ℕ) → w.reading.axis axis.Child test.Any h.place.context.node ≡ Known nodes
      → rest sheet w (f.Children mode ∷ frames) h s ≡ rest sheet w (f.Items nodes 0 (work.ByMode mode []) h.place.context ∷ frames) h s
  children_move mode nodes is = children_as mode (Known nodes) is

  pub children_fail : (mode : ℕ) (k : FaultKind) → w.reading.axis axis.Child test.Any h.place.context.node ≡ Fault k
      → rest sheet w (f.Children mode ∷ frames) h s ≡ Faulted k (surface (base frames) s)
  children_fail mode k is = children_as mode (Fault k) is

  pub children_wait : (mode : ℕ) (m : ℕ) → w.reading.axis axis.Child test.Any h.place.context.node ≡ Open m
      → rest sheet w (f.Children mode ∷ frames) h s ≡ Waits m (surface (base frames) s)
  children_wait mode m is = children_as mode (Open m) is

-- a template that is not chosen yet, and values that are handed on to one

module _ (sheet : Sheet) (w : World) (frames : List Frame) (h : Stand) (s : State) where
  choice_as : (mode : ℕ) (given : List Handed) (o : Outcome (Option ℕ)) → choice_of w.reading sheet.rules mode h.place.context.node ≡ o → rest sheet w (f.Choose mode given ∷ frames) h s
      ≡ after (under (base frames) (after
      (after (after (ask o s) (λ rule. pure (template_of sheet.rules rule)))
      (opened (most_nested - depth frames) (setting_at sheet w h) (InMode mode) (givens given) h.place.context)) (λ _. pure h)))
      (rest sheet w frames)
  choice_as mode given o is =
      ap (λ r. after (under (base frames) (after r (λ _. pure h))) (rest sheet w frames)) (opens_so (most_nested - depth frames) (setting_at sheet w h) (InMode mode) (givens given) h.place.context s)
      ∙ ap (λ (o : Outcome (Option ℕ)). after (under (base frames) (after (after (after (ask o s) (λ rule. pure (template_of sheet.rules rule)))
      (opened (most_nested - depth frames) (setting_at sheet w h) (InMode mode) (givens given) h.place.context)) (λ _. pure h))) (rest sheet w frames)) is

  pub choose_moves : (mode : ℕ) (given : List Handed) (rule : Option ℕ) → choice_of w.reading sheet.rules mode h.place.context.node ≡ Known rule
      → rest sheet w (f.Choose mode given ∷ frames) h s ≡ opening sheet w frames h (InMode mode) (givens given) (template_of sheet.rules rule) s
  choose_moves mode given rule is = choice_as mode given (Known rule) is

  pub choose_fails : (mode : ℕ) (given : List Handed) (k : FaultKind) → choice_of w.reading sheet.rules mode h.place.context.node ≡ Fault k
      → rest sheet w (f.Choose mode given ∷ frames) h s ≡ Faulted k (surface (base frames) s)
  choose_fails mode given k is = choice_as mode given (Fault k) is

  pub choose_waits : (mode : ℕ) (given : List Handed) (m : ℕ) → choice_of w.reading sheet.rules mode h.place.context.node ≡ Open m
      → rest sheet w (f.Choose mode given ∷ frames) h s ≡ Waits m (surface (base frames) s)
  choose_waits mode given m is = choice_as mode given (Open m) is

  -- all values that are handed on to a template of this place are known
  pub call_opens : (at : ℕ) (left : Bor (List Variable)) (given : List Handed) → left.now ≡ [] → rest sheet w (f.Params (record { call = call.Template at; left = left; given = given }) ∷ frames) h s
      ≡ opening sheet w frames h (Named at) (givens given) (Some at) s
  call_opens at left given has =
      ap (λ l. after (under (base frames) (after (passed_on l) (λ _. pure h))) (rest sheet w frames)) has
      ∙ ap (λ l. after (under (base frames) (after (calls (call.Template at) l (setting_at sheet w h) (room sheet w frames h) h.place s) (λ _. pure h))) (rest sheet w frames))
      (append-nil (givens given))
      ∙ ap (λ r. after (under (base frames) (after r (λ _. pure h))) (rest sheet w frames)) (opens_so (most_nested - depth frames) (setting_at sheet w h) (Named at) (givens given) h.place.context s)
    where
      passed_on : List Variable → Ran (Unit {0})
      passed_on l = passes (call.Template at) l (givens given) (setting_at sheet w h) (room sheet w frames h) h.place s
