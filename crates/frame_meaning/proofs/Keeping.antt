-- What a frame does stays, and what waits goes on.
use Rattle.std.proofs.Common.{◌≡◌, refl, sym, ap, ◌∙◌, subst, ℕ, zero, suc, List, [], ◌∷◌, ◌++◌, drop, length, map, Bool, true, false, Option, Some, None}
use Rattle.std.specs.Borrow.{Bor}
use Rattle.std.specs.Prelude.{slice_get, slice_set}
use Rattle.doc_model.specs.declared.node_test.Test.TheVariants as test
use Rattle.doc_model.specs.declared.row.Axis.TheVariants as axis
use Rattle.engine_laws.proofs.Asking.{rows_stay}
use Rattle.engine_laws.proofs.Grows as grows
use Rattle.engine_laws.proofs.Grows.{AllOf, TemplatesKeep, templates_keep}
use Rattle.engine_laws.proofs.Keeping.{Keeps, bind_keeps, then_keeps, pure_keeps, emit_keeps, tell_keeps, ask_keeps, each_keeps, each_goes_on, over_keeps}
use Rattle.engine_laws.specs.Growing.{Continues}
use Rattle.engine_meaning.specs.Execution.{Case, InMode, Named, Templates, acts, binding_of, case_of, chosen_case, does, most_nested, within}
use Rattle.engine_meaning.specs.Places.{World, Setting, setting, Place, place, with_local, Given, given_as}
use Rattle.engine_meaning.specs.Runs.{State, Run}
use Rattle.engine_questions.specs.Walks.{flow, select_of}
use Rattle.frame_meaning.proofs.Layers.{case_is, does_is}
use Rattle.frame_meaning.proofs.Surfaces.{Lasts, keeps_last, surface_out}
use Rattle.frames.specs.Apart.{outside}
use Rattle.frame_meaning.specs.Stand.{Stand}
use Rattle.frame_meaning.specs.Uses.{begun_global, calls, declares, givens, globals_left, params_left, passes, receives, used}
use Rattle.frame_meaning.specs.Work.{bodies_of, frame_does, layer, left_does, work_does}
use Rattle.frames.specs.declared.frame.Frame.{Frame}
use Rattle.frames.specs.declared.frame.Frame.TheVariants as f
use Rattle.frames.specs.declared.parts.Call.{Call}
use Rattle.frames.specs.declared.parts.Call.TheVariants as call
use Rattle.frames.specs.declared.parts.Purpose.{Purpose}
use Rattle.frames.specs.declared.parts.Purpose.TheVariants as purpose
use Rattle.frames.specs.declared.parts.Use.{Use}
use Rattle.frames.specs.declared.parts.Use.TheVariants as use_of
use Rattle.frames.specs.declared.parts.Work.{Work}
use Rattle.frames.specs.declared.parts.Work.TheVariants as work
use Rattle.result_events.specs.declared.event.ResultEvent.{ResultEvent}
use Rattle.sheet_ast.specs.declared.instruction.Instruction.{Instruction}
use Rattle.sheet_ast.specs.declared.instruction.Variable.{Variable}
use Rattle.sheet_ast.specs.declared.instruction.When.{When, out-When}
use Rattle.sheet_ast.specs.declared.sheet.Global.{Global}
use Rattle.sheet_ast.specs.declared.sheet.Sheet.{Sheet}
use Rattle.xpath_laws.proofs.Expressions.{items_go_on}
use Rattle.xpath_meaning.specs.Keys.{alone}
use Rattle.xpath_meaning.specs.Streams.{Stream, Ending, Whole, Fault, Cut, GoesOn, GoesOnFrom}
use Rattle.xpath_meaning.specs.declared.context.Context.{Context}
use Rattle.xpath_meaning.specs.declared.context.Size.TheVariants as size
use Rattle.xpath_syntax.specs.declared.expression.Expr.{Expr}
use Rattle.xpath_values.specs.declared.value.Value.{Value}
use Rattle.xpath_values.specs.declared.value.Value.TheVariants.{Fragment}

-- what a walk has left goes on
more_behind : (k : ℕ) (ns more : List ℕ) → (later : List ℕ) × (drop k (ns ++ more) ≡ drop k ns ++ later)
more_behind zero ns more = (more, refl)
more_behind (suc k) [] more = (drop (suc k) more, refl)
more_behind (suc k) (n ∷ ns) more = more_behind k ns more

pub drop_goes_on : (k : ℕ) (ns : List ℕ) (ending : Ending) (later : Stream) → GoesOnFrom ns ending later → GoesOnFrom (drop k ns) ending (record { items = drop k later.items; ending = later.ending })
drop_goes_on k ns Whole later h = ap (λ (s : Stream). record { items = drop k s.items; ending = s.ending }) h
drop_goes_on k ns (Fault e) later h = ap (λ (s : Stream). record { items = drop k s.items; ending = s.ending }) h
drop_goes_on k ns (Cut m) later h = let b = more_behind k ns h.0 in (b.0, ap (drop k) h.1 ∙ b.1)

module _ (sheet : Sheet) (w v : World) (x : Continues w v) where
  pub flow_goes_on : (select : Option Expr) (values : List Value) (c : Context) → GoesOn (flow select w.reading values c) (flow select v.reading values c)
  flow_goes_on (Some e) values c = items_go_on w.reading v.reading x.reading e values c
  flow_goes_on None values c = x.reading.children _ c.node

  module _ (globals : List Value) where
    abbrev W : Setting
    W = setting sheet w globals

    abbrev V : Setting
    V = setting sheet v globals

    abbrev Keep : Templates → Templates → Type 0
    Keep t u = TemplatesKeep sheet globals w v x t u

    -- a state that has one unit more
    abbrev with_unit : State → State
    with_unit s = record { budget = suc s.budget; events = s.events; messages = s.messages }

    acts_keep : (i : Instruction) (t u : Templates) → Keep t u → (c : Place) → Keeps (acts (layer i) W t c) (acts (layer i) V u c)
    acts_keep i t u d c =
        let k = subst (λ (a : Setting → Templates → Place → Run (List Value)). Keeps (a W t c) (a V u c)) (does_is i) (grows.does_keeps sheet globals w v x i t u d c) in
        record {
          later = λ s. k.later (with_unit s);
          adds = λ s. let b = k.adds (with_unit s) in record { more_events = b.more_events; events = b.events; more_messages = b.more_messages; messages = b.messages };
        }

    left_keeps : (begun : Bool) (is : List Instruction) (t u : Templates) → Keep t u → (c : Place) → Keeps (left_does begun is W t c) (left_does begun is V u c)
    left_keeps false is t u d c = grows.body_keeps sheet globals w v x is t u d c
    left_keeps true [] t u d c = pure_keeps c.locals
    left_keeps true (i ∷ is) t u d c = bind_keeps (acts_keep i t u d c) (λ locals. grows.body_keeps sheet globals w v x is t u d (place c.context locals))

    inside_keeps : (is : List Instruction) (t u : Templates) → Keep t u → (c : Place) → Keeps (within (map does is) W t c) (within (map does is) V u c)
    inside_keeps is t u d c = grows.within_keeps sheet globals w v x (map does is) (grows.each_does sheet globals w v x is) t u d c

    pub work_keeps : (k : Work) (t u : Templates) → Keep t u → (locals : List Value) (y : Context) → Keeps (work_does k W t locals y) (work_does k V u locals y)
    work_keeps (work.ByMode mode given) t u d locals y = d.at (InMode mode) (givens given) y
    work_keeps (work.ByBody body) t u d locals y = inside_keeps body.now t u d (place y locals)

    calls_keep : (to : Call) (given : List Given) (t u : Templates) → Keep t u → (c : Place) → Keeps (calls to given W t c) (calls to given V u c)
    calls_keep (call.Apply select mode sorts) given t u d c = grows.selected_keeps sheet globals w v x c select.now sorts.now (λ y. d.at (InMode mode) given y)
    calls_keep (call.Template template) given t u d c = d.at (Named template) given c.context

    pub passes_keep : (to : Call) (left : List Variable) (given : List Given) (t u : Templates) → Keep t u → (c : Place) → Keeps (passes to left given W t c) (passes to left given V u c)
    passes_keep to left given t u d c =
        bind_keeps (grows.handed_keeps sheet globals w v x (map binding_of left) (grows.each_binds sheet globals w v x left) t u d c) (λ more. calls_keep to (given ++ more) t u d c)

    params_left_keep : (begun : Bool) (left : List Variable) (given : List Given) (t u : Templates) → Keep t u → (c : Place)
        → Keeps (params_left begun (map binding_of left) given W t c) (params_left begun (map binding_of left) given V u c)
    params_left_keep false left given t u d c = grows.params_keep sheet globals w v x (map binding_of left) (grows.each_binds sheet globals w v x left) given t u d c
    params_left_keep true [] given t u d c = pure_keeps c.locals
    params_left_keep true (p ∷ ps) given t u d c =
        bind_keeps (grows.own_keeps sheet globals w v x (given_as (binding_of p).name given) (grows.binding_keeps sheet globals w v x p t u d c))
        (λ value. grows.params_keep sheet globals w v x (map binding_of ps) (grows.each_binds sheet globals w v x ps) given t u d (with_local c value))

    pub declares_keep : (begun : Bool) (left : List Variable) (given : List Given) (body : List Instruction) (t u : Templates) → Keep t u → (c : Place)
        → Keeps (declares begun left given body W t c) (declares begun left given body V u c)
    declares_keep begun left given body t u d c = bind_keeps (params_left_keep begun left given t u d c) (λ locals. inside_keeps body t u d (place c.context locals))

    each_case : (ws : List When) → AllOf (λ (k : Case). (t u : Templates) → Keep t u → (c : Place) → Keeps (k.body W t c) (k.body V u c)) (map case_of ws)
    each_case [] = tt
    each_case (w' ∷ ws) = (
      subst (λ (k : Case). (t u : Templates) → Keep t u → (c : Place) → Keeps (k.body W t c) (k.body V u c)) (sym (case_is w'))
          (λ t u d c. grows.body_keeps sheet globals w v x (out-When w').body t u d c),
      each_case ws,
    )

    whens_keep : (ws : List When) (other : Option (Bor (List Instruction))) (t u : Templates) → Keep t u → (c : Place)
        → Keeps (chosen_case (map case_of ws) (bodies_of other) W t c) (chosen_case (map case_of ws) (bodies_of other) V u c)
    whens_keep ws None t u d c = grows.cases_keep sheet globals w v x (map case_of ws) (each_case ws) None tt t u d c
    whens_keep ws (Some body) t u d c = grows.cases_keep sheet globals w v x (map case_of ws) (each_case ws) (Some (map does body.now)) (grows.each_does sheet globals w v x body.now) t u d c

  begun_global_keeps : (global : Option Global) (at : ℕ) (values : List Value) → Keeps (begun_global sheet w global at values) (begun_global sheet v global at values)
  begun_global_keeps None at values = pure_keeps values
  begun_global_keeps (Some global) at values =
      bind_keeps (grows.giving_keeps sheet values w v x global.value _ _ (templates_keep sheet values w v x most_nested) (place (alone 0) [])) (λ value. pure_keeps _)

  globals_left_keep : (begun : Bool) (order : List ℕ) (values : List Value) → Keeps (globals_left begun order sheet w values) (globals_left begun order sheet v values)
  globals_left_keep false order values = grows.globals_keep sheet w v x order values
  globals_left_keep true [] values = pure_keeps values
  globals_left_keep true (at ∷ order) values = bind_keeps (begun_global_keeps (slice_get sheet.globals at) at values) (λ later. grows.globals_keep sheet w v x order later)

  pub used_keeps : (u : Use) (value : Value) (more : ℕ) (h : Stand) → Keeps (used u value sheet w more h) (used u value sheet v more h)
  used_keeps use_of.Local value more h = pure_keeps _
  used_keeps (use_of.Handed name p) value more h = then_keeps (passes_keep h.globals p.call p.left.now _ _ _ (templates_keep sheet h.globals w v x more) h.place) (pure_keeps h)
  used_keeps (use_of.Declared d) value more h =
      then_keeps (declares_keep h.globals false d.left.now (givens d.given) d.body.now _ _ (templates_keep sheet h.globals w v x more) (with_local h.place value)) (pure_keeps _)
  used_keeps (use_of.Global at left) value more h = bind_keeps (grows.globals_keep sheet w v x left.now (slice_set h.globals at value)) (λ globals. pure_keeps _)

  receives_keeps : (p : Purpose) (made : List ResultEvent) (more : ℕ) (h : Stand) → Keeps (receives p made sheet w more h) (receives p made sheet v more h)
  receives_keeps (purpose.Value u) made more h = used_keeps u (Fragment made) more h
  receives_keeps (purpose.Attribute name) made more h = then_keeps (emit_keeps _) (pure_keeps h)
  receives_keeps (purpose.Processing target) made more h = then_keeps (emit_keeps _) (pure_keeps h)
  receives_keeps purpose.Comment made more h = then_keeps (emit_keeps _) (pure_keeps h)
  receives_keeps (purpose.Message terminate) made more h = then_keeps (then_keeps (tell_keeps _) (grows.terminated_keeps sheet h.globals w v x terminate)) (pure_keeps h)

  -- what a frame does, where b stands outside of those below it
  pub frame_lasts : (frame : Frame) (b : Option (List ResultEvent)) (more : ℕ) (h : Stand) → Lasts (outside frame b) b (frame_does frame sheet w more h) (frame_does frame sheet v more h)
  frame_lasts (f.Template locals context) b more h = keeps_last b (pure_keeps _)
  frame_lasts (f.Body is begun n) b more h = keeps_last b (bind_keeps (left_keeps h.globals begun is.now _ _ (templates_keep sheet h.globals w v x more) h.place) (λ locals. pure_keeps _))
  frame_lasts f.Close b more h = keeps_last b (then_keeps (emit_keeps _) (pure_keeps h))
  frame_lasts (f.Literal attributes body) b more h =
      keeps_last b (then_keeps (then_keeps (then_keeps (grows.attributes_keep sheet h.globals w v x attributes.now h.place)
      (inside_keeps h.globals body.now _ _ (templates_keep sheet h.globals w v x more) h.place)) (emit_keeps _)) (pure_keeps h))
  frame_lasts (f.Whens whens otherwise) b more h = keeps_last b (then_keeps (whens_keep h.globals whens.now otherwise _ _ (templates_keep sheet h.globals w v x more) h.place) (pure_keeps h))
  frame_lasts (f.Params p) b more h = keeps_last b (then_keeps (passes_keep h.globals p.call p.left.now (givens p.given) _ _ (templates_keep sheet h.globals w v x more) h.place) (pure_keeps h))
  frame_lasts (f.Choose mode given) b more h = keeps_last b (then_keeps ((templates_keep sheet h.globals w v x more).at (InMode mode) (givens given) h.place.context) (pure_keeps h))
  frame_lasts (f.Declared d) b more h =
      keeps_last b (then_keeps (declares_keep h.globals d.begun d.left.now (givens d.given) d.body.now _ _ (templates_keep sheet h.globals w v x more) h.place) (pure_keeps _))
  frame_lasts (f.Stream select taken k context) b more h =
      let values : List Value = h.globals ++ h.place.locals in
      let before : Stream = flow (select_of select) w.reading values context in
      let later : Stream = flow (select_of select) v.reading values context in
      keeps_last b (then_keeps
      (each_goes_on (work_keeps h.globals k _ _ (templates_keep sheet h.globals w v x more) h.place.locals) size.Unasked (suc taken) (drop taken before.items) before.ending
      (record { items = drop taken later.items; ending = later.ending }) (drop_goes_on taken before.items before.ending later (flow_goes_on (select_of select) values context)))
      (pure_keeps _))
  frame_lasts (f.Items nodes next k context) b more h =
      keeps_last b (then_keeps (each_keeps (work_keeps h.globals k _ _ (templates_keep sheet h.globals w v x more) h.place.locals) _ (suc next) (drop next nodes) Whole) (pure_keeps _))
  frame_lasts (f.Children mode) b more h =
      keeps_last b (then_keeps (bind_keeps (ask_keeps _ _ (x.reading.axis axis.Child test.Any h.place.context.node))
      (λ nodes. over_keeps nodes (λ y. (templates_keep sheet h.globals w v x more).at (InMode mode) [] y))) (pure_keeps h))
  frame_lasts (f.Keys nodes rows sorts k context) b more h =
      keeps_last b (then_keeps (bind_keeps (ask_keeps _ _ (rows_stay sheet h.globals w v x h.place sorts.now _ _ (drop (length rows) nodes)))
      (λ others. over_keeps _ (work_keeps h.globals k _ _ (templates_keep sheet h.globals w v x more) h.place.locals))) (pure_keeps _))
  frame_lasts (f.Copies nodes next) b more h = keeps_last b (then_keeps (grows.copies_keep sheet h.globals w v x (drop next nodes)) (pure_keeps h))
  frame_lasts (f.Apart outer purpose) b more h = record {
    later = λ s. (receives_keeps purpose s.events more h).later _;
    adds = λ s. rw (surface_out b outer s) ((keeps_last b (receives_keeps purpose s.events more h)).adds _);
  }
  frame_lasts (f.Globals left begun) b more h = keeps_last b (bind_keeps (globals_left_keep begun left.now h.globals) (λ globals. pure_keeps _))
