-- Literal elements, tests, globals and bodies that were run apart.
use Rattle.std.proofs.Common.{◌≡◌, refl, sym, ap, ◌∙◌, ℕ, ◌-◌, List, [], ◌∷◌, ◌++◌, map, length, Bool, true, false, Option, Some, None}
use Rattle.std.specs.Borrow.{Bor}
use Rattle.std.specs.Prelude.{slice_get, slice_set}
use Rattle.doc_model.specs.Answers.{Known, Fault, Open}
use Rattle.engine_meaning.specs.Events.{name_of, outer_text}
use Rattle.engine_meaning.specs.Execution.{Case, Templates, attributes_in, body_does, case_of, chosen_case, does, giving_of, if_else}
use Rattle.engine_meaning.specs.Execution.{most_nested, templates, within}
use Rattle.engine_meaning.specs.Meaning.{global_in, globals_in}
use Rattle.engine_meaning.specs.Places.{World, Setting, setting, Place, place}
use Rattle.engine_meaning.specs.Questions.{template_text, truth_at}
use Rattle.engine_meaning.specs.Runs.{State, Ran, Faulted, Waits, Run, after, ◌>>=◌, ◌>>◌, pure, ask, emit, with_events}
use Rattle.fault_kinds.specs.declared.fault.FaultKind.{FaultKind}
use Rattle.fault_kinds.specs.declared.fault.FaultKind.TheVariants.{Budget, Terminated}
use Rattle.frame_meaning.proofs.Ends.{body_ends}
use Rattle.frame_meaning.proofs.Instructions.{with_event, with_unit, emptied}
use Rattle.frame_meaning.proofs.Layers.{case_is}
use Rattle.frame_meaning.proofs.Locals.{body_adds}
use Rattle.frame_meaning.proofs.Surfaces.{after_assoc}
use Rattle.frame_meaning.proofs.Variables.{gives, uses}
use Rattle.frame_meaning.specs.Acted.{room}
use Rattle.frame_meaning.specs.Apart.{surface, under}
use Rattle.frames.specs.Apart.{base}
use Rattle.frame_meaning.specs.Rest.{rest}
use Rattle.frame_meaning.specs.Stand.{Stand, at_place, setting_at}
use Rattle.frame_meaning.specs.Uses.{at_root, begun_global, globals_left}
use Rattle.frame_meaning.specs.Work.{bodies_of}
use Rattle.frames.specs.Depth.{depth}
use Rattle.frames.specs.declared.frame.Frame.{Frame}
use Rattle.frames.specs.declared.frame.Frame.TheVariants as f
use Rattle.frames.specs.declared.parts.Purpose.TheVariants as purpose
use Rattle.frames.specs.declared.parts.Use.{Use}
use Rattle.frames.specs.declared.parts.Use.TheVariants as use_of
use Rattle.result_events.specs.declared.event.Name.{Name}
use Rattle.result_events.specs.declared.event.ResultEvent.{ResultEvent}
use Rattle.result_events.specs.declared.event.ResultEvent.TheVariants as event
use Rattle.sheet_ast.specs.declared.instruction.Instruction.{Instruction}
use Rattle.sheet_ast.specs.declared.instruction.LiteralAttr.{LiteralAttr}
use Rattle.sheet_ast.specs.declared.instruction.When.{When, out-When}
use Rattle.sheet_ast.specs.declared.sheet.Global.{Global}
use Rattle.sheet_ast.specs.declared.sheet.Sheet.{Sheet}
use Rattle.xpath_meaning.specs.Keys.{alone}
use Rattle.xpath_meaning.specs.Outcome.{Outcome}
use Rattle.xpath_meaning.specs.declared.context.Context.{Context}
use Rattle.xpath_values.specs.Fragments as fragments
use Rattle.xpath_values.specs.declared.value.Value.{Value}
use Rattle.xpath_values.specs.declared.value.Value.TheVariants.{Fragment}

module _ (sheet : Sheet) (w : World) (frames : List Frame) (h : Stand) (s : State) where
  abbrev W : Setting
  W = setting_at sheet w h

  abbrev T : Templates
  T = room sheet w frames h

  abbrev c : Place
  c = h.place

  abbrev R : Stand → Run (Unit {0})
  R = rest sheet w frames

  -- attributes of literal elements
  abbrev literal_so : (o : Ran (Unit {0})) (body : List Instruction) → Ran (Unit {0})
  literal_so o body = after (under (base frames) (after (after (after o (λ _. within (map does body) W T c)) (λ _. emit event.End)) (λ _. pure h))) R

  attribute_as : (attributes more : Bor (List LiteralAttr)) (body : Bor (List Instruction)) (a : LiteralAttr) (o : Outcome (List ℕ)) → attributes.now ≡ a ∷ more.now → template_text W c a.value ≡ o
      → rest sheet w (f.Literal attributes body ∷ frames) h s ≡ literal_so (after (ask o s) (λ value. emit (event.Attr (name_of a.name) value) >> attributes_in more.now W c)) body.now
  attribute_as attributes more body a o has is =
      ap (λ l. literal_so (attributes_in l W c s) body.now) has
      ∙ ap (λ (o : Outcome (List ℕ)). literal_so (after (ask o s) (λ value. emit (event.Attr (name_of a.name) value) >> attributes_in more.now W c)) body.now) is

  pub attribute_fails : (attributes more : Bor (List LiteralAttr)) (body : Bor (List Instruction)) (a : LiteralAttr) (k : FaultKind) → attributes.now ≡ a ∷ more.now
      → template_text W c a.value ≡ Fault k
      → rest sheet w (f.Literal attributes body ∷ frames) h s ≡ Faulted k (surface (base frames) s)
  attribute_fails attributes more body a k has is = attribute_as attributes more body a (Fault k) has is

  pub attribute_waits : (attributes more : Bor (List LiteralAttr)) (body : Bor (List Instruction)) (a : LiteralAttr) (m : ℕ) → attributes.now ≡ a ∷ more.now → template_text W c a.value ≡ Open m
      → rest sheet w (f.Literal attributes body ∷ frames) h s ≡ Waits m (surface (base frames) s)
  attribute_waits attributes more body a m has is = attribute_as attributes more body a (Open m) has is

  pub attribute_moves : (attributes more : Bor (List LiteralAttr)) (body : Bor (List Instruction)) (a : LiteralAttr) (value : List ℕ) → attributes.now ≡ a ∷ more.now
      → template_text W c a.value ≡ Known value
      → rest sheet w (f.Literal attributes body ∷ frames) h s ≡ rest sheet w (f.Literal more body ∷ frames) h (with_event s (event.Attr (name_of a.name) value))
  unfolding emit
  attribute_moves attributes more body a value has is = attribute_as attributes more body a (Known value) has is

  pub literal_ends : (attributes : Bor (List LiteralAttr)) (body : Bor (List Instruction)) → attributes.now ≡ []
      → rest sheet w (f.Literal attributes body ∷ frames) h s ≡ rest sheet w (f.Body body false (length c.locals) ∷ f.Close ∷ frames) h s
  unfolding emit
  literal_ends attributes body has =
      ap (λ l. literal_so (attributes_in l W c s) body.now) has
      ∙ ap (λ o. after (under (base frames) o) R) (after_assoc (within (map does body.now) W T c s) (λ _. emit event.End) (λ _. pure h))
      ∙ body_ends (base frames) h c.context c.locals (body_does body.now W T c s) (body_adds body.now W T c s) (emit event.End >> pure h) R (rest sheet w (f.Close ∷ frames)) (λ t. refl)

  -- tests
  whens_as : (whens more : Bor (List When)) (otherwise : Option (Bor (List Instruction))) (k : When) (o : Outcome Bool) → whens.now ≡ k ∷ more.now
      → truth_at W c (out-When k).test ≡ o → rest sheet w (f.Whens whens otherwise ∷ frames) h s
      ≡ after (under (base frames) (after
      (after (ask o s) (λ holds. if_else holds (body_does (out-When k).body W T c >> pure tt) (chosen_case (map case_of more.now) (bodies_of otherwise) W T c))) (λ _. pure h))) R
  whens_as whens more otherwise k o has is =
      ap (λ l. after (under (base frames) (after (chosen_case (map case_of l) (bodies_of otherwise) W T c s) (λ _. pure h))) R) has
      ∙ ap (λ (b : Case). after (under (base frames)
      (after (after (ask (truth_at W c b.test) s) (λ holds. if_else holds (b.body W T c >> pure tt) (chosen_case (map case_of more.now) (bodies_of otherwise) W T c)))
      (λ _. pure h))) R) (case_is k)
      ∙ ap (λ (o : Outcome Bool). after
      (under (base frames) (after (after (ask o s)
      (λ holds. if_else holds (body_does (out-When k).body W T c >> pure tt) (chosen_case (map case_of more.now) (bodies_of otherwise) W T c))) (λ _. pure h))) R) is

  pub when_fails : (whens more : Bor (List When)) (otherwise : Option (Bor (List Instruction))) (k : When) (e : FaultKind) → whens.now ≡ k ∷ more.now → truth_at W c (out-When k).test ≡ Fault e
      → rest sheet w (f.Whens whens otherwise ∷ frames) h s ≡ Faulted e (surface (base frames) s)
  when_fails whens more otherwise k e has is = whens_as whens more otherwise k (Fault e) has is

  pub when_waits : (whens more : Bor (List When)) (otherwise : Option (Bor (List Instruction))) (k : When) (m : ℕ) → whens.now ≡ k ∷ more.now → truth_at W c (out-When k).test ≡ Open m
      → rest sheet w (f.Whens whens otherwise ∷ frames) h s ≡ Waits m (surface (base frames) s)
  when_waits whens more otherwise k m has is = whens_as whens more otherwise k (Open m) has is

  pub when_passes : (whens more : Bor (List When)) (otherwise : Option (Bor (List Instruction))) (k : When) → whens.now ≡ k ∷ more.now → truth_at W c (out-When k).test ≡ Known false
      → rest sheet w (f.Whens whens otherwise ∷ frames) h s ≡ rest sheet w (f.Whens more otherwise ∷ frames) h s
  when_passes whens more otherwise k has is = whens_as whens more otherwise k (Known false) has is

  body_alone : (body : Bor (List Instruction))
      → after (under (base frames) (after (within (map does body.now) W T c s) (λ _. pure h))) R ≡ rest sheet w (f.Body body false (length c.locals) ∷ frames) h s
  body_alone body = body_ends (base frames) h c.context c.locals (body_does body.now W T c s) (body_adds body.now W T c s) (pure h) R R (λ t. refl)

  pub when_holds : (whens more : Bor (List When)) (otherwise : Option (Bor (List Instruction))) (k : When) (body : Bor (List Instruction)) → whens.now ≡ k ∷ more.now
      → truth_at W c (out-When k).test ≡ Known true → body.now ≡ (out-When k).body
      → rest sheet w (f.Whens whens otherwise ∷ frames) h s ≡ rest sheet w (f.Body body false (length c.locals) ∷ frames) h s
  when_holds whens more otherwise k body has is b =
      whens_as whens more otherwise k (Known true) has is
      ∙ ap (λ l. after (under (base frames) (after (within (map does l) W T c s) (λ _. pure h))) R) (sym b)
      ∙ body_alone body

  pub otherwise_nothing : (whens : Bor (List When)) → whens.now ≡ [] → rest sheet w (f.Whens whens None ∷ frames) h s ≡ R h s
  otherwise_nothing whens has = ap (λ l. after (under (base frames) (after (chosen_case (map case_of l) None W T c s) (λ _. pure h))) R) has

  pub otherwise_body : (whens : Bor (List When)) (body : Bor (List Instruction)) → whens.now ≡ []
      → rest sheet w (f.Whens whens (Some body) ∷ frames) h s ≡ rest sheet w (f.Body body false (length c.locals) ∷ frames) h s
  otherwise_body whens body has = ap (λ l. after (under (base frames) (after (chosen_case (map case_of l) (Some (map does body.now)) W T c s) (λ _. pure h))) R) has ∙ body_alone body

  -- what becomes of the events of a body that was run apart
  pub value_received : (outer : List ResultEvent) (u : Use) → rest sheet w (f.Apart outer (purpose.Value u) ∷ frames) h s ≡ uses sheet w frames h (with_events s outer) u (Fragment s.events)
  value_received outer u = refl

  pub attribute_received : (outer : List ResultEvent) (name : Name)
      → rest sheet w (f.Apart outer (purpose.Attribute name) ∷ frames) h s ≡ R h (with_event (with_events s outer) (event.Attr name (outer_text s.events)))
  unfolding emit
  attribute_received outer name = refl

  pub processing_received : (outer : List ResultEvent) (target : List ℕ)
      → rest sheet w (f.Apart outer (purpose.Processing target) ∷ frames) h s ≡ R h (with_event (with_events s outer) (event.Instruction target (outer_text s.events)))
  unfolding emit
  processing_received outer target = refl

  pub comment_received : (outer : List ResultEvent) → rest sheet w (f.Apart outer purpose.Comment ∷ frames) h s ≡ R h (with_event (with_events s outer) (event.Comment (outer_text s.events)))
  unfolding emit
  comment_received outer = refl

  -- one more message
  abbrev pub told : List ResultEvent → State
  told outer = record { budget = s.budget; events = outer; messages = s.messages ++ fragments.text_of s.events ∷ [] }

  pub message_received : (outer : List ResultEvent) → rest sheet w (f.Apart outer (purpose.Message false) ∷ frames) h s ≡ R h (told outer)
  message_received outer = refl

  pub message_terminates : (outer : List ResultEvent) → rest sheet w (f.Apart outer (purpose.Message true) ∷ frames) h s ≡ Faulted Terminated (surface (base frames) (told outer))
  message_terminates outer = refl

  pub template_ends : (locals : List Value) (context : Context) → rest sheet w (f.Template locals context ∷ frames) h s ≡ R (at_place h context locals) s
  template_ends locals context = refl

  pub close_moves : rest sheet w (f.Close ∷ frames) h s ≡ R h (with_event s event.End)
  unfolding emit
  close_moves = refl

-- globals

module _ (sheet : Sheet) (w : World) (frames : List Frame) (values : List Value) (s : State) where
  abbrev globals_so : Bool → List ℕ → State → Ran (Unit {0})
  globals_so begun left t = after (under (base frames) (after (globals_left begun left sheet w values t) (λ globals. pure (at_root globals)))) (rest sheet w frames)

  pub globals_end : (left : Bor (List ℕ)) (begun : Bool) → left.now ≡ [] → rest sheet w (f.Globals left begun ∷ frames) (at_root values) s ≡ rest sheet w frames (at_root values) s
  globals_end left false has = ap (λ l. globals_so false l s) has
  globals_end left true has = ap (λ l. globals_so true l s) has

  pub global_passes : (left more : Bor (List ℕ)) (at : ℕ) → left.now ≡ at ∷ more.now → slice_get sheet.globals at ≡ None
      → rest sheet w (f.Globals left false ∷ frames) (at_root values) s ≡ rest sheet w (f.Globals more false ∷ frames) (at_root values) s
  global_passes left more at has is =
      ap (λ l. globals_so false l s) has
      ∙ ap (λ (g : Option Global). after
      (under (base frames) (after (after (global_in sheet w g at values s) (λ later. globals_in sheet w more.now later)) (λ globals. pure (at_root globals)))) (rest sheet w frames)) is

  global_as : (left more : Bor (List ℕ)) (at : ℕ) (global : Global) (t : State) → left.now ≡ at ∷ more.now → slice_get sheet.globals at ≡ Some global
      → rest sheet w (f.Globals left false ∷ frames) (at_root values) t
      ≡ after (under (base frames) (after (after (global_in sheet w (Some global) at values t) (λ later. globals_in sheet w more.now later)) (λ globals. pure (at_root globals)))) (rest sheet w frames)
  global_as left more at global t has is =
      ap (λ l. globals_so false l t) has
      ∙ ap (λ (g : Option Global). after
      (under (base frames) (after (after (global_in sheet w g at values t) (λ later. globals_in sheet w more.now later)) (λ globals. pure (at_root globals)))) (rest sheet w frames)) is

  pub global_fails : (left more : Bor (List ℕ)) (at : ℕ) (global : Global) → left.now ≡ at ∷ more.now → slice_get sheet.globals at ≡ Some global
      → rest sheet w (f.Globals left false ∷ frames) (at_root values) (emptied s) ≡ Faulted Budget (surface (base frames) (emptied s))
  global_fails left more at global has is = global_as left more at global (emptied s) has is

  begun_as : (left more : Bor (List ℕ)) (at : ℕ) (global : Global) → left.now ≡ at ∷ more.now → slice_get sheet.globals at ≡ Some global
      → rest sheet w (f.Globals left true ∷ frames) (at_root values) s
      ≡ after (under (base frames) (after (after (begun_global sheet w (Some global) at values s) (λ later. globals_in sheet w more.now later))
      (λ globals. pure (at_root globals)))) (rest sheet w frames)
  begun_as left more at global has is =
      ap (λ l. globals_so true l s) has
      ∙ ap (λ (g : Option Global). after
      (under (base frames) (after (after (begun_global sheet w g at values s) (λ later. globals_in sheet w more.now later)) (λ globals. pure (at_root globals)))) (rest sheet w frames)) is

  pub global_begins : (left more : Bor (List ℕ)) (at : ℕ) (global : Global) → left.now ≡ at ∷ more.now → slice_get sheet.globals at ≡ Some global
      → rest sheet w (f.Globals left false ∷ frames) (at_root values) (with_unit s) ≡ rest sheet w (f.Globals left true ∷ frames) (at_root values) s
  global_begins left more at global has is = global_as left more at global (with_unit s) has is ∙ sym (begun_as left more at global has is)

  -- the value of a global; no template is open
  pub global_gives : (left more : Bor (List ℕ)) (at : ℕ) (global : Global) → left.now ≡ at ∷ more.now → slice_get sheet.globals at ≡ Some global → depth frames ≡ 0
      → rest sheet w (f.Globals left true ∷ frames) (at_root values) s ≡ gives sheet w frames (at_root values) s global.value (use_of.Global at more)
  global_gives left more at global has is none =
      let o : ℕ → Ran Value = λ d. giving_of global.value (setting sheet w values) (templates (most_nested - d) (setting sheet w values)) (place (alone 0) []) s in
      begun_as left more at global has is
      ∙ ap (λ r. after (under (base frames) (after r (λ globals. pure (at_root globals)))) (rest sheet w frames))
      (after_assoc (o 0) (λ value. pure (slice_set values at value)) (λ later. globals_in sheet w more.now later))
      ∙ ap (λ r. after (under (base frames) r) (rest sheet w frames)) (after_assoc (o 0) (λ value. globals_in sheet w more.now (slice_set values at value)) (λ globals. pure (at_root globals)))
      ∙ ap (λ d. after (under (base frames) (after (o d) (λ value. globals_in sheet w more.now (slice_set values at value) >>= λ globals. pure (at_root globals)))) (rest sheet w frames)) (sym none)
