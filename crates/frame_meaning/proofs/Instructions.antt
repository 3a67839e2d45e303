-- What each instruction leaves, once it has its unit and its questions are answered.
use Rattle.std.proofs.Common.{◌≡◌, refl, sym, ap, ◌∙◌, ℕ, suc, ◌-◌, List, [], ◌∷◌, ◌++◌, map, take, length, Bool, true, false, Option}
use Rattle.std.specs.Borrow.{Bor}
use Rattle.copy_meaning.specs.Copies.{result_name}
use Rattle.doc_model.specs.Answers.{Known}
use Rattle.doc_model.specs.declared.row.Kind.{Kind}
use Rattle.doc_model.specs.declared.row.Kind.TheVariants as kind
use Rattle.doc_model.specs.declared.row.Row.{Row}
use Rattle.engine_meaning.specs.Events.{name_of, outer_text}
use Rattle.engine_meaning.specs.Execution.{Action, Giving, Binding, Case, InMode, Named, Templates, acts, spends, attributes_in, binding_of}
use Rattle.engine_meaning.specs.Execution.{body_does, case_of, chosen_case, copies_in, does, giving_of, handed, if_true, made_apart}
use Rattle.engine_meaning.specs.Execution.{most_nested, shallow, terminated, value_copied, within}
use Rattle.engine_meaning.specs.Items.{selected}
use Rattle.engine_meaning.specs.Places.{World, Setting, Place, place}
use Rattle.engine_meaning.specs.Questions.{value_at, text_at, truth_at, name_at, target_at, row_here}
use Rattle.engine_meaning.specs.Runs.{State, Ran, Done, Faulted, Waits, Run, after, ◌>>=◌, ◌>>◌, pure, emit, tell, with_events}
use Rattle.fault_kinds.specs.declared.fault.FaultKind.TheVariants.{Budget}
use Rattle.frame_meaning.proofs.Asks.{known, flat}
use Rattle.frame_meaning.proofs.Ends.{body_ends, apart_ends}
use Rattle.frame_meaning.proofs.Layers.{binding_is, does_is}
use Rattle.frame_meaning.proofs.Locals.{body_adds}
use Rattle.frame_meaning.proofs.Surfaces.{after_assoc, under_assoc}
use Rattle.frame_meaning.specs.Acted.{acted, room}
use Rattle.frame_meaning.specs.Apart.{surface, under}
use Rattle.frames.specs.Apart.{base}
use Rattle.frame_meaning.specs.Rest.{rest}
use Rattle.frame_meaning.specs.Stand.{Stand, at_place, setting_at}
use Rattle.frame_meaning.specs.Selects.{selects}
use Rattle.frame_meaning.specs.Uses.{passes, used}
use Rattle.frame_meaning.specs.Work.{bodies_of, frame_does, layer, left_does}
use Rattle.frames.specs.Depth.{depth}
use Rattle.frames.specs.declared.frame.Frame.{Frame}
use Rattle.frames.specs.declared.frame.Frame.TheVariants as f
use Rattle.frames.specs.declared.parts.Call.TheVariants as call
use Rattle.frames.specs.declared.parts.Purpose.{Purpose}
use Rattle.frames.specs.declared.parts.Purpose.TheVariants as purpose
use Rattle.frames.specs.declared.parts.Use.TheVariants as use_of
use Rattle.frames.specs.declared.parts.Work.TheVariants as work
use Rattle.result_events.specs.Pushed.{pushed}
use Rattle.result_events.specs.declared.event.Name.{Name}
use Rattle.result_events.specs.declared.event.ResultEvent.{ResultEvent}
use Rattle.result_events.specs.declared.event.ResultEvent.TheVariants as event
use Rattle.sheet_ast.specs.declared.instruction.Instruction.{Instruction}
use Rattle.sheet_ast.specs.declared.instruction.Instruction.TheOpen.{Instruction-F}
use Rattle.sheet_ast.specs.declared.instruction.LiteralAttr.{LiteralAttr}
use Rattle.sheet_ast.specs.declared.instruction.SortDecl.{SortDecl}
use Rattle.sheet_ast.specs.declared.instruction.Variable.{Variable, out-Variable}
use Rattle.sheet_ast.specs.declared.instruction.When.{When}
use Rattle.sheet_ast.specs.declared.sheet.Sheet.{Sheet}
use Rattle.xpath_syntax.specs.declared.expression.Expr.{Expr}
use Rattle.xpath_syntax.specs.declared.expression.NameRef.{NameRef}
use Rattle.xpath_syntax.specs.declared.pattern.Part.{Part}
use Rattle.xpath_values.specs.Conversions as atoms
use Rattle.xpath_values.specs.Fragments as fragments
use Rattle.xpath_values.specs.declared.atom.Atom.{Atom}
use Rattle.xpath_values.specs.declared.value.Value.{Value}
use Rattle.xpath_values.specs.declared.value.Value.TheVariants as value

-- what was made, with one more event
abbrev pub with_event : State → ResultEvent → State
with_event s e = with_events s (pushed s.events e)

-- a state that has one unit more
abbrev pub with_unit : State → State
with_unit s = record { budget = suc s.budget; events = s.events; messages = s.messages }

-- without a unit
abbrev pub emptied : State → State
emptied s = record { budget = 0; events = s.events; messages = s.messages }

module _ (sheet : Sheet) (w : World) (others : Bor (List Instruction)) (kept : ℕ) (frames : List Frame) (h : Stand) where
  -- the instructions behind it, and the frames
  abbrev below : List Frame
  below = f.Body others false kept ∷ frames

  abbrev W : Setting
  W = setting_at sheet w h

  abbrev T : Templates
  T = room sheet w frames h

  abbrev c : Place
  c = h.place

  abbrev R : List Value → Run (Unit {0})
  R locals = rest sheet w below (at_place h c.context locals)

  abbrev does_it : Instruction-F Action Giving Binding Case → State → Ran (Unit {0})
  does_it y s = acted sheet w y others kept frames h s

  pub text_moves : (s : State) (bytes : List ℕ) → does_it (Instruction-F.LiteralText bytes) s ≡ rest sheet w below h (with_event s (event.Text bytes))
  unfolding emit
  text_moves s bytes = refl

  pub element_moves : (s : State) (name : NameRef) (attributes : Bor (List LiteralAttr)) (body : Bor (List Instruction))
      → does_it (Instruction-F.LiteralElement name attributes.now (map does body.now)) s ≡ rest sheet w (f.Literal attributes body ∷ below) h (with_event s (event.Start (name_of name)))
  unfolding emit
  element_moves s name attributes body =
      flat (base frames) ((attributes_in attributes.now W c >> within (map does body.now) W T c >> emit event.End) (with_event s (event.Start (name_of name)))) c.locals R h
      (rest sheet w below) (λ t. refl)

  pub value_moves : (s : State) (select : Expr) (text : List ℕ) → text_at W c select ≡ Known text → does_it (Instruction-F.ValueOf select) s ≡ rest sheet w below h (with_event s (event.Text text))
  unfolding emit
  value_moves s select text is = known (base frames) s (λ string. emit (event.Text string) >> pure c.locals) R (text_at W c select) text is

  copy_of_as : (s : State) (select : Expr) (v : Value) → value_at W c select ≡ Known v
      → does_it (Instruction-F.CopyOf select) s ≡ after (under (base frames) (after (value_copied w v s) (λ _. pure c.locals))) R
  copy_of_as s select v is = known (base frames) s (λ v. value_copied w v >> pure c.locals) R (value_at W c select) v is

  pub copy_of_nodes : (s : State) (select : Expr) (nodes : List ℕ) → value_at W c select ≡ Known (value.Nodes nodes)
      → does_it (Instruction-F.CopyOf select) s ≡ rest sheet w (f.Copies nodes 0 ∷ below) h s
  copy_of_nodes s select nodes is = copy_of_as s select (value.Nodes nodes) is ∙ flat (base frames) (copies_in w nodes s) c.locals R h (rest sheet w below) (λ t. refl)

  pub copy_of_atom : (s : State) (select : Expr) (atom : Atom) → value_at W c select ≡ Known (value.Atom atom)
      → does_it (Instruction-F.CopyOf select) s ≡ rest sheet w below h (with_event s (event.Text (atoms.text_of atom)))
  unfolding emit
  copy_of_atom s select atom is = copy_of_as s select (value.Atom atom) is

  pub copy_of_fragment : (s : State) (select : Expr) (events : List ResultEvent) → value_at W c select ≡ Known (value.Fragment events)
      → does_it (Instruction-F.CopyOf select) s ≡ rest sheet w below h (with_events s (s.events ++ events))
  copy_of_fragment s select events is = copy_of_as s select (value.Fragment events) is

  -- a body between a start and an end
  around : (s : State) (body : Bor (List Instruction)) → after (under (base frames) (after (after (within (map does body.now) W T c s) (λ _. emit event.End)) (λ _. pure c.locals))) R
      ≡ rest sheet w (f.Body body false (length c.locals) ∷ f.Close ∷ below) h s
  unfolding emit
  around s body =
      ap (λ o. after (under (base frames) o) R) (after_assoc (within (map does body.now) W T c s) (λ _. emit event.End) (λ _. pure c.locals))
      ∙ body_ends (base frames) h c.context c.locals (body_does body.now W T c s) (body_adds body.now W T c s) (emit event.End >> pure c.locals) R (rest sheet w (f.Close ∷ below)) (λ t. refl)

  -- a body alone
  alone : (s : State) (body : Bor (List Instruction))
      → after (under (base frames) (after (within (map does body.now) W T c s) (λ _. pure c.locals))) R ≡ rest sheet w (f.Body body false (length c.locals) ∷ below) h s
  alone s body = body_ends (base frames) h c.context c.locals (body_does body.now W T c s) (body_adds body.now W T c s) (pure c.locals) R (rest sheet w below) (λ t. refl)

  copy_as : (s : State) (body : Bor (List Instruction)) (row : Row) → row_here W c ≡ Known row → does_it (Instruction-F.Copy (map does body.now)) s
      ≡ after (under (base frames) (after (shallow row.kind row (map does body.now) W T c s) (λ _. pure c.locals))) R
  copy_as s body row is = known (base frames) s (λ row. shallow row.kind row (map does body.now) W T c >> pure c.locals) R (row_here W c) row is

  pub copy_by : (s : State) (body : Bor (List Instruction)) (row : Row) (k : Kind) → row_here W c ≡ Known row → row.kind ≡ k → does_it (Instruction-F.Copy (map does body.now)) s
      ≡ after (under (base frames) (after (shallow k row (map does body.now) W T c s) (λ _. pure c.locals))) R
  copy_by s body row k is of = copy_as s body row is ∙ ap (λ k. after (under (base frames) (after (shallow k row (map does body.now) W T c s) (λ _. pure c.locals))) R) of

  pub copy_root : (s : State) (body : Bor (List Instruction)) (row : Row) → row_here W c ≡ Known row → row.kind ≡ kind.Root
      → does_it (Instruction-F.Copy (map does body.now)) s ≡ rest sheet w (f.Body body false (length c.locals) ∷ below) h s
  copy_root s body row is of = copy_by s body row kind.Root is of ∙ alone s body

  pub copy_element : (s : State) (body : Bor (List Instruction)) (row : Row) → row_here W c ≡ Known row → row.kind ≡ kind.Element
      → does_it (Instruction-F.Copy (map does body.now)) s ≡ rest sheet w (f.Body body false (length c.locals) ∷ f.Close ∷ below) h (with_event s (event.Start (result_name row)))
  unfolding emit
  copy_element s body row is of = copy_by s body row kind.Element is of ∙ around (with_event s (event.Start (result_name row))) body

  pub computed_moves : (s : State) (name : List Part) (namespace : Option (List Part)) (scope : ℕ) (body : Bor (List Instruction)) (found : Name) → name_at W c false name namespace scope ≡ Known found
      → does_it (Instruction-F.Element name namespace scope (map does body.now)) s ≡ rest sheet w (f.Body body false (length c.locals) ∷ f.Close ∷ below) h (with_event s (event.Start found))
  unfolding emit
  computed_moves s name namespace scope body found is =
      known (base frames) s (λ found. emit (event.Start found) >> within (map does body.now) W T c >> emit event.End >> pure c.locals) R (name_at W c false name namespace scope) found is
      ∙ around (with_event s (event.Start found)) body

  -- a body that is run apart
  apart_moves : (s : State) (body : Bor (List Instruction)) (purpose : Purpose) (k : List ResultEvent → Run (List Value))
      → ((t : State) → after (under (base frames) (k t.events (with_events t s.events))) R ≡ rest sheet w (f.Apart s.events purpose ∷ below) h t)
      → after (under (base frames) (after (made_apart (map does body.now) W T c s) k)) R ≡ rest sheet w (f.Body body false (length c.locals) ∷ f.Apart s.events purpose ∷ below) h (with_events s [])
  apart_moves s body purpose k e =
      apart_ends (base frames) h c.context c.locals s.events (body_does body.now W T c (with_events s [])) (body_adds body.now W T c (with_events s [])) k R
      (rest sheet w (f.Apart s.events purpose ∷ below)) e

  pub attribute_moves : (s : State) (name : List Part) (namespace : Option (List Part)) (scope : ℕ) (body : Bor (List Instruction)) (found : Name) → name_at W c true name namespace scope ≡ Known found
      → does_it (Instruction-F.Attribute name namespace scope (map does body.now)) s
      ≡ rest sheet w (f.Body body false (length c.locals) ∷ f.Apart s.events (purpose.Attribute found) ∷ below) h (with_events s [])
  unfolding emit
  attribute_moves s name namespace scope body found is =
      known (base frames) s (λ found. made_apart (map does body.now) W T c >>= λ made. emit (event.Attr found (outer_text made)) >> pure c.locals) R (name_at W c true name namespace scope) found is
      ∙ apart_moves s body (purpose.Attribute found) (λ made. emit (event.Attr found (outer_text made)) >> pure c.locals) (λ t. refl)

  pub processing_moves : (s : State) (name : List Part) (body : Bor (List Instruction)) (target : List ℕ) → target_at W c name ≡ Known target
      → does_it (Instruction-F.Processing name (map does body.now)) s ≡ rest sheet w (f.Body body false (length c.locals) ∷ f.Apart s.events (purpose.Processing target) ∷ below) h (with_events s [])
  unfolding emit
  processing_moves s name body target is =
      known (base frames) s (λ target. made_apart (map does body.now) W T c >>= λ made. emit (event.Instruction target (outer_text made)) >> pure c.locals) R (target_at W c name) target is
      ∙ apart_moves s body (purpose.Processing target) (λ made. emit (event.Instruction target (outer_text made)) >> pure c.locals) (λ t. refl)

  pub comment_moves : (s : State) (body : Bor (List Instruction)) → does_it (Instruction-F.Comment (map does body.now)) s
      ≡ rest sheet w (f.Body body false (length c.locals) ∷ f.Apart s.events purpose.Comment ∷ below) h (with_events s [])
  unfolding emit
  comment_moves s body = apart_moves s body purpose.Comment (λ made. emit (event.Comment (outer_text made)) >> pure c.locals) (λ t. refl)

  pub message_moves : (s : State) (terminate : Bool) (body : Bor (List Instruction)) → does_it (Instruction-F.Message terminate (map does body.now)) s
      ≡ rest sheet w (f.Body body false (length c.locals) ∷ f.Apart s.events (purpose.Message terminate) ∷ below) h (with_events s [])
  message_moves s true body = apart_moves s body (purpose.Message true) (λ made. tell (fragments.text_of made) >> terminated true >> pure c.locals) (λ t. refl)
  message_moves s false body = apart_moves s body (purpose.Message false) (λ made. tell (fragments.text_of made) >> terminated false >> pure c.locals) (λ t. refl)

  pub if_moves : (s : State) (test : Expr) (body : Bor (List Instruction)) → truth_at W c test ≡ Known true
      → does_it (Instruction-F.If test (map does body.now)) s ≡ rest sheet w (f.Body body false (length c.locals) ∷ below) h s
  if_moves s test body is = known (base frames) s (λ holds. if_true holds (within (map does body.now) W T c) >> pure c.locals) R (truth_at W c test) true is ∙ alone s body

  pub if_passes : (s : State) (test : Expr) (body : List Action) → truth_at W c test ≡ Known false → does_it (Instruction-F.If test body) s ≡ rest sheet w below h s
  if_passes s test body is = known (base frames) s (λ holds. if_true holds (within body W T c) >> pure c.locals) R (truth_at W c test) false is

  pub choose_moves : (s : State) (whens : Bor (List When)) (otherwise : Option (Bor (List Instruction))) → does_it (Instruction-F.Choose (map case_of whens.now) (bodies_of otherwise)) s
      ≡ rest sheet w (f.Whens whens otherwise ∷ below) h s
  choose_moves s whens otherwise = flat (base frames) (chosen_case (map case_of whens.now) (bodies_of otherwise) W T c s) c.locals R h (rest sheet w below) (λ t. refl)

  pub apply_moves : (s : State) (select : Bor Expr) (mode : ℕ) (sorts : Bor (List SortDecl)) (params : Bor (List Variable))
      → does_it (Instruction-F.Apply select.now mode sorts.now (map binding_of params.now)) s
      ≡ rest sheet w (f.Params (record { call = call.Apply select mode sorts; left = params; given = [] }) ∷ below) h s
  apply_moves s select mode sorts params =
      ap (λ o. after (under (base frames) o) R)
      (sym (after_assoc (handed (map binding_of params.now) W T c s) (λ given. selected W c select.now sorts.now (T (InMode mode) given)) (λ _. pure c.locals)))
      ∙ flat (base frames) (passes (call.Apply select mode sorts) params.now [] W T c s) c.locals R h (rest sheet w below) (λ t. refl)

  pub call_moves : (s : State) (template : ℕ) (params : Bor (List Variable)) → does_it (Instruction-F.CallTemplate template (map binding_of params.now)) s
      ≡ rest sheet w (f.Params (record { call = call.Template template; left = params; given = [] }) ∷ below) h s
  call_moves s template params =
      ap (λ o. after (under (base frames) o) R) (sym (after_assoc (handed (map binding_of params.now) W T c s) (λ given. T (Named template) given c.context) (λ _. pure c.locals)))
      ∙ flat (base frames) (passes (call.Template template) params.now [] W T c s) c.locals R h (rest sheet w below) (λ t. refl)

  -- a frame that does what a select does at the items
  pub for_each_moves : (s : State) (select : Expr) (sorts : List SortDecl) (body : Bor (List Instruction)) (frame : Frame)
      → frame_does frame sheet w (most_nested - depth frames) h s ≡ selects sheet w h select sorts (work.ByBody body) (most_nested - depth frames) s
      → does_it (Instruction-F.ForEach select sorts (map does body.now)) s ≡ rest sheet w (frame ∷ below) h s
  for_each_moves s select sorts body frame is =
      flat (base frames) (selected W c select sorts (λ item. within (map does body.now) W T (place item c.locals)) s) c.locals R h (rest sheet w below) (λ t. refl)
      ∙ ap (λ o. after (under (base frames) o) (rest sheet w below)) (sym is)

  giving_ends : (b : Option (List ResultEvent)) (o : Ran Value) (g : List Value → Run (Unit {0})) (next : Stand → Run (Unit {0}))
      → ((l : List Value) (t : State) → g l t ≡ next (at_place h c.context l) t)
      → after (under b (after o (λ x. pure (c.locals ++ x ∷ [])))) g ≡ after (under b (after o (λ x. used use_of.Local x sheet w (most_nested - depth frames) h))) next
  giving_ends b (Done x t) g next e = e (c.locals ++ x ∷ []) t
  giving_ends b (Faulted e t) g next _ = refl
  giving_ends b (Waits m t) g next e = refl

  pub local_moves : (s : State) (v : Variable) → does_it (Instruction-F.Local (binding_of v)) s
      ≡ after (under (base frames) (after (giving_of (out-Variable v).value W T c s) (λ x. used use_of.Local x sheet w (most_nested - depth frames) h))) (rest sheet w below)
  local_moves s v =
      ap (λ (b : Binding). after (under (base frames) (after (b.value W T c s) (λ x. pure (c.locals ++ x ∷ [])))) R) (binding_is v)
      ∙ giving_ends (base frames) (giving_of (out-Variable v).value W T c s) R (rest sheet w below) (λ l t. refl)

-- instructions are begun

module _ (sheet : Sheet) (w : World) (kept : ℕ) (frames : List Frame) (h : Stand) where
  abbrev ends_body : List Value → Run Stand
  ends_body locals = pure (at_place h h.place.context (take kept locals))

  pub body_ends_so : (s : State) (is : Bor (List Instruction)) (begun : Bool) → is.now ≡ []
      → rest sheet w (f.Body is begun kept ∷ frames) h s ≡ rest sheet w frames (at_place h h.place.context (take kept h.place.locals)) s
  body_ends_so s is begun e = ap
      (λ l. after (under (base frames) (after (left_does begun l (setting_at sheet w h) (room sheet w frames h) h.place s) ends_body)) (rest sheet w frames)) e ∙ none begun where
        none : (begun : Bool) → after (under (base frames) (after (left_does begun [] (setting_at sheet w h) (room sheet w frames h) h.place s) ends_body)) (rest sheet w frames)
            ≡ rest sheet w frames (at_place h h.place.context (take kept h.place.locals)) s
        none true = refl
        none false = refl

  pub begun_acts : (s : State) (is others : Bor (List Instruction)) (i : Instruction) → is.now ≡ i ∷ others.now
      → rest sheet w (f.Body is true kept ∷ frames) h s ≡ acted sheet w (layer i) others kept frames h s
  begun_acts s is others i e =
      let W : Setting = setting_at sheet w h in
      let T : Templates = room sheet w frames h in
      let R : Stand → Run (Unit {0}) = rest sheet w frames in
      ap (λ l. after (under (base frames) (after (left_does true l W T h.place s) ends_body)) R) e
      ∙ ap (λ o. after (under (base frames) o) R) (after_assoc (acts (layer i) W T h.place s) (λ locals. body_does others.now W T (place h.place.context locals)) ends_body)
      ∙ under_assoc (base frames) (acts (layer i) W T h.place s) (λ locals t. after (body_does others.now W T (place h.place.context locals) t) ends_body) R

  begin_as : (s : State) (is : Bor (List Instruction)) (i : Instruction) (more : List Instruction) → is.now ≡ i ∷ more → rest sheet w (f.Body is false kept ∷ frames) h s
      ≡ after (under (base frames) (after
      (after (spends (layer i) (setting_at sheet w h) (room sheet w frames h) h.place s)
      (λ locals. body_does more (setting_at sheet w h) (room sheet w frames h) (place h.place.context locals))) ends_body)) (rest sheet w frames)
  begin_as s is i more e =
      ap (λ l. after (under (base frames) (after (left_does false l (setting_at sheet w h) (room sheet w frames h) h.place s) ends_body)) (rest sheet w frames)) e
      ∙ ap (λ (a : Action). after (under (base frames)
      (after (after (a (setting_at sheet w h) (room sheet w frames h) h.place s)
      (λ locals. body_does more (setting_at sheet w h) (room sheet w frames h) (place h.place.context locals))) ends_body)) (rest sheet w frames)) (does_is i)

  pub begins : (s : State) (is : Bor (List Instruction)) (i : Instruction) (more : List Instruction) → is.now ≡ i ∷ more
      → rest sheet w (f.Body is false kept ∷ frames) h (with_unit s) ≡ rest sheet w (f.Body is true kept ∷ frames) h s
  begins s is i more e =
      begin_as (with_unit s) is i more e
      ∙ sym (ap (λ l. after (under (base frames) (after (left_does true l (setting_at sheet w h) (room sheet w frames h) h.place s) ends_body)) (rest sheet w frames)) e)

  pub begin_fails : (s : State) (is : Bor (List Instruction)) (i : Instruction) (more : List Instruction) → is.now ≡ i ∷ more
      → rest sheet w (f.Body is false kept ∷ frames) h (emptied s) ≡ Faulted Budget (surface (base frames) (emptied s))
  begin_fails s is i more e = begin_as (emptied s) is i more e
