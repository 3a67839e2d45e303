-- Variables, parameters, globals and values that are handed on: how each gets its value, and what becomes of it.
use Rattle.std.proofs.Common.{◌≡◌, refl, sym, ap, ◌∙◌, ℕ, ◌-◌, List, [], ◌∷◌, ◌++◌, append_assoc, map, take, length, Bool, true, false, Option, Some, None}
use Rattle.std.specs.Borrow.{Bor}
use Rattle.std.specs.Prelude.{slice_set}
use Rattle.doc_model.specs.Answers.{Known, Fault, Open}
use Rattle.engine_meaning.specs.Execution.{Action, Giving, Binding, Case, Templates, binding_of, case_of, does, giving_by, giving_of, handed}
use Rattle.engine_meaning.specs.Execution.{made_apart, most_nested, or_own, params_in, body_does, within}
use Rattle.engine_meaning.specs.Places.{World, Setting, Place, place, with_local, Given, given_as}
use Rattle.engine_meaning.specs.Questions.{value_at}
use Rattle.engine_meaning.specs.Runs.{State, Ran, Done, Faulted, Waits, Run, after, ◌>>=◌, pure, ask, with_events}
use Rattle.fault_kinds.specs.declared.fault.FaultKind.{FaultKind}
use Rattle.fault_kinds.specs.declared.fault.FaultKind.TheVariants.{Budget}
use Rattle.frame_meaning.proofs.Ends.{apart_ends}
use Rattle.frame_meaning.proofs.Instructions.{with_unit, emptied}
use Rattle.frame_meaning.proofs.Layers.{binding_is, giving_is}
use Rattle.frame_meaning.proofs.Locals.{body_adds}
use Rattle.frame_meaning.proofs.Surfaces.{after_assoc, after_same}
use Rattle.frame_meaning.specs.Acted.{room}
use Rattle.frame_meaning.specs.Apart.{surface, under}
use Rattle.frames.specs.Apart.{base}
use Rattle.frame_meaning.specs.Rest.{rest}
use Rattle.frame_meaning.specs.Stand.{Stand, stand, at_place, setting_at}
use Rattle.frame_meaning.specs.Uses.{calls, declares, given_of, givens, passes, used}
use Rattle.frames.specs.Depth.{depth}
use Rattle.frames.specs.declared.frame.Frame.{Frame}
use Rattle.frames.specs.declared.frame.Frame.TheVariants as f
use Rattle.frames.specs.declared.parts.Call.{Call}
use Rattle.frames.specs.declared.parts.Handed.{Handed}
use Rattle.frames.specs.declared.parts.Purpose.TheVariants as purpose
use Rattle.frames.specs.declared.parts.Use.{Use}
use Rattle.frames.specs.declared.parts.Use.TheVariants as use_of
use Rattle.sheet_ast.specs.declared.instruction.Instruction.{Instruction}
use Rattle.sheet_ast.specs.declared.instruction.Instruction.TheOpen.{VarValue-F}
use Rattle.sheet_ast.specs.declared.instruction.Instruction.TheFolds.{map-VarValue}
use Rattle.sheet_ast.specs.declared.instruction.Variable.{Variable, out-Variable}
use Rattle.sheet_ast.specs.declared.instruction.VarValue.{VarValue, out-VarValue}
use Rattle.sheet_ast.specs.declared.instruction.When.{When}
use Rattle.sheet_ast.specs.declared.sheet.Sheet.{Sheet}
use Rattle.xpath_meaning.specs.Conversions.{text}
use Rattle.xpath_meaning.specs.Outcome.{Outcome}
use Rattle.xpath_syntax.specs.declared.expression.Expr.{Expr}
use Rattle.xpath_syntax.specs.declared.expression.NameRef.{NameRef}
use Rattle.xpath_values.specs.declared.value.Value.{Value}
use Rattle.xpath_values.specs.declared.value.Value.TheVariants.{Fragment}

map_append : {A B : Type 0} (k : A → B) (xs ys : List A) → map k (xs ++ ys) ≡ map k xs ++ map k ys
map_append k [] ys = refl
map_append k (x ∷ xs) ys = ap (λ l. k x ∷ l) (map_append k xs ys)

-- what a variable's value is used for

module _ (sheet : Sheet) (w : World) (frames : List Frame) (h : Stand) (s : State) where
  abbrev W : Setting
  W = setting_at sheet w h

  abbrev T : Templates
  T = room sheet w frames h

  abbrev c : Place
  c = h.place

  -- a value is used so, and then come the frames
  abbrev pub uses : Use → Value → Ran (Unit {0})
  uses u x = after (under (base frames) (used u x sheet w (most_nested - depth frames) h s)) (rest sheet w frames)

  -- the value of a variable, which is used so, and then come the frames
  abbrev pub gives : VarValue → Use → Ran (Unit {0})
  gives v u = after (under (base frames) (after (giving_of v W T c s) (λ x. used u x sheet w (most_nested - depth frames) h))) (rest sheet w frames)

  gives_as : (v : VarValue) (u : Use) (y : VarValue-F Instruction VarValue Variable When) → out-VarValue v ≡ y → gives v u
      ≡ after (under (base frames) (after (giving_by (map-VarValue Instruction VarValue Variable When Action Giving Binding Case does giving_of binding_of case_of y) W T c s)
      (λ x. used u x sheet w (most_nested - depth frames) h)))
      (rest sheet w frames)
  gives_as v u y is =
      ap (λ (g : Giving). after (under (base frames) (after (g W T c s) (λ x. used u x sheet w (most_nested - depth frames) h))) (rest sheet w frames))
      (giving_is v ∙ ap (λ y. giving_by (map-VarValue Instruction VarValue Variable When Action Giving Binding Case does giving_of binding_of case_of y)) is)

  select_as : (v : VarValue) (u : Use) (e : Expr) (o : Outcome Value) → out-VarValue v ≡ VarValue-F.Select e → value_at W c e ≡ o
      → gives v u ≡ after (under (base frames) (after (ask o s) (λ x. used u x sheet w (most_nested - depth frames) h))) (rest sheet w frames)
  select_as v u e o of is =
      gives_as v u (VarValue-F.Select e) of ∙ ap (λ (o : Outcome Value). after (under (base frames) (after (ask o s) (λ x. used u x sheet w (most_nested - depth frames) h))) (rest sheet w frames)) is

  pub select_gives : (v : VarValue) (u : Use) (e : Expr) (x : Value) → out-VarValue v ≡ VarValue-F.Select e → value_at W c e ≡ Known x → gives v u ≡ uses u x
  select_gives v u e x of is = select_as v u e (Known x) of is

  pub select_fails : (v : VarValue) (u : Use) (e : Expr) (k : FaultKind) → out-VarValue v ≡ VarValue-F.Select e → value_at W c e ≡ Fault k → gives v u ≡ Faulted k (surface (base frames) s)
  select_fails v u e k of is = select_as v u e (Fault k) of is

  pub select_waits : (v : VarValue) (u : Use) (e : Expr) (m : ℕ) → out-VarValue v ≡ VarValue-F.Select e → value_at W c e ≡ Open m → gives v u ≡ Waits m (surface (base frames) s)
  select_waits v u e m of is = select_as v u e (Open m) of is

  pub empty_gives : (v : VarValue) (u : Use) → out-VarValue v ≡ VarValue-F.Empty → gives v u ≡ uses u (text [])
  empty_gives v u of = gives_as v u VarValue-F.Empty of

  -- the events of a body, which is run apart
  pub content_gives : (v : VarValue) (u : Use) (body : Bor (List Instruction)) → out-VarValue v ≡ VarValue-F.Content body.now
      → gives v u ≡ rest sheet w (f.Body body false (length c.locals) ∷ f.Apart s.events (purpose.Value u) ∷ frames) h (with_events s [])
  content_gives v u body of =
      gives_as v u (VarValue-F.Content body.now) of
      ∙ ap (λ o. after (under (base frames) o) (rest sheet w frames))
      (after_assoc (made_apart (map does body.now) W T c s) (λ made. pure (Fragment made)) (λ x. used u x sheet w (most_nested - depth frames) h))
      ∙ apart_ends (base frames) h c.context c.locals s.events (body_does body.now W T c (with_events s [])) (body_adds body.now W T c (with_events s []))
      (λ made. used u (Fragment made) sheet w (most_nested - depth frames) h)
      (rest sheet w frames) (rest sheet w (f.Apart s.events (purpose.Value u) ∷ frames)) (λ t. refl)

  pub local_used : (x : Value) → uses use_of.Local x ≡ rest sheet w frames (at_place h c.context (c.locals ++ x ∷ [])) s
  local_used x = refl

  pub handed_used : (to : Call) (name : Bor NameRef) (left : Bor (List Variable)) (given : List Handed) (x : Value)
      → uses (use_of.Handed name (record { call = to; left = left; given = given })) x
      ≡ rest sheet w (f.Params (record { call = to; left = left; given = given ++ record { name = name; value = x } ∷ [] }) ∷ frames) h s
  handed_used to name left given x =
      ap (λ l. after (under (base frames) (after (passes to left.now l W T c s) (λ _. pure h))) (rest sheet w frames)) (sym (map_append given_of given (record { name = name; value = x } ∷ [])))

  pub declared_used : (left : Bor (List Variable)) (begun : Bool) (given : List Handed) (body : Bor (List Instruction)) (x : Value)
      → uses (use_of.Declared (record { left = left; begun = begun; given = given; body = body })) x
      ≡ rest sheet w (f.Declared (record { left = left; begun = false; given = given; body = body }) ∷ frames) (at_place h c.context (c.locals ++ x ∷ [])) s
  declared_used left begun given body x = refl

  pub global_used : (at : ℕ) (left : Bor (List ℕ)) (x : Value) (p : Place) → uses (use_of.Global at left) x ≡ rest sheet w (f.Globals left false ∷ frames) (stand (slice_set h.globals at x) p) s
  global_used at left x p = refl

-- values that are handed on

module _ (sheet : Sheet) (w : World) (frames : List Frame) (h : Stand) (s : State) where
  abbrev X : Setting
  X = setting_at sheet w h

  abbrev U : Templates
  U = room sheet w frames h

  abbrev R : Stand → Run (Unit {0})
  R = rest sheet w frames

  next_given : NameRef → Value → Given
  next_given name x = record { name = name; value = x }

  passes_step : (to : Call) (b : Binding) (bs : List Binding) (given : List Given) → after (handed (b ∷ bs) X U h.place s) (λ more. calls to (given ++ more) X U h.place)
      ≡ after (b.value X U h.place s) (λ x t. after (handed bs X U h.place t) (λ more. calls to ((given ++ record { name = b.name; value = x } ∷ []) ++ more) X U h.place))
  passes_step to b bs given =
      after_assoc (b.value X U h.place s) (λ x. handed bs X U h.place >>= λ later. pure (record { name = b.name; value = x } ∷ later)) (λ more. calls to (given ++ more) X U h.place)
      ∙ after_same (b.value X U h.place s) _ _ (λ x t.
      after_assoc (handed bs X U h.place t) (λ later. pure (record { name = b.name; value = x } ∷ later)) (λ more. calls to (given ++ more) X U h.place)
      ∙ after_same (handed bs X U h.place t) _ _ (λ later z. ap (λ l. calls to l X U h.place z) (sym (append_assoc given (record { name = b.name; value = x } ∷ []) later))))

  -- the next value that is handed on
  pub params_next : (to : Call) (left more : Bor (List Variable)) (given : List Handed) (v : Variable) (name : Bor NameRef) → left.now ≡ v ∷ more.now → name.now ≡ (out-Variable v).name
      → rest sheet w (f.Params (record { call = to; left = left; given = given }) ∷ frames) h s
      ≡ gives sheet w frames h s (out-Variable v).value (use_of.Handed name (record { call = to; left = more; given = given }))
  params_next to left more given v name has is =
      ap (λ l. after (under (base frames) (after (after (handed (map binding_of l) X U h.place s) (λ m. calls to (givens given ++ m) X U h.place)) (λ _. pure h))) R) has
      ∙ ap (λ o. after (under (base frames) (after o (λ _. pure h))) R) (passes_step to (binding_of v) (map binding_of more.now) (givens given))
      ∙ ap (λ (b : Binding). after (under (base frames) (after (after (b.value X U h.place s) (λ x t. after (handed (map binding_of more.now) X U h.place t)
      (λ m. calls to ((givens given ++ record { name = b.name; value = x } ∷ []) ++ m) X U h.place))) (λ _. pure h))) R) (binding_is v)
      ∙ ap (λ n. after (under (base frames) (after (after (giving_of (out-Variable v).value X U h.place s) (λ x t. after (handed (map binding_of more.now) X U h.place t)
      (λ m. calls to ((givens given ++ record { name = n; value = x } ∷ []) ++ m) X U h.place))) (λ _. pure h))) R) (sym is)
      ∙ ap (λ o. after (under (base frames) o) R) (after_assoc (giving_of (out-Variable v).value X U h.place s) _ (λ _. pure h))

  -- the parameters of a template

  abbrev declares_so : Bor (List Variable) → Bool → List Handed → Bor (List Instruction) → State → Ran (Unit {0})
  declares_so left begun given body t = rest sheet w (f.Declared (record { left = left; begun = begun; given = given; body = body }) ∷ frames) h t

  abbrev by_first : (left : List Variable) (begun : Bool) (given : List Handed) (body : Bor (List Instruction)) (t : State) → Ran (Unit {0})
  by_first left begun given body t = after (under (base frames) (after (declares begun left (givens given) body.now X U h.place t) (λ _. pure (at_place h h.place.context [])))) R

  pub param_begins : (left : Bor (List Variable)) (given : List Handed) (body : Bor (List Instruction)) (v : Variable) (more : List Variable) → left.now ≡ v ∷ more
      → declares_so left false given body (with_unit s) ≡ declares_so left true given body s
  param_begins left given body v more has = ap (λ l. by_first l false given body (with_unit s)) has ∙ sym (ap (λ l. by_first l true given body s) has)

  pub param_fails : (left : Bor (List Variable)) (given : List Handed) (body : Bor (List Instruction)) (v : Variable) (more : List Variable) → left.now ≡ v ∷ more
      → declares_so left false given body (emptied s) ≡ Faulted Budget (surface (base frames) (emptied s))
  param_fails left given body v more has = ap (λ l. by_first l false given body (emptied s)) has

  param_as : (left more : Bor (List Variable)) (given : List Handed) (body : Bor (List Instruction)) (v : Variable) → left.now ≡ v ∷ more.now → declares_so left true given body s
      ≡ after (under (base frames) (after (or_own (given_as (out-Variable v).name (givens given)) (giving_of (out-Variable v).value X U h.place) s)
      (λ x. used (use_of.Declared (record { left = more; begun = false; given = given; body = body })) x sheet w (most_nested - depth frames) h))) R
  param_as left more given body v has =
      ap (λ l. by_first l true given body s) has
      ∙ ap (λ (b : Binding). after (under (base frames)
      (after (after (after (or_own (given_as b.name (givens given)) (b.value X U h.place) s) (λ x. params_in (map binding_of more.now) (givens given) X U (with_local h.place x)))
      (λ locals. within (map does body.now) X U (place h.place.context locals))) (λ _. pure (at_place h h.place.context [])))) R) (binding_is v)
      ∙ ap (λ o. after (under (base frames) o) R)
      (ap (λ o. after o (λ _. pure (at_place h h.place.context [])))
      (after_assoc (or_own (given_as (out-Variable v).name (givens given)) (giving_of (out-Variable v).value X U h.place) s) _
      (λ locals. within (map does body.now) X U (place h.place.context locals)))
      ∙ after_assoc (or_own (given_as (out-Variable v).name (givens given)) (giving_of (out-Variable v).value X U h.place) s) _ (λ _. pure (at_place h h.place.context [])))

  -- a value was handed on under the name: the last of them
  pub param_given : (left more : Bor (List Variable)) (given : List Handed) (body : Bor (List Instruction)) (v : Variable) (x : Value) → left.now ≡ v ∷ more.now
      → given_as (out-Variable v).name (givens given) ≡ Some x
      → declares_so left true given body s ≡ uses sheet w frames h s (use_of.Declared (record { left = more; begun = false; given = given; body = body })) x
  param_given left more given body v x has is =
      param_as left more given body v has
      ∙ ap (λ (o : Option Value). after (under (base frames) (after (or_own o (giving_of (out-Variable v).value X U h.place) s)
      (λ x. used (use_of.Declared (record { left = more; begun = false; given = given; body = body })) x sheet w (most_nested - depth frames) h))) R) is

  -- none was: its own
  pub param_own : (left more : Bor (List Variable)) (given : List Handed) (body : Bor (List Instruction)) (v : Variable) → left.now ≡ v ∷ more.now
      → given_as (out-Variable v).name (givens given) ≡ None
      → declares_so left true given body s ≡ gives sheet w frames h s (out-Variable v).value (use_of.Declared (record { left = more; begun = false; given = given; body = body }))
  param_own left more given body v has is =
      param_as left more given body v has
      ∙ ap (λ (o : Option Value). after (under (base frames) (after (or_own o (giving_of (out-Variable v).value X U h.place) s)
      (λ x. used (use_of.Declared (record { left = more; begun = false; given = given; body = body })) x sheet w (most_nested - depth frames) h))) R) is

  body_left : (o : Ran (List Value)) (g : Stand → Run (Unit {0})) → after (under (base frames) (after (after o (λ _. pure (tt {0}))) (λ _. pure (at_place h h.place.context [])))) g
      ≡ after (under (base frames) (after o (λ locals. pure (at_place h h.place.context (take 0 locals))))) g
  body_left (Done l t) g = refl
  body_left (Faulted e t) g = refl
  body_left (Waits m t) g = refl

  -- behind the parameters comes the body
  pub params_end : (left : Bor (List Variable)) (begun : Bool) (given : List Handed) (body : Bor (List Instruction)) → left.now ≡ []
      → declares_so left begun given body s ≡ rest sheet w (f.Body body false 0 ∷ frames) h s
  params_end left false given body has = ap (λ l. by_first l false given body s) has ∙ body_left (body_does body.now X U h.place s) R
  params_end left true given body has = ap (λ l. by_first l true given body s) has ∙ body_left (body_does body.now X U h.place s) R
