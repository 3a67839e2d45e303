-- What is found for variables and for selects, and what is done with it.
use Rattle.std.specs.Prelude.{◌≡◌, ℕ, ◌-◌, ◌<◌, ◌++◌, List, [], ◌∷◌, false, length, Option, Some, Result, Ok, Err, ⊤}
use Rattle.std.specs.Borrow.{Bor}
use Rattle.doc_model.specs.Lawful.{AtStep}
use Rattle.doc_model.specs.declared.step.Step.{Step}
use Rattle.engine_core.specs.Holding.{Scene, there, world_at}
use Rattle.engine_core.specs.Standing.{stand_of}
use Rattle.engine_core.specs.declared.state.Core.{Core}
use Rattle.engine_laws.specs.Growing.{Continues}
use Rattle.engine_meaning.specs.Execution.{giving_of, most_nested, templates}
use Rattle.engine_meaning.specs.Places.{World}
use Rattle.engine_meaning.specs.Runs.{Ran, Faulted, Run, State, Waits, after, with_events}
use Rattle.engine_questions.specs.Walks.{walk}
use Rattle.engine_values.specs.declared.found.Found.{Found}
use Rattle.engine_values.specs.declared.found.Found.TheVariants as found
use Rattle.engine_values.specs.declared.selection.Selection.{Selection}
use Rattle.engine_values.specs.declared.selection.Selection.TheVariants as selection
use Rattle.frame_meaning.specs.Apart.{surface, under}
use Rattle.frame_meaning.specs.Rest.{rest}
use Rattle.frame_meaning.specs.Selects.{selects}
use Rattle.frame_meaning.specs.Stand.{Stand, setting_at}
use Rattle.frame_meaning.specs.Uses.{used}
use Rattle.frame_meaning.specs.Work.{frame_does}
use Rattle.frames.specs.Apart.{base}
use Rattle.frames.specs.Depth.{depth}
use Rattle.frames.specs.declared.frame.Frame.{Frame}
use Rattle.frames.specs.declared.frame.Frame.TheVariants as f
use Rattle.frames.specs.declared.parts.Purpose.TheVariants as purpose
use Rattle.frames.specs.declared.parts.Use.{Use}
use Rattle.frames.specs.declared.parts.Work.{Work}
use Rattle.sheet_ast.specs.declared.instruction.SortDecl.{SortDecl}
use Rattle.sheet_ast.specs.declared.instruction.VarValue.{VarValue}
use Rattle.sheet_ast.specs.declared.sheet.Sheet.{Sheet}
use Rattle.xpath_laws.specs.Sound.{Each, IsValue}
use Rattle.xpath_meaning.specs.declared.context.Context.{Context}
use Rattle.xpath_meaning.specs.declared.stop.EvalStop.{EvalStop}
use Rattle.xpath_meaning.specs.declared.stop.EvalStop.TheVariants as stop
use Rattle.xpath_syntax.specs.declared.expression.Expr.{Expr}
use Rattle.xpath_values.specs.declared.value.Value.{Value}

-- a value is used so, and then come the frames
abbrev pub uses_so : Sheet → World → List Frame → Stand → State → Use → Value → Ran (Unit {0})
uses_so sheet w frames h s u x = after (under (base frames) (used u x sheet w (most_nested - depth frames) h s)) (rest sheet w frames)

-- the value of a variable, which is used so, and then come the frames
abbrev pub gives_so : Sheet → World → List Frame → Stand → State → VarValue → Use → Ran (Unit {0})
gives_so sheet w frames h s v u =
    after (under (base frames) (after (giving_of v (setting_at sheet w h) (templates (most_nested - depth frames) (setting_at sheet w h)) h.place s)
    (λ x. used u x sheet w (most_nested - depth frames) h))) (rest sheet w frames)

-- what is left with what was found for a variable: its value is used; or its body is run apart, and then its events
abbrev pub with_found : Found → Sheet → World → List Frame → Stand → State → Use → Ran (Unit {0})
with_found (found.Value x) sheet w frames h s u = uses_so sheet w frames h s u x
with_found (found.Content body) sheet w frames h s u =
    rest sheet w (f.Body body false (length h.place.locals) ∷ f.Apart s.events (purpose.Value u) ∷ frames) h (with_events s [])

abbrev pub FoundThere : {S : Type 0} → Scene S → List Step → Found → Type 0
FoundThere z steps (found.Value x) = IsValue (there z steps) x
FoundThere z steps (found.Content body) = ⊤

-- what was found for a variable stands for it on every growth
pub record IsFound {S : Type 0} (z : Scene S) (steps : List Step) (m : Core S) (v : VarValue) (result : Found) : Type 0 where
  pub there : FoundThere z steps result
  pub left : (frames : List Frame) (s : State) (u : Use) (w : World) → Continues (world_at z steps) w
      → gives_so m.sheet.now w frames (stand_of m) s v u ≡ with_found result m.sheet.now w frames (stand_of m) s u

-- what is found for a variable, or why nothing is, whatever it is used for
abbrev pub FindsValue : {S : Type 0} → Scene S → List Step → List Step → Core S → VarValue → Result Found EvalStop → Type 0
FindsValue z before later m v (Ok result) = IsFound z later m v result
FindsValue z before later m v (Err (stop.Fault k)) =
    (frames : List Frame) (s : State) (u : Use) → gives_so m.sheet.now (world_at z later) frames (stand_of m) s v u ≡ Faulted k (surface (base frames) s)
FindsValue z before later m v (Err (stop.NotYet n)) = AtStep before later
    (λ steps. (frames : List Frame) (s : State) (u : Use) → gives_so m.sheet.now (world_at z steps) frames (stand_of m) s v u ≡ Waits n (surface (base frames) s))
FindsValue z before later m v (Err stop.Memory) = ⊤

-- the frame that does some work at what was found for a select: of a select that is sorted the keys come first
abbrev pub whole_frame : List ℕ → Bor (List SortDecl) → List SortDecl → Work → Context → Frame
whole_frame nodes sorts [] k c = f.Items nodes 0 k c
whole_frame nodes sorts (sort ∷ more) k c = f.Keys nodes [] sorts k c

abbrev pub select_frame : {S : Type 0} → Selection S → Bor Expr → Bor (List SortDecl) → Work → Context → Frame
select_frame (selection.Stream stream) select sorts k c = f.Stream (Some select) 0 k c
select_frame (selection.Nodes nodes) select sorts k c = whole_frame nodes sorts sorts.now k c

-- the stream that was found
abbrev pub streams_in : {S : Type 0} → Selection S → List S
streams_in (selection.Stream stream) = stream ∷ []
streams_in (selection.Nodes nodes) = []

abbrev pub SelectionThere : {S : Type 0} → Scene S → List Step → Core S → Expr → Selection S → Type 0
SelectionThere z steps m select (selection.Stream stream) =
    (z.walks stream ≡ walk (Some select) m.context 0) × z.follows stream z.lookups (m.globals ++ m.locals) z.rules steps
SelectionThere z steps m select (selection.Nodes nodes) = Each (there z steps) nodes × (length nodes < 4294967296)

-- what was found for a select stands for it on every growth
pub record IsSelection {S : Type 0} (z : Scene S) (steps : List Step) (m : Core S) (select : Bor Expr) (sorts : Bor (List SortDecl)) (result : Selection S) : Type 0 where
  pub there : SelectionThere z steps m select.now result
  pub left : (k : Work) (more : ℕ) (s : State) (w : World) → Continues (world_at z steps) w
      → frame_does (select_frame result select sorts k m.context) m.sheet.now w more (stand_of m) s ≡ selects m.sheet.now w (stand_of m) select.now sorts.now k more s

-- what is found for a select, or why nothing is, whatever is done at its items
abbrev pub FindsSelection : {S : Type 0} → Scene S → List Step → List Step → Core S → Bor Expr → Bor (List SortDecl) → Result (Selection S) EvalStop → Type 0
FindsSelection z before later m select sorts (Ok result) = IsSelection z later m select sorts result
FindsSelection z before later m select sorts (Err (stop.Fault e)) =
    (k : Work) (more : ℕ) (s : State) → selects m.sheet.now (world_at z later) (stand_of m) select.now sorts.now k more s ≡ Faulted e s
FindsSelection z before later m select sorts (Err (stop.NotYet n)) = AtStep before later
    (λ steps. (k : Work) (more : ℕ) (s : State) → selects m.sheet.now (world_at z steps) (stand_of m) select.now sorts.now k more s ≡ Waits n s)
FindsSelection z before later m select sorts (Err stop.Memory) = ⊤
